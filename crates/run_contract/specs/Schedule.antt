-- When a check of a run is due, and which status it stops the run with (01, "Run": "It checks at sweep 1, the minimum, the most, and every 20th,
-- stopping as `solve_maxcut_sdp_profiled` does"). Written from these words and from that loop of 000; run_sweep, by whose definitions the code's
-- contracts speak, has no part in it. That the two agree is proved in proofs/Scheduled.antt. Definitions only.
use Rattle.std.specs.Prelude.{ℕ, ◌*◌, ◌/◌, ◌≡◌, Bool, true, false, ◌&&◌, ◌||◌, leb, eqb, Float}
use Rattle.std.proofs.Math.Option.{Option, some, none}
use Rattle.std.specs.Float.{nan, inf, fin}
use Rattle.std.specs.Float.Ieee.{lt, le}
use Rattle.ieee.specs.Floats.{◌-ᶠ◌, zero64}
use Rattle.step_rules.specs.declared.StepRule.{StepRule}
use Rattle.step_rules.specs.declared.StepRule.TheVariants.{Grad, GradAdv, Coord, CoordNoStep, CoordMomentum}

-- ---- the schedule

-- "at sweep 1, the minimum, the most, and every 20th"
pub data Due (sweeps minimum most : ℕ) : Type 0 where
  at_first : sweeps ≡ 1 → Due sweeps minimum most
  at_minimum : sweeps ≡ minimum → Due sweeps minimum most
  at_most : sweeps ≡ most → Due sweeps minimum most
  at_twenty : (j : ℕ) → sweeps ≡ 20 * j → Due sweeps minimum most

-- the same as a test; a 20th is 20 times its own quotient
unfoldable pub is_due : ℕ → ℕ → ℕ → Bool
is_due sweeps minimum most = eqb sweeps 1 || eqb sweeps minimum || eqb sweeps most || eqb sweeps (20 * (sweeps / 20))

-- ---- the stop tests

-- `coordinate_momentum` of 000: `Some` of a number for rules 3 and 4, else `None`
abbrev pub coordinate_momentum : StepRule → Option Float
coordinate_momentum (Grad alpha) = none
coordinate_momentum (GradAdv alpha) = none
coordinate_momentum (Coord alpha) = none
coordinate_momentum CoordNoStep = some zero64
coordinate_momentum (CoordMomentum beta) = some beta

abbrev pub is_none : Option Float → Bool
is_none none = true
is_none (some number) = false

-- `abs`: the sign is cleared
abbrev pub abs : Float → Float
abs nan = nan
abs (inf negative) = inf false
abs (fin negative digits exponent) = fin false digits exponent

-- what a check looks at, by the names of that loop
pub record Look : Type 0 where
  pub iterations : ℕ
  pub min_iterations : ℕ
  pub residual : Float
  pub threshold : Float
  pub momentum : Option Float
  pub new : Float
  pub previous : Float
  pub tolerance : Float

-- its three tests, in its order:
-- `iterations >= options.min_stationarity_iterations && residual <= stationarity_threshold`
abbrev pub is_stationary : Look → Bool
is_stationary l = leb l.min_iterations l.iterations && le l.residual l.threshold

-- `coordinate_momentum.is_none() && (new_obj_val - previous_obj_val).abs() < options.objective_tolerance`
abbrev pub is_steady : Look → Bool
is_steady l = is_none l.momentum && lt (abs (l.new -ᶠ l.previous)) l.tolerance

-- `coordinate_momentum.is_none() && new_obj_val > previous_obj_val`
abbrev pub has_risen : Look → Bool
has_risen l = is_none l.momentum && lt l.previous l.new

-- the first that holds ends the loop: with status 1, `ObjectiveTolerance`, or 2, `ObjectiveIncreased`; 0: the run goes on
abbrev pub ends_by : Bool → Bool → Bool → ℕ
ends_by true steady risen = 1
ends_by false true risen = 1
ends_by false false true = 2
ends_by false false false = 0

unfoldable pub verdict : Look → ℕ
verdict l = ends_by (is_stationary l) (is_steady l) (has_risen l)
