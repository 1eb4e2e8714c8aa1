-- The plain run's schedule and stop tests, written from 01's words, are those of the code's contracts. Assumes nothing.
use Prim.Native.Nat.{ℕ, zero, suc, ◌+◌, ◌*◌, ◌/◌, ◌%◌}
use mathlib.Core.Path.{◌≡◌, refl, sym, ap, ◌∙◌}
use mathlib.Core.Bool.{Bool, true, false, cond, ◌&&◌, ◌||◌}
use mathlib.Core.List.{[], ◌∷◌}
use native.Mathlib.Omega.{arith}
use native.Mathlib.Nat.{zero-add, zero-mul, mul-pos}
use native.Mathlib.Decide.{ℕ_discrete}
use borrow.Author.Tests.{eqb-true, eq-eqb, ne_eqb, lt-ltb, le-ltb}
use lib.Dec.{eqb}
use Rattle.std.proofs.lemmas.Bool.Decides.{same_from_decides, Decides-eqb, Decides-like}
use lib.IntN.{ℤ, pos}
use lib.Ieee.{Float, nan, inf, fin, lt, neg, of_bits, up, down, below}
use lib.Ieee.Fits.{up_pos}
use Rattle.ieee.specs.Floats.{◌-ᶠ◌, zero64}
use Rattle.laws.specs.Refusal.{◌if◌, or_else, first, any_of}
use Rattle.step_rules.specs.declared.StepRule.{StepRule}
use Rattle.step_rules.specs.declared.StepRule.TheVariants.{Grad, GradAdv, Coord, CoordNoStep, CoordMomentum}
use Rattle.step_rules.specs.Rule.{tests_objective}
use Rattle.run_sweep.specs.Sweep.{check_due, absolute, stop_status}
use Rattle.run_contract.specs.Schedule.{Due, at_first, at_minimum, at_most, at_twenty, is_due, coordinate_momentum, is_none, abs, Look, is_stationary, is_steady, has_risen, ends_by, verdict}

-- ---- the schedule

-- what is left where a check is due for none of the other reasons
twentieth : (s mn mx : ℕ) → Due s mn mx → (s ≡ 1 → ⊥) → (s ≡ mn → ⊥) → (s ≡ mx → ⊥) → (j : ℕ) × (s ≡ 20 * j)
twentieth s mn mx (at_first e) a b c = absurd (a e)
twentieth s mn mx (at_minimum e) a b c = absurd (b e)
twentieth s mn mx (at_most e) a b c = absurd (c e)
twentieth s mn mx (at_twenty j e) a b c = (j, e)

-- the plain run's test holds exactly where a check is due
pub due_tested : (s mn mx : ℕ) → Due s mn mx → is_due s mn mx ≡ true
unfolding is_due
due_tested s mn mx d = by (ℕ_discrete s 1) (ℕ_discrete s mn) (ℕ_discrete s mx)
  where
    by : Dec (s ≡ 1) → Dec (s ≡ mn) → Dec (s ≡ mx) → (eqb s 1 || eqb s mn || eqb s mx || eqb s (20 * (s / 20))) ≡ true
    by (yes a) b c = rw (eq-eqb s 1 a)
    by (no a) (yes b) c = rw (ne_eqb s 1 a, eq-eqb s mn b)
    by (no a) (no b) (yes c) = rw (ne_eqb s 1 a, ne_eqb s mn b, eq-eqb s mx c)
    by (no a) (no b) (no c) =
        let (j, e) = twentieth s mn mx d a b c in
        rw (ne_eqb s 1 a, ne_eqb s mn b, ne_eqb s mx c) (eq-eqb s (20 * (s / 20)) (omega arith))

pub tested_due : (s mn mx : ℕ) → is_due s mn mx ≡ true → Due s mn mx
unfolding is_due
tested_due s mn mx e = by (ℕ_discrete s 1) (ℕ_discrete s mn) (ℕ_discrete s mx)
  where
    by : Dec (s ≡ 1) → Dec (s ≡ mn) → Dec (s ≡ mx) → Due s mn mx
    by (yes a) b c = at_first a
    by (no a) (yes b) c = at_minimum b
    by (no a) (no b) (yes c) = at_most c
    by (no a) (no b) (no c) = at_twenty (s / 20) (eqb-true _ _ (rw (ne_eqb s 1 a, ne_eqb s mn b, ne_eqb s mx c) at e))

-- the code tests a remainder
twentieth_same : (s : ℕ) → eqb s (20 * (s / 20)) ≡ eqb (s % 20) 0
twentieth_same s =
    same_from_decides (eqb s (20 * (s / 20))) (eqb (s % 20) 0)
    (Decides-eqb s (20 * (s / 20))) (Decides-like (eqb (s % 20) 0) (λ e. omega arith) (λ e. omega arith) (Decides-eqb (s % 20) 0))

any_four : (a b c d : Bool) → (a || b || c || d) ≡ any_of (a ∷ b ∷ c ∷ d ∷ [])
unfolding any_of
any_four true b c d = refl
any_four false true c d = refl
any_four false false true d = refl
any_four false false false true = refl
any_four false false false false = refl

pub due_same : (s mn mx : ℕ) → is_due s mn mx ≡ check_due s mn mx
unfolding is_due check_due
due_same s mn mx =
    any_four (eqb s 1) (eqb s mn) (eqb s mx) (eqb s (20 * (s / 20))) ∙ ap (λ (d : Bool). any_of (eqb s 1 ∷ eqb s mn ∷ eqb s mx ∷ d ∷ [])) (twentieth_same s)

-- ---- the stop tests

pub momentum_none : (rule : StepRule) → is_none (coordinate_momentum rule) ≡ tests_objective rule
momentum_none (Grad alpha) = refl
momentum_none (GradAdv alpha) = refl
momentum_none (Coord alpha) = refl
momentum_none CoordNoStep = refl
momentum_none (CoordMomentum beta) = refl

-- ---- `abs` clears the sign, the code turns round what is below 0.0: they differ in a zero's sign alone, which no comparison sees

no_zero : (e d : ℤ) → 0 * up e * down d ≡ 0
no_zero e d = rw (zero-mul (up e)) (zero-mul (down d))

signs_same : (a b : ℕ) (t : Bool) → a ≡ 0 → below false a t b ≡ below true a t b
signs_same a b false z = rw (z, zero-add b)
signs_same a b true z = sym (le-ltb b a (omega arith))

zero_signs : (e : ℤ) (t : Float) → lt (fin false 0 e) t ≡ lt (fin true 0 e) t
unfolding lt
zero_signs e nan = refl
zero_signs e (inf s) = refl
zero_signs e (fin s n d) = signs_same (0 * up e * down d) (n * up d * down e) s (no_zero e d)

-- what is below 0.0
plus_not : (m : ℕ) (e : ℤ) → lt (fin false m e) zero64 ≡ false
unfolding lt of_bits
plus_not m e = le-ltb (m * up e * 1) (0 * 1 * down e) (omega (arith, no_zero (pos 0) e))

minus_zero_not : (e : ℤ) → lt (fin true 0 e) zero64 ≡ false
unfolding lt of_bits
minus_zero_not e = le-ltb 0 (0 * up e * 1 + 0 * 1 * down e) (omega (arith, no_zero (pos 0) e, no_zero e (pos 0)))

minus_is : (m : ℕ) (e : ℤ) → lt (fin true (suc m) e) zero64 ≡ true
unfolding lt of_bits
minus_is m e = lt-ltb 0 (suc m * up e * 1 + 0 * 1 * down e) (omega (arith, mul-pos {m = suc m} {n = up e} (omega arith) (up_pos e)))

abbrev turned_if : Bool → Float → Float
turned_if below0 x = cond below0 (neg x) x

nan_below : (t : Float) → lt (abs nan) t ≡ lt (absolute nan) t
unfolding lt
nan_below t = refl

inf_below : (s : Bool) (t : Float) → lt (abs (inf s)) t ≡ lt (absolute (inf s)) t
unfolding lt neg of_bits
inf_below true t = refl
inf_below false t = refl

turned_below : (m : ℕ) (e : ℤ) (t : Float) → lt (fin false (suc m) e) t ≡ lt (neg (fin true (suc m) e)) t
unfolding neg
turned_below m e t = refl

pub abs_below : (x t : Float) → lt (abs x) t ≡ lt (absolute x) t
abs_below nan t = nan_below t
abs_below (inf true) t = inf_below true t
abs_below (inf false) t = inf_below false t
abs_below (fin false m e) t = ap (λ (b : Bool). lt (turned_if b (fin false m e)) t) (sym (plus_not m e))
abs_below (fin true zero e) t = zero_signs e t ∙ ap (λ (b : Bool). lt (turned_if b (fin true 0 e)) t) (sym (minus_zero_not e))
abs_below (fin true (suc m) e) t = turned_below m e t ∙ ap (λ (b : Bool). lt (turned_if b (fin true (suc m) e)) t) (sym (minus_is m e))

in_order : (a b d : Bool) → ends_by a b d ≡ first (1 if a ∷ 1 if b ∷ 2 if d ∷ [])
unfolding first or_else
in_order true b d = refl
in_order false true d = refl
in_order false false true = refl
in_order false false false = refl

pub verdict_same : (l : Look) → verdict l ≡ stop_status (is_none l.momentum) l.tolerance (is_stationary l) l.previous l.new
unfolding verdict stop_status
verdict_same l =
    in_order (is_stationary l) (is_steady l) (has_risen l)
    ∙ ap (λ (near : Bool). first (1 if is_stationary l ∷ 1 if (is_none l.momentum && near) ∷ 2 if has_risen l ∷ [])) (abs_below (l.new -ᶠ l.previous) l.tolerance)
