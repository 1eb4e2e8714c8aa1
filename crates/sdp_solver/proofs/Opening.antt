-- An accepted open's record and factor, put together from what its parts gave. Assumes nothing.
use Prim.Native.Nat.{ℕ, ◌*◌, ◌≤◌}
use mathlib.Core.Bool.{Bool, true, false}
use mathlib.Core.List.{List, ◌++◌}
use mathlib.Core.Path.{◌≡◌, refl, ap, ◌∙◌}
use lib.Ieee.{Float}
use lib.ListN.{length, take, drop}
use lib.Seq.{take_at}
use Rattle.laws.specs.Lists.{over}
use Rattle.step_rules.specs.declared.StepRule.{StepRule}
use Rattle.step_rules.specs.Rule.{rule_of}
use Rattle.run_limits.specs.declared.StartNumbers.{StartNumbers}
use Rattle.run_limits.specs.Start.{is_signs, draws_follow, start_of, signs_in, draws_in}
use Rattle.initialize.specs.Initialize.{start_by, start_within}
use Rattle.maxcut_oracle.specs.Table.{work_objective}
use Rattle.run_record.specs.declared.Stage.{Stage}
use Rattle.run_record.specs.declared.Run.{Run}
use Rattle.run_sweep.specs.Work.{sign_table_of}
use Rattle.run_contract.specs.Calls.{Settings, open_size, open_rank, first_stage, start_factor, open_run, open_number_of}
use Rattle.run_contract.proofs.Accepting.{open_accepted}
use Rattle.run_contract.proofs.Tails.{start_long}
use Rattle.sdp_solver.proofs.Written.{written_over}

-- the record that the call makes
abbrev pub made_run : Settings → ℕ → StepRule → Float → Stage → Run
made_run o rank rule last stage =
    record {
      size = open_size o;
      rank = rank;
      rule = rule;
      sweeps = 0;
      last_objective = last;
      objective_tolerance = o.objective_tolerance;
      stationarity_tolerance = o.stationarity_tolerance;
      most = o.most;
      minimum = o.minimum;
      stage = stage;
      status = 0;
      standing = 0;
    }

start_is : (o : Settings) → start_by (is_signs o.start) (draws_follow o.most (open_rank o)) (open_rank o) (open_size o) o.numbers ≡ start_factor o
unfolding start_factor
start_is o = refl

-- the factor of a start is that of the two truth values from which the start is
by_start : {start : StartNumbers} (signs drawn : Bool) (rank m : ℕ) (numbers factor : List Float) → start ≡ start_of signs drawn
    → start_within (signs_in start) (draws_in start) rank m numbers factor ≡ start_within signs drawn rank m numbers factor
unfolding start_within
by_start signs drawn rank m numbers factor e = rw e (go signs drawn)
  where
    go : (signs drawn : Bool)
        → start_by (signs_in (start_of signs drawn)) (draws_in (start_of signs drawn)) rank m numbers ++ drop (m * rank) factor ≡ start_by signs drawn rank m numbers ++ drop (m * rank) factor
    go false drawn = refl
    go true false = refl
    go true true = refl

module _ (o : Settings) (factor : List Float) (ok : open_number_of o (length factor) ≡ 0) where
  start_whole : length (start_factor o) ≡ open_size o * open_rank o
  start_whole = start_long o (length factor) ok

  start_at_lem : start_within (is_signs o.start) (draws_follow o.most (open_rank o)) (open_rank o) (open_size o) o.numbers factor ≡ over (start_factor o) factor
  unfolding start_within
  start_at_lem = written_over (start_factor o) factor (start_is o) (ap length (start_is o) ∙ start_whole)

  module _ {meant : ℕ} (m : meant ≡ open_rank o) where
    -- a factor of that length has room for the rows of the rank that is meant
    pub room : (factor' : List Float) → length factor' ≡ length factor → open_size o * meant ≤ length factor'
    room factor' e = rw (e, m) (open_accepted o (length factor) ok).factor_room

    pub started : {start : StartNumbers} {factor' : List Float} → start ≡ start_of (is_signs o.start) (draws_follow o.most meant)
        → factor' ≡ start_within (signs_in start) (draws_in start) meant (open_size o) o.numbers factor → factor' ≡ over (start_factor o) factor
    started s e = e ∙ by_start _ _ meant (open_size o) o.numbers factor s ∙ rw m start_at_lem

    pub opened : {rule : StepRule} {last : Float} {stage : Stage} (factor' : List Float) → factor' ≡ over (start_factor o) factor
        → rule ≡ rule_of o.rule o.number → stage ≡ first_stage o.most → last ≡ work_objective (sign_table_of o.table) meant (take (open_size o * meant) factor')
        → made_run o meant rule last stage ≡ open_run o
    unfolding open_run
    opened factor' f r s l =
        let front : take (open_size o * open_rank o) factor' ≡ start_factor o = ap (take (open_size o * open_rank o)) f ∙ take_at (start_factor o) _ _ start_whole in
        let last-is = l ∙ ap (λ k. work_objective (sign_table_of o.table) k (take (open_size o * k) factor')) m ∙ ap (work_objective (sign_table_of o.table) (open_rank o)) front in
        rw (r, s, last-is, m)
