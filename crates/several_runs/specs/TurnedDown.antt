-- What turns a turn down, in 02's words ("Answers: 25, S out of range, before 26. 26, no run or more than 8, before any run is looked at; then the
-- first run that its own number .. refuses turns the whole turn down"). That `turn_number` answers by it is proved in proofs/Refusals.antt. Definitions only.
use Rattle.std.specs.Prelude.{ℕ, ◌<◌, ◌≤◌, ◌≡◌}
use Rattle.limits.specs.Limits.{most_runs, least_turn, most_turn}
use Rattle.run_record.specs.declared.Run.{Run}
use Rattle.several_runs.specs.Turn.{Tables, number_at}

-- "S from 8 to 10,000"; "Up to 8 runs"
abbrev pub InRange : ℕ → Type 0
InRange sweeps = (least_turn ≤ sweeps) × (sweeps ≤ most_turn)

abbrev pub SomeRuns : ℕ → Type 0
SomeRuns count = (1 ≤ count) × (count ≤ most_runs)

-- with this number
pub data TurnedDown (sweeps count : ℕ) (at : ℕ → Run) (t : Tables) (lent number : ℕ) : Type 0 where
  by_sweeps : (InRange sweeps → ⊥) → number ≡ 25 → TurnedDown sweeps count at t lent number
  by_runs : InRange sweeps → (SomeRuns count → ⊥) → number ≡ 26 → TurnedDown sweeps count at t lent number
  -- its own number is that of a sweep of it, its stage aside (run_record, `member_clauses`)
  by_a_run : InRange sweeps → SomeRuns count → (i : ℕ) → i < count → ((j : ℕ) → j < i → number_at at t lent j ≡ 0) → (number ≡ 0 → ⊥) → number ≡ number_at at t lent i
      → TurnedDown sweeps count at t lent number
