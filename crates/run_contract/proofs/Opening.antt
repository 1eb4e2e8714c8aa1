-- The port's open is the plain run's: accepted exactly where no number applies, and then with its record and factor. Assumes nothing.
use Prim.Native.Nat.{ℕ, zero, suc, ◌*◌}
use mathlib.Core.Path.{◌≡◌, refl, sym, ap, ◌∙◌}
use mathlib.Core.List.{List}
use native.Mathlib.Omega.{arith}
use lib.Ieee.{Float}
use lib.ListN.{length, take}
use lib.Seq.{take_at}
use Rattle.std.specs.Prelude.{Result, Ok, Err}
use Rattle.laws.specs.Lists.{over}
use Rattle.run_limits.specs.Start.{is_signs, draws_follow}
use Rattle.run_record.specs.declared.Run.{Run}
use Rattle.run_contract.specs.Calls.{Settings, answer_number, Opens, open_number_of, open_size, open_rank, open_run, first_stage, start_factor}
use Rattle.run_contract.specs.PlainRun.{Plain, plain_open, record_of}
use Rattle.run_contract.proofs.Accepting.{open_accepted}
use Rattle.run_contract.proofs.Lengths.{length_start}

-- the factor has m·rank numbers
abbrev pub Whole : Plain → Type 0
Whole p = length p.factor ≡ p.size * p.rank

pub open_whole : (o : Settings) (lent : ℕ) → open_number_of o lent ≡ 0 → Whole (plain_open o)
unfolding plain_open start_factor
open_whole o lent e = length_start (is_signs o.start) (draws_follow o.most (open_rank o)) (open_rank o) (open_size o) o.numbers (open_accepted o lent e).numbers_room

open_front : (o : Settings) (lent : ℕ) (factor : List Float) → open_number_of o lent ≡ 0 → take ((plain_open o).size * (plain_open o).rank) (over (start_factor o) factor) ≡ (plain_open o).factor
unfolding plain_open
open_front o lent factor e = take_at (start_factor o) _ _ (open_whole o lent e)

open_record : (o : Settings) → open_run o ≡ record_of (plain_open o)
unfolding open_run first_stage plain_open record_of
open_record o = refl

-- accepted, no number applies; where none does, the answer is the plain run's record, and the factor begins with the plain run's
pub plain_open_lem : (o : Settings) (factor : List Float) (answer : Result Run ℕ) (factor' : List Float) → Opens o factor answer factor'
    → ((run : Run) → answer ≡ Ok run → open_number_of o (length factor) ≡ 0)
    × (open_number_of o (length factor) ≡ 0
    → (answer ≡ Ok (record_of (plain_open o))) × (take ((plain_open o).size * (plain_open o).rank) factor' ≡ (plain_open o).factor))
plain_open_lem o factor answer factor' opens = (
  (λ run e. sym opens.numbered ∙ ap answer_number e),
  (λ ok.
      let a = opens.accepted (opens.numbered ∙ ok) in
      (a.0 ∙ ap (λ (run : Run). Ok run) (open_record o), ap (take ((plain_open o).size * (plain_open o).rank)) a.1 ∙ open_front o (length factor) factor ok)),
)

-- an open has an outcome
pub open_has : (o : Settings) (factor : List Float) → (answer : Result Run ℕ) × (factor' : List Float) × Opens o factor answer factor'
open_has o factor = by (open_number_of o (length factor)) refl
  where
    by : (m : ℕ) → open_number_of o (length factor) ≡ m → (answer : Result Run ℕ) × (factor' : List Float) × Opens o factor answer factor'
    by zero e = (Ok (open_run o), over (start_factor o) factor, record { numbered = sym e; refused = λ n. absurd (n refl); accepted = λ z. (refl, refl) })
    by (suc m) e = (Err (suc m), factor, record { numbered = sym e; refused = λ n. refl; accepted = λ z. absurd (omega arith) })
