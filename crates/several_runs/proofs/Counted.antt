-- How many of the runs are open, counted run by run. Assumes nothing.
use Prim.Native.Nat.{ℕ, zero, suc, ◌+◌, ◌≤◌, ◌<◌}
use mathlib.Core.Bool.{Bool, false, not, cond}
use mathlib.Core.List.{List, [], ◌∷◌}
use mathlib.Core.Path.{◌≡◌, refl, sym, ap, ◌∙◌, subst}
use native.Mathlib.Numerals.{add-one}
use native.Mathlib.Omega.{arith}
use borrow.Author.Tests.{ltb-false}
use lib.ListN.{length, take}
use Rattle.std.specs.Prelude.{filter}
use Rattle.limits.specs.Limits.{most_runs, least_turn, most_turn}
use Rattle.laws.specs.Sum.{total}
use Rattle.laws.proofs.Sums.{total_at}
use Rattle.laws.proofs.Totals.{total_front}
use Rattle.laws.proofs.Any.{any_head, any_rest}
use Rattle.run_record.specs.declared.Stage.{Stage}
use Rattle.run_record.specs.declared.Stage.TheVariants.{Open, Stopped}
use Rattle.run_record.specs.declared.Run.{Run}
use Rattle.run_record.specs.Numbers.{is_stopped}
use Rattle.several_runs.specs.Turn.{bad_turn, bad_count, run_at, only_open, open_below}

pub open_below_le : (at : ℕ → Run) (n : ℕ) → open_below at n ≤ n
unfolding open_below total
open_below_le at zero = omega arith
open_below_le at (suc n) = by (at n).stage (open_below_le at n)
  where
    by : (stage : Stage) → total n (λ j. only_open (at j).stage 1) ≤ n → total n (λ j. only_open (at j).stage 1) + only_open stage 1 ≤ suc n
    by Open l = omega arith
    by Stopped l = omega arith

pub open_below_none : (at : ℕ → Run) → 0 ≡ open_below at 0
unfolding open_below total
open_below_none at = refl

pub open_below_next : (at : ℕ → Run) (i : ℕ) {found one : ℕ} → found ≡ open_below at i → one ≡ only_open (at i).stage 1 → found + one ≡ open_below at (i + 1)
unfolding open_below total
open_below_next at i e f = rw (e, f, add-one i)

one_le : (stage : Stage) → only_open stage 1 ≤ 1
one_le Open = omega arith
one_le Stopped = omega arith

-- eight and one at most
pub found_few : (at : ℕ → Run) (i : ℕ) {found one : ℕ} → found ≡ open_below at i → one ≡ only_open (at i).stage 1 → i ≤ most_runs → found + one ≤ most_runs + 1
found_few at i e f l = let a = open_below_le at i in let b = one_le (at i).stage in omega (arith, a, b, e, f)

-- eight sweeps or more, eight runs or fewer
pub turn_many : (sweeps : ℕ) → bad_turn sweeps ≡ false → least_turn ≤ sweeps
unfolding bad_turn
turn_many sweeps e = ltb-false sweeps least_turn (any_head _ _ e)

pub count_few : (count : ℕ) → bad_count count ≡ false → count ≤ most_runs
unfolding bad_count
count_few count e = ltb-false most_runs count (any_head _ _ (any_rest _ _ e))

pub turn_few : (sweeps : ℕ) → bad_turn sweeps ≡ false → sweeps ≤ most_turn
unfolding bad_turn
turn_few sweeps e = ltb-false most_turn sweeps (any_head _ _ (any_rest _ _ e))

-- an open run is one of them
pub open_counts : (at : ℕ → Run) (n i : ℕ) → i < n → only_open (at i).stage 1 ≤ open_below at n
unfolding open_below
open_counts at n i l = total_at n i (λ j. only_open (at j).stage 1) l

pub open_below_some : (at : ℕ → Run) (n i : ℕ) → i < n → (at i).stage ≡ Open → 1 ≤ open_below at n
open_below_some at n i l e = subst (λ (s : Stage). only_open s 1 ≤ open_below at n) e (open_counts at n i l)

-- ---- by the library's `filter` and `count`

abbrev pub is_open : Run → Bool
is_open run = not (is_stopped run.stage)

pub open_counted : (n : ℕ) (runs : List Run) → n ≤ length runs → length (filter is_open (take n runs)) ≡ open_below (run_at runs) n
unfolding open_below
open_counted zero runs h = open_below_none (run_at runs)
open_counted (suc n) [] h = absurd (omega arith)
open_counted (suc n) (run ∷ runs) h =
    one run.stage ∙ ap (λ (k : ℕ). only_open run.stage 1 + k) (open_counted n runs (omega arith)) ∙ sym (total_front n (λ j. only_open (run_at (run ∷ runs) j).stage 1))
  where
    one : (stage : Stage) → length (cond (not (is_stopped stage)) (run ∷ filter is_open (take n runs)) (filter is_open (take n runs))) ≡ only_open stage 1 + length (filter is_open (take n runs))
    one Open = let k : length (run ∷ filter is_open (take n runs)) ≡ 1 + length (filter is_open (take n runs)) = omega arith in k
    one Stopped = let k : length (filter is_open (take n runs)) ≡ 0 + length (filter is_open (take n runs)) = omega arith in k
