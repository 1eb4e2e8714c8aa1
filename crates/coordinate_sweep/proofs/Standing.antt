-- Rows left as they were, of the rows up to one: after one row more and after two, and never more than there are. Assumes nothing.
use mathlib.Core.Path.{◌≡◌, refl, ◌∙◌}
use mathlib.Core.Bool.{Bool, true, false, cond}
use mathlib.Core.List.{List}
use Prim.Native.Nat.{ℕ, zero, suc, ◌+◌, ◌*◌, ◌≤◌}
use native.Mathlib.Numerals.{add-one}
use native.Mathlib.Omega.{arith}
use lib.Ieee.{Float}
use lib.ListN.{length}
use Rattle.laws.specs.Rows.{row_of}
use Rattle.laws.proofs.Parts.{length_row_of}
use Rattle.ieee.specs.Sqrt.{sqrt_of}
use Rattle.factor.specs.Norms.{squared_norm}
use Rattle.coordinate_sweep.specs.Sweep.{wrote, update_row, gradient_at, row_to, row_by, swept_row, sweep_to, norm_at, stands, standing_to, meets_next}
use Rattle.coordinate_sweep.proofs.TwoRows.{gradient_at_away, length_updated, sweep_one}

one_at_most : (b : Bool) → cond b 0 1 ≤ 1
one_at_most true = omega arith
one_at_most false = omega arith

module _ (cols : List ℕ) (values : List Float) (starts : List ℕ) (rank : ℕ) (beta : Float) where
  -- a row that doesn't see the one before it has the norm that it had before that was made anew
  pub norm_away : (xs : List Float) (i : ℕ) → i * rank + rank ≤ length xs → meets_next cols starts i ≡ false
      → norm_at cols values starts rank (swept_row cols values starts rank beta xs i) (i + 1) ≡ norm_at cols values starts rank xs (i + 1)
  unfolding swept_row row_by row_to
  norm_away xs i l none =
      rw (gradient_at_away cols values starts xs (update_row beta (gradient_at cols values starts rank xs i) (sqrt_of (squared_norm (gradient_at cols values starts rank xs i))) (row_of rank xs i)) rank i l
      (length_updated _ _ _ (row_of rank xs i) ∙ length_row_of rank i xs l) none) refl

  pub standing_one : (factor : List Float) (i : ℕ) (xs : List Float) → xs ≡ sweep_to cols values starts rank beta factor i
      → standing_to cols values starts rank beta factor (i + 1) ≡ standing_to cols values starts rank beta factor i + stands (norm_at cols values starts rank xs i)
  unfolding standing_to
  standing_one factor i xs e = rw (add-one i, e) refl

  pub standing_two : (factor : List Float) (i : ℕ) (xs : List Float) → xs ≡ sweep_to cols values starts rank beta factor i
      → standing_to cols values starts rank beta factor (i + 2)
      ≡ standing_to cols values starts rank beta factor i
      + (stands (norm_at cols values starts rank xs i) + stands (norm_at cols values starts rank (swept_row cols values starts rank beta xs i) (i + 1)))
  standing_two factor i xs e =
      let s : i + 2 ≡ i + 1 + 1 = omega arith in
      let first = standing_one factor i xs e in
      let second = standing_one factor (i + 1) _ (sweep_one cols values starts rank beta factor i xs _ e refl) in
      rw s (omega (arith, first, second))

  -- as many as there are at most
  pub standing_few : (factor : List Float) (i : ℕ) → standing_to cols values starts rank beta factor i ≤ i
  unfolding standing_to
  standing_few factor zero = omega arith
  standing_few factor (suc i) =
      omega (arith, standing_few factor i, one_at_most (wrote (norm_at cols values starts rank (sweep_to cols values starts rank beta factor i) i)))
