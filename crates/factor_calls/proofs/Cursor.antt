-- Row i of the table times the factor, from the entries that stand in row i alone.
-- Assumes nothing.
use Prim.Native.Nat.{ℕ, zero, suc, ◌+◌, ◌≤◌, ◌<◌}
use native.Mathlib.Decide.{ℕ_discrete}
use native.Mathlib.Numerals.{add-one}
use native.Mathlib.Omega.{arith}
use borrow.Author.Tests.{eq-eqb, ne_eqb}
use mathlib.Core.Logic.{inl, inr}
use mathlib.Core.List.{List}
use mathlib.Core.Path.{◌≡◌, sym, ap, ◌∙◌}
use lib.Ieee.{Float}
use lib.ListN.{replicate}
use Rattle.laws.specs.Turns.{up_to}
use Rattle.laws.specs.Rows.{row_of}
use Rattle.laws.proofs.UpTo.{up_to_next}
use Rattle.ieee.specs.Floats.{zero64, eighth_of}
use Rattle.tables.specs.Table.{Table, Before, Rising}
use Rattle.sign_table.specs.Walk.{At, RowAt}
use Rattle.sign_table.proofs.Cursor.{in_row_false, row_end}
use Rattle.factor.specs.Vectors.{add_scaled}
use Rattle.maxcut_oracle.specs.Whole.{row_takes, whole_turn, whole_row}

-- turns that change nothing can be left out
pub up_to_skip : {S : Type 0} (step : ℕ → S → S) (a b : ℕ) (s : S) → a ≤ b → ((k : ℕ) → a ≤ k → k < b → (x : S) → step k x ≡ x) → up_to step b s ≡ up_to step a s
unfolding up_to
up_to_skip step a zero s p none = let e : zero ≡ a = omega arith in ap (λ (j : ℕ). up_to step j s) e
up_to_skip step a (suc b) s p none = go (ℕ_discrete a (suc b)) (λ (h : a ≤ b). up_to_skip step a b s h (λ k l u. none k l (omega arith)))
  where
    go : Dec (a ≡ suc b) → (a ≤ b → up_to step b s ≡ up_to step a s) → up_to step (suc b) s ≡ up_to step a s
    go (yes e) rest = ap (λ (j : ℕ). up_to step j s) (sym e)
    go (no d) rest = none b (omega arith) (omega arith) (up_to step b s) ∙ rest (omega arith)

module _ (t : Table) (rank : ℕ) (factor : List Float) (i : ℕ) where
  takes_none : (k : ℕ) → (t.row k ≡ i → ⊥) → (sums : List Float) → whole_turn t rank factor i k sums ≡ sums
  unfolding row_takes
  takes_none k d sums = rw (ne_eqb (t.row k) i d)

  takes_own : (k : ℕ) → t.row k ≡ i → (sums : List Float) → add_scaled (eighth_of (t.value k)) (row_of rank factor (t.column k)) sums ≡ whole_turn t rank factor i k sums
  unfolding row_takes
  takes_own k e sums = rw (eq-eqb (t.row k) i e)

  -- the entries before row i add nothing to it
  pub row_starts : (from : ℕ) → At t from i 0 → replicate rank zero64 ≡ up_to (whole_turn t rank factor i) from (replicate rank zero64)
  unfolding up_to
  row_starts from at = sym (up_to_skip (whole_turn t rank factor i) 0 from (replicate rank zero64) (omega arith) (λ k l h. takes_none k (λ e. low (at.behind k h) e)))
    where
      low : {x y : ℕ} → Before x y i 0 → x ≡ i → ⊥
      low (inl p) e = omega arith
      low (inr p) e = omega arith

  -- an entry of row i is a turn
  pub row_takes_lem : (k : ℕ) → t.row k ≡ i → (sums : List Float) → sums ≡ up_to (whole_turn t rank factor i) k (replicate rank zero64)
      → add_scaled (eighth_of (t.value k)) (row_of rank factor (t.column k)) sums ≡ up_to (whole_turn t rank factor i) (k + 1) (replicate rank zero64)
  row_takes_lem k e sums is = takes_own k e sums ∙ up_to_next (whole_turn t rank factor i) k (replicate rank zero64) sums is

  -- and those behind it add nothing
  row_ends : (to : ℕ) → At t to (suc i) 0 → up_to (whole_turn t rank factor i) to (replicate rank zero64) ≡ whole_row t rank factor i
  unfolding whole_row
  row_ends to at = sym (up_to_skip (whole_turn t rank factor i) to t.count (replicate rank zero64) at.inside (λ k l h. takes_none k (λ e. at.ahead k l h (inl (omega arith)))))

  -- where the next entry isn't of row i, the row is done and the next one starts
  pub row_done : (to : ℕ) → Rising t → RowAt t.count t.row to i → (to < t.count → t.row to ≡ i → ⊥)
      → (sums : List Float) → sums ≡ up_to (whole_turn t rank factor i) to (replicate rank zero64) → (sums ≡ whole_row t rank factor i) × At t to (i + 1) 0
  row_done to rising at past sums is =
      let next : At t to (suc i) 0 = row_end t to i rising at (in_row_false t.count t.row i to past) in
      (is ∙ row_ends to next, rw (add-one i) next)
