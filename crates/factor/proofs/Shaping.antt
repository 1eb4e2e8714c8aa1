-- What the float work asks of its slices holds row by row.
-- Assumes nothing.
use mathlib.Core.Path.{◌≡◌, sym, ap, ◌∙◌}
use mathlib.Core.List.{List, ◌++◌}
use Prim.Native.Nat.{ℕ, zero, suc, ◌+◌, ◌*◌, ◌<◌}
use native.Mathlib.Nat.{zero-mul, suc-mul}
use native.Mathlib.Numerals.{add-one}
use native.Mathlib.Omega.{arith}
use lib.ListN.{length, get_or, drop, replicate, length-append, length-replicate}
use lib.Ieee.{Float}
use Rattle.laws.specs.Rows.{set_row}
use Rattle.laws.proofs.UpTo.{up_to_keeps}
use Rattle.laws.proofs.MapFirst.{length_map_first}
use Rattle.laws.proofs.Parts.{row_within, set_row_next}
use Rattle.ieee.specs.Floats.{zero64}
use Rattle.factor.specs.Vectors.{add_scaled}
use Rattle.factor.specs.Multiply.{product_turn, product_row, product_at, product_of}
use Rattle.factor.specs.Shapes.{RowFits, Shaped}

-- what a sweep asks holds at each row, also once rows are rewritten
pub shaped_row : (cols : List ℕ) (values : List Float) (starts : List ℕ) (before now : List Float) (m rank i : ℕ)
    → Shaped cols values starts before m rank → length now ≡ length before → i < m
    → RowFits cols values starts now rank i
shaped_row cols values starts before now m rank i s e h =
    record {
      paired = s.paired;
      started = omega arith;
      rising = s.rising i h;
      ended = s.ended i h;
      within = λ k l. omega (arith, row_within (get_or cols k 0) m rank (s.columns k l));
      whole = omega (arith, row_within i m rank h);
    }

-- a factor of the same length is of the same shape
pub reshaped : {cols : List ℕ} {values : List Float} {starts : List ℕ} {factor factor' : List Float} {m rank : ℕ} → Shaped cols values starts factor m rank → length factor' ≡ length factor
    → Shaped cols values starts factor' m rank
reshaped s l =
    record { paired = s.paired; started = s.started; rising = s.rising; ended = s.ended; columns = s.columns; whole = l ∙ s.whole }

-- the rows of a product have the rank's length
pub length_product_row : (cols : List ℕ) (values factor : List Float) (rank : ℕ) → length (product_row cols values factor rank) ≡ rank
unfolding product_row add_scaled
length_product_row cols values factor rank =
    up_to_keeps (λ (t : List Float). length t ≡ rank) (product_turn cols values factor rank) (length cols) (replicate rank zero64)
    (λ e t h. length_map_first _ (length t) t ∙ h) (length-replicate rank zero64)

pub length_product_of : (cols : List ℕ) (values : List Float) (starts : List ℕ) (factor : List Float) (rank m : ℕ)
    → length (product_of cols values starts factor rank m) ≡ m * rank
unfolding product_of
length_product_of cols values starts factor rank zero = sym (zero-mul rank)
length_product_of cols values starts factor rank (suc i) =
    rw (length-append, length_product_of cols values starts factor rank i, length_product_row, suc-mul)

-- the turn of a loop that has written the first i rows of a product over out, which now is ys
pub product_next : (cols : List ℕ) (values : List Float) (starts : List ℕ) (factor : List Float) (rank i : ℕ) (out ys : List Float)
    → ys ≡ product_of cols values starts factor rank i ++ drop (i * rank) out
    → set_row rank ys i (product_at cols values starts factor rank i) ≡ product_of cols values starts factor rank (i + 1) ++ drop ((i + 1) * rank) out
unfolding product_of
product_next cols values starts factor rank i out ys e =
    set_row_next rank i (product_of cols values starts factor rank i) (product_at cols values starts factor rank i) out ys
    (length_product_of cols values starts factor rank i) (length_product_row _ _ factor rank) e
    ∙ sym (ap (λ (k : ℕ). product_of cols values starts factor rank k ++ drop ((i + 1) * rank) out) (add-one i))
