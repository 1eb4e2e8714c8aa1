-- The lengths of what the calls make: a start's factor, a factor after a sweep, a choice, multipliers. Assumes nothing.
use Prim.Native.Nat.{ℕ, suc, ◌+◌, ◌*◌, ◌≤◌}
use mathlib.Core.Path.{◌≡◌, refl, sym, ap, ◌∙◌}
use mathlib.Core.Bool.{Bool, true, false}
use mathlib.Core.List.{List, ◌++◌}
use native.Mathlib.Omega.{arith}
use lib.Ieee
use lib.Ieee.{Float}
use lib.IntN.{ℤ}
use lib.ListN.{length, take, drop, set, length-append, length-drop, length-set, length-replicate, take-append-drop}
use lib.Seq.{length-take-le}
use Rattle.laws.specs.Rows.{row_of, set_row}
use Rattle.laws.proofs.UpTo.{up_to_keeps}
use Rattle.laws.proofs.MapFirst.{length_map_first}
use Rattle.laws.proofs.Made.{length_tabulate}
use Rattle.ieee.specs.Floats.{at, zero64, hundredth}
use Rattle.ieee.specs.Sqrt.{sqrt_of}
use Rattle.tables.specs.Table.{Table}
use Rattle.tables.specs.Cost.{decoded_byte}
use Rattle.sign_table.specs.SignTable.{sign_table}
use Rattle.factor.specs.Norms.{squared_norm}
use Rattle.factor.specs.Vectors.{sub_scaled, multiplied, divided, unit, unit_row, projected}
use Rattle.factor.specs.Multiply.{grad_of}
use Rattle.coordinate_sweep.proofs.TwoRows.{length_updated}
use Rattle.coordinate_sweep.specs.Sweep.{update_row, gradient_at, row_to, row_by, swept_row, sweep_to}
use Rattle.step_rules.specs.declared.StepRule.{StepRule}
use Rattle.step_rules.specs.declared.StepRule.TheVariants.{Grad, GradAdv, Coord, CoordNoStep, CoordMomentum}
use Rattle.step_rules.specs.Steps.{grad_step, adv_alpha, adv_by, adv_step, neighbours_at, coord_by, coord_row, coord_to}
use Rattle.step_rules.specs.Rule.{stepped}
use Rattle.run_limits.specs.Start.{start_count}
use Rattle.initialize.specs.Initialize.{start_rows, sign_by, with_signs, start_signs, start_drawn, start_by}
use Rattle.finalize.specs.Finalize.{choice_of, multipliers_of, searched_choice}
use Rattle.finalize.proofs.Fronts.{length_dual}

-- ---- rows

length_set_row : (rank : ℕ) (factor : List Float) (i : ℕ) (row : List Float) → length row ≡ length (row_of rank factor i) → length (set_row rank factor i row) ≡ length factor
length_set_row rank factor i row e =
    let rest = drop (i * rank) factor in
    let back : length (row ++ drop rank rest) ≡ length rest =
    length-append row (drop rank rest) ∙ ap (λ (k : ℕ). k + length (drop rank rest)) e ∙ sym (length-append (take rank rest) (drop rank rest)) ∙ ap length (take-append-drop rank rest) in
    length-append (take (i * rank) factor) (row ++ drop rank rest) ∙ ap (λ (k : ℕ). length (take (i * rank) factor) + k) back
    ∙ sym (length-append (take (i * rank) factor) rest) ∙ ap length (take-append-drop (i * rank) factor)

length_unit : (row : List Float) → length (unit row) ≡ length row
unfolding unit divided
length_unit row = length_map_first _ _ row

length_projected : (rank m : ℕ) (factor : List Float) → length (projected rank m factor) ≡ length factor
unfolding projected
length_projected rank m factor =
    up_to_keeps (λ (f : List Float). length f ≡ length factor) (unit_row rank) m factor
    (λ i f h. length_set_row rank f i (unit (row_of rank f i)) (length_unit (row_of rank f i)) ∙ h) refl

length_sub_scaled : (weight : Float) (source acc : List Float) → length (sub_scaled weight source acc) ≡ length acc
unfolding sub_scaled
length_sub_scaled weight source acc = length_map_first _ _ acc

-- ---- a sweep, by each rule

length_lessened : (rank m : ℕ) (weight : Float) (source factor : List Float) → length (projected rank m (sub_scaled weight source factor)) ≡ length factor
length_lessened rank m weight source factor = length_projected rank m (sub_scaled weight source factor) ∙ length_sub_scaled weight source factor

length_coord_by : (alpha : Float) (g : List Float) (rank : ℕ) (factor : List Float) (i : ℕ) → length (coord_by alpha g rank factor i) ≡ length factor
unfolding coord_by
length_coord_by alpha g rank factor i =
    let row = row_of rank factor i in
    length_set_row rank factor i (unit (sub_scaled alpha g row)) (length_unit (sub_scaled alpha g row) ∙ length_sub_scaled alpha g row)

length_row_by : (beta : Float) (g : List Float) (rank : ℕ) (factor : List Float) (i : ℕ) → length (row_by beta g rank factor i) ≡ length factor
unfolding row_by row_to
length_row_by beta g rank factor i =
    let row = row_of rank factor i in
    let norm = sqrt_of (squared_norm g) in
    length_set_row rank factor i (update_row beta g norm row) (length_updated beta g norm row)

module _ (cols : List ℕ) (values : List Float) (starts : List ℕ) (rank : ℕ) (by : Float) (factor : List Float) where
  length_coord_to : (i : ℕ) → length (coord_to cols values starts rank by factor i) ≡ length factor
  unfolding coord_to coord_row
  length_coord_to i =
      up_to_keeps (λ (f : List Float). length f ≡ length factor) (λ k f. coord_row cols values starts rank by f k) i factor
      (λ k f h. length_coord_by by (neighbours_at cols values starts rank f k) rank f k ∙ h) refl

  length_sweep_to : (i : ℕ) → length (sweep_to cols values starts rank by factor i) ≡ length factor
  unfolding sweep_to swept_row
  length_sweep_to i =
      up_to_keeps (λ (f : List Float). length f ≡ length factor) (λ k f. swept_row cols values starts rank by f k) i factor
      (λ k f h. length_row_by by (gradient_at cols values starts rank f k) rank f k ∙ h) refl

pub length_stepped : (rule : StepRule) (rows cols : List ℕ) (values : List Float) (starts : List ℕ) (m rank : ℕ) (factor : List Float)
    → length (stepped rule rows cols values starts m rank factor) ≡ length factor
unfolding stepped grad_step adv_step adv_by
length_stepped (Grad alpha) rows cols values starts m rank factor = length_lessened rank m alpha (grad_of cols values starts factor rank m) factor
length_stepped (GradAdv alpha) rows cols values starts m rank factor =
    let g = grad_of cols values starts factor rank m in
    length_lessened rank m (adv_alpha rows cols values rank factor g alpha) g factor
length_stepped (Coord alpha) rows cols values starts m rank factor = length_coord_to cols values starts rank alpha factor m
length_stepped CoordNoStep rows cols values starts m rank factor = length_sweep_to cols values starts rank zero64 factor m
length_stepped (CoordMomentum beta) rows cols values starts m rank factor = length_sweep_to cols values starts rank beta factor m

-- ---- a start's factor

length_with_signs : (rank m : ℕ) (signs factor : List Float) → length (with_signs rank m signs factor) ≡ length factor
unfolding with_signs
length_with_signs rank m signs factor =
    up_to_keeps (λ (f : List Float). length f ≡ length factor) (λ i f. set f (i * rank) (sign_by (Ieee.le zero64 (at signs i)))) m factor (λ i f h. length-set f _ _ ∙ h) refl

length_multiplied : (by : Float) (xs : List Float) → length (multiplied by xs) ≡ length xs
unfolding multiplied
length_multiplied by xs = length_map_first _ _ xs

pub length_start : (signs drawn : Bool) (rank m : ℕ) (numbers : List Float) → start_count signs drawn rank m ≤ length numbers → length (start_by signs drawn rank m numbers) ≡ m * rank
unfolding start_rows start_signs start_drawn
length_start false drawn rank m numbers l = length_projected rank m _ ∙ length-take-le (m * rank) numbers l
length_start true false rank m numbers l = length_projected rank m _ ∙ length_with_signs rank m numbers _ ∙ length-replicate (m * rank) zero64
length_start true true rank m numbers l =
    length_projected rank m _ ∙ length_with_signs rank m numbers _ ∙ length_multiplied hundredth _ ∙ length_projected rank m _
    ∙ length-take-le (m * rank) (drop m numbers) (rw (length-drop m numbers) (omega arith))

-- ---- what a finish gives

module _ (n : ℕ) (h : Table) (c : ℕ → ℤ) (rank : ℕ) (factor : List Float) where
  pub length_choice : (draws : List Float) (draw_count width : ℕ) → length (searched_choice n h c rank factor draws draw_count width) ≡ n
  unfolding searched_choice choice_of
  length_choice draws draw_count width = length_tabulate (decoded_byte n _) n

  pub length_multipliers : length (multipliers_of n h c rank factor) ≡ suc n
  unfolding multipliers_of
  length_multipliers = length_dual (sign_table n h c) (suc n) rank factor
