-- What the calls' answers are worth to whoever has the table, the factor and the draws.
--     rounds_first_of_least   an accepted `compute_rounded_sol` gives the first draw of least objective
--     multiplied_at           an accepted `dual_variables` gives row i's numerator at place i
--     tail_stays              and leaves what stands behind the m places
--     divided_at_lem, -tail       the same of `dual_variables_divided`, whose place i has row i's numerator divided by the row's product with itself
--     divided_zero_at, _nan_at, _unit_at   NaN for a row of zeros or with a NaN; the numerator where that product is 1.0
-- Assumes nothing.
use Rattle.std.specs.Prelude.{Result, Ok, Err}
use mathlib.Core.Path.{◌≡◌, refl, sym, ap, ◌∙◌, subst}
use mathlib.Core.Bool.{true}
use mathlib.Core.List.{List}
use Prim.Native.Nat.{ℕ, ◌+◌, ◌-◌, ◌*◌, ◌≤◌, ◌<◌}
use native.Mathlib.Omega.{arith}
use lib.IntN.{ℤ}
use lib.Ieee.{Float, nan, eq}
use lib.ListN.{length, drop, get_or-append}
use Rattle.std.proofs.lemmas.Int.{by_lt_z}
use Rattle.laws.specs.Lists.{over, tabulate}
use Rattle.laws.specs.Rows.{row_of}
use Rattle.laws.proofs.Made.{length_tabulate, get_d_tabulate}
use Rattle.laws.proofs.Parts.{row_within, over_tail}
use Rattle.ieee.specs.Floats.{at, zero64, one64, ◌/ᶠ◌}
use Rattle.tables.specs.Table.{table_of}
use Rattle.run_limits.specs.Rank.{rank_meant}
use Rattle.maxcut_oracle.specs.Whole.{numerator, whole_multipliers}
use Rattle.rounding.specs.Rounding.{signs_of, draw_objective, least_draw, rounded_sol, rounded_objective}
use Rattle.rounding.proofs.Least.{least_within, least_least, least_first}
use Rattle.table_calls.proofs.Accepting.{accepted_is}
use Rattle.factor_calls.specs.Numbers.{rounded_number, dual_number, divided_number}
use Rattle.factor_calls.specs.Answers.{RoundsFactor, Multiplies}
use Rattle.factor_calls.specs.Draws.{FirstOfLeast}
use Rattle.factor_calls.specs.Equation8.{self_product, divided_at, divided_multipliers}
use Rattle.factor_calls.proofs.Accepting.{rounded_accepted, divided_accepted}
use Rattle.factor_calls.proofs.Quotients.{divided_zero, divided_nan, divided_unit}

-- an accepted call of `compute_rounded_sol`
module _ (m count : ℕ) (rows cols : List ℕ) (values : List ℤ) (rank : ℕ) (factor : List Float) (k : ℕ) (draws : List Float) (out : List ℕ) {answer : Result ℤ ℕ} {out' : List ℕ} where
  pub rounds_first_of_least : RoundsFactor (rounded_number m count rows cols values rank (length factor) k (length draws) (length out))
      (rounded_objective factor (rank_meant m rank) m draws (table_of count rows cols values) k)
      (rounded_sol factor (rank_meant m rank) m draws (table_of count rows cols values) k) out answer out'
      → rounded_number m count rows cols values rank (length factor) k (length draws) (length out) ≡ 0
      → FirstOfLeast (table_of count rows cols values) (signs_of factor (rank_meant m rank) m draws) k answer out out'
  unfolding rounded_sol rounded_objective
  rounds_first_of_least w ok =
      let f = draw_objective factor (rank_meant m rank) m draws (table_of count rows cols values) in
      let some : 1 ≤ k = (rounded_accepted m count rows cols values rank (length factor) k (length draws) (length out) ok).some in
      let d : ℕ = least_draw factor (rank_meant m rank) m draws (table_of count rows cols values) k in
      let within : d ≤ k - 1 = least_within f (k - 1) in
      record {
        draw = d;
        given = omega arith;
        lent = w.signs_are ∙ sym (accepted_is _ (λ _. out) (over (signs_of factor (rank_meant m rank) m draws d) out) refl ok);
        answers = w.answers ∙ sym (accepted_is _ Err (Ok (f d)) refl ok);
        none_lower = λ j h. least_least f (k - 1) j (omega arith);
        before_higher = λ j h. by_lt_z _ _ (λ l. l) (λ l. absurd (least_first f (k - 1) j h l));
      }

-- what an accepted call lends out in the first m places: f at each, and behind them what stood there
module _ {number : ℕ} (f : ℕ → Float) (m : ℕ) (out : List Float) {answer : ℕ} {out' : List Float} (w : Multiplies number (tabulate f m) out answer out') (ok : number ≡ 0) where
  wrote : out' ≡ over (tabulate f m) out
  wrote = w.multipliers_are ∙ sym (accepted_is _ (λ _. out) (over (tabulate f m) out) refl ok)

  made_at : (i : ℕ) → i < m → at out' i ≡ f i
  made_at i h =
      ap (λ (xs : List Float). at xs i) wrote
      ∙ get_or-append (tabulate f m) (drop (length (tabulate f m)) out) nan i (rw (length_tabulate f m) h)
      ∙ get_d_tabulate f m i nan h

  made_tail : drop m out' ≡ drop m out
  made_tail = over_tail (tabulate f m) out out' m (length_tabulate f m) wrote

-- an accepted call of `dual_variables`
module _ (m count : ℕ) (rows cols : List ℕ) (values : List ℤ) (rank : ℕ) (factor out : List Float) {answer : ℕ} {out' : List Float}
    (w : Multiplies (dual_number m count rows cols values rank (length factor) (length out)) (whole_multipliers (table_of count rows cols values) m (rank_meant m rank) factor) out answer out')
    (ok : dual_number m count rows cols values rank (length factor) (length out) ≡ 0) where
  pub multiplied_at : (i : ℕ) → i < m → at out' i ≡ numerator (table_of count rows cols values) (rank_meant m rank) factor i
  unfolding whole_multipliers
  multiplied_at = made_at _ m out w ok

  pub tail_stays : drop m out' ≡ drop m out
  unfolding whole_multipliers
  tail_stays = made_tail _ m out w ok

-- an accepted call of `dual_variables_divided`
module _ (m count : ℕ) (rows cols : List ℕ) (values : List ℤ) (rank : ℕ) (factor out : List Float) {answer : ℕ} {out' : List Float}
    (w : Multiplies (divided_number m count rows cols values rank (length factor) (length out)) (divided_multipliers (table_of count rows cols values) m rank factor) out answer out')
    (ok : divided_number m count rows cols values rank (length factor) (length out) ≡ 0) where
  pub divided_at_lem : (i : ℕ) → i < m → at out' i ≡ numerator (table_of count rows cols values) rank factor i /ᶠ self_product rank factor i
  unfolding divided_multipliers divided_at
  divided_at_lem = made_at _ m out w ok

  pub divided_tail : drop m out' ≡ drop m out
  unfolding divided_multipliers
  divided_tail = made_tail _ m out w ok

  within : (i : ℕ) → i < m → i * rank + rank ≤ length factor
  within i h =
      let u = divided_accepted m count rows cols values rank (length factor) (length out) ok in
      let long : m * rank ≤ length factor = subst (λ (r : ℕ). m * r ≤ length factor) u.1 u.0.factor_long in
      omega (arith, row_within i m rank h, long)

  -- a row of zeros, of either sign, and a row with a NaN in it
  pub divided_zero_at : (i : ℕ) → i < m → ((j : ℕ) → j < rank → eq (at (row_of rank factor i) j) zero64 ≡ true) → at out' i ≡ nan
  unfolding divided_multipliers
  divided_zero_at i h z = made_at _ m out w ok i h ∙ divided_zero (table_of count rows cols values) rank factor i (within i h) z

  pub divided_nan_at : (i j : ℕ) → i < m → j < rank → at (row_of rank factor i) j ≡ nan → at out' i ≡ nan
  unfolding divided_multipliers
  divided_nan_at i j h l e = made_at _ m out w ok i h ∙ divided_nan (table_of count rows cols values) rank factor i j (within i h) l e

  -- a row whose product with itself is 1.0
  pub divided_unit_at : (i : ℕ) → i < m → self_product rank factor i ≡ one64 → at out' i ≡ numerator (table_of count rows cols values) rank factor i
  unfolding divided_multipliers
  divided_unit_at i h e = made_at _ m out w ok i h ∙ divided_unit (table_of count rows cols values) rank factor i e
