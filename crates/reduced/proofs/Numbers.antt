-- The numbers of `from_principal_submatrix`, test by test and return by return; and when nothing is refused.
-- Assumes nothing.
use mathlib.Core.Path.{◌≡◌, refl, sym, ap, ◌∙◌}
use mathlib.Core.Bool.{Bool, true, false}
use mathlib.Core.List.{List, []}
use Prim.Native.Nat.{ℕ}
use native.Mathlib.Omega.{arith}
use lib.ListN.{length}
use lib.Dec.{ltb}
use lib.IntN.{ℤ}
use borrow.Author.Tests.{ltb-false, le-ltb}
use Rattle.laws.specs.Lists.{elem}
use Rattle.laws.specs.Refusal.{◌if◌}
use Rattle.laws.proofs.Refusal.{clear, first_here, first_skip, first_next, first_last, first_end, first_head, first_rest}
use Rattle.tables.specs.Table.{Lent}
use Rattle.tables.specs.Stored.{Wrote, Room}
use Rattle.tables.specs.Check.{bad_order}
use Rattle.tables.proofs.Checks.{order_range, order_rising, order_passes, table_lent, lent_table}
use Rattle.limits.specs.Limits.{most_sign_entries, most_size}
use Rattle.reduced.specs.Indices.{index_refused}
use Rattle.std.specs.Prelude.{Ok, Err}
use Rattle.reduced.specs.Submatrix.{Slices, slices_of, table_in, value_in, reduced_places, slices_short, input_number, submatrix_number, Reduces, Input, Acceptable}
use Rattle.reduced.specs.Scatter.{Reducible}
use Rattle.reduced.proofs.Distinct.{index_mapped, mapped_index, within_up, range_up}

-- ---- the returns

module _ {size count : ℕ} {from : Slices} {map fixed : List ℕ} {to : Slices} where
  pub reduces_from : {b : Bool} → b ≡ slices_short most_sign_entries count from → b ≡ true → Reduces size count from map fixed to (Err 31) to
  unfolding submatrix_number
  reduces_from e t =
      record { numbered = sym (first_here 30 _ _ (sym e ∙ t)); refused = λ _. refl; accepted = λ z. absurd (omega arith) }

  pub reduces_to : {b d : Bool} → b ≡ slices_short most_sign_entries count from → b ≡ false → d ≡ slices_short most_sign_entries count to → d ≡ true
      → Reduces size count from map fixed to (Err 31) to
  unfolding submatrix_number
  reduces_to e f g t =
      record {
        numbered = sym (first_skip 31 _ _ (sym e ∙ f) ∙ first_here 30 _ _ (sym g ∙ t));
        refused = λ _. refl;
        accepted = λ z. absurd (omega arith);
      }

-- the slices are long enough, and r is the number of the input
pub record Judged (size count : ℕ) (from : Slices) (map fixed : List ℕ) (to : Slices) (r : ℕ) : Type 0 where
  pub from_long : slices_short most_sign_entries count from ≡ false
  pub to_long : slices_short most_sign_entries count to ≡ false
  pub number : r ≡ input_number most_size most_sign_entries size count from.rows from.cols map fixed

pub judged : {size count : ℕ} {rows cols map fixed to_rows to_cols : List ℕ} {values to_values : List ℤ} {b d : Bool} {r : ℕ}
    → b ≡ slices_short most_sign_entries count (slices_of rows cols values) → b ≡ false → d ≡ slices_short most_sign_entries count (slices_of to_rows to_cols to_values) → d ≡ false
    → r ≡ input_number most_size most_sign_entries size count rows cols map fixed → Judged size count (slices_of rows cols values) map fixed (slices_of to_rows to_cols to_values) r
judged e f g h n = record { from_long = sym e ∙ f; to_long = sym g ∙ h; number = n }

module _ {size count : ℕ} {from : Slices} {map fixed : List ℕ} {to : Slices} {r : ℕ} (j : Judged size count from map fixed to r) where
  is_number : r ≡ submatrix_number most_size most_sign_entries size count from map fixed to
  unfolding submatrix_number
  is_number = j.number ∙ sym (first_skip 31 _ _ j.from_long ∙ first_skip 31 _ _ j.to_long ∙ first_last _)

  pub reduces_input : (r ≡ 0 → ⊥) → Reduces size count from map fixed to (Err r) to
  reduces_input n = record { numbered = is_number; refused = λ _. refl; accepted = λ z. absurd (n z) }

  pub reduces_done : {n : ℕ} {to' : Slices} → r ≡ 0 → n ≡ length (reduced_places (table_in count from) map)
      → Wrote (value_in (table_in count from) map) (reduced_places (table_in count from) map) 0 to.rows to.cols to.values to'.rows to'.cols to'.values
      → Reduces size count from map fixed to (Ok n) to'
  reduces_done z e w = record { numbered = sym z ∙ is_number; refused = λ n. absurd (n refl); accepted = λ _. (ap Ok e, w) }

-- ---- where the input is not refused

module _ {most_size most_sign_entries size count : ℕ} {from : Slices} {map fixed : List ℕ} where
  pub input_accepted : input_number most_size most_sign_entries size count from.rows from.cols map fixed ≡ 0 → Input most_size most_sign_entries size count from map fixed
  unfolding input_number
  input_accepted e =
      let e₁ = first_rest (13 if ltb most_sign_entries count) _ e in
      let order = clear _ 13 (first_head (14 if bad_order size (elem from.rows) (elem from.cols) count) _ e₁) in
      let e₂ = first_rest (14 if bad_order size (elem from.rows) (elem from.cols) count) _ e₁ in
      record {
        few = ltb-false _ _ (clear _ 12 (first_head (13 if ltb most_sign_entries count) _ e));
        in_range = order_range size (table_in count from) order;
        rising = order_rising size (table_in count from) order;
        mapped = index_mapped (clear _ 19 (first_head (20 if index_refused most_size size map fixed) [] e₂));
      }

  pub input_passes : Input most_size most_sign_entries size count from map fixed → input_number most_size most_sign_entries size count from.rows from.cols map fixed ≡ 0
  unfolding input_number
  input_passes i =
      first_skip 13 _ _ (le-ltb _ _ i.few)
      ∙ first_skip 14 _ _ (order_passes size (table_in count from) i.in_range i.rising)
      ∙ first_skip 20 _ _ (mapped_index i.mapped) ∙ first_end

  pub input_reducible : Input most_size most_sign_entries size count from map fixed → Reducible most_size most_sign_entries (table_in count from) map
  input_reducible i =
      record {
        entries = i.few;
        in_range = range_up i.mapped.small i.in_range;
        rising = i.rising;
        map_within = within_up i.mapped.small i.mapped.map_within;
        map_once = i.mapped.map_once;
      }

-- what the writing asks of the slices, the table and the map
pub judged_asks : {size count : ℕ} {from : Slices} {map fixed : List ℕ} {to : Slices} {r : ℕ} → Judged size count from map fixed to r → r ≡ 0
    → Lent count from.rows from.cols from.values × Reducible most_size most_sign_entries (table_in count from) map × Room 0 count to.rows to.cols to.values
judged_asks {from = from} {to = to} j z =
    let i = input_accepted {from = from} (sym j.number ∙ z) in
    let l = table_lent j.to_long i.few in (
      table_lent j.from_long i.few,
      input_reducible i,
      record { rows_room = omega (arith, l.rows_there); cols_room = omega (arith, l.cols_there); values_room = omega (arith, l.values_there) },
    )

-- ---- the theorem: nothing is refused exactly where the slices are long enough and the input is as it should be

module _ {most_size most_sign_entries size count : ℕ} {from : Slices} {map fixed : List ℕ} {to : Slices} where
  pub submatrix_accepted : submatrix_number most_size most_sign_entries size count from map fixed to ≡ 0 → Acceptable most_size most_sign_entries size count from map fixed to
  unfolding submatrix_number
  submatrix_accepted e =
      let e₁ = first_rest (31 if slices_short most_sign_entries count from) _ e in
      let e₂ = first_rest (31 if slices_short most_sign_entries count to) _ e₁ in
      let i = input_accepted {from = from} (first_head (input_number most_size most_sign_entries size count from.rows from.cols map fixed) [] e₂) in
      record {
        from_lent = table_lent (clear _ 30 (first_head (31 if slices_short most_sign_entries count from) _ e)) i.few;
        to_lent = table_lent (clear _ 30 (first_head (31 if slices_short most_sign_entries count to) _ e₁)) i.few;
        input = i;
      }

  pub submatrix_passes : Acceptable most_size most_sign_entries size count from map fixed to → submatrix_number most_size most_sign_entries size count from map fixed to ≡ 0
  unfolding submatrix_number
  submatrix_passes a =
      first_skip 31 _ _ (lent_table a.input.few a.from_lent)
      ∙ first_skip 31 _ _ (lent_table a.input.few a.to_lent)
      ∙ first_next _ _ (input_passes a.input) ∙ first_end
