-- What `SignTable::make` leaves is the sign table of (H, c).
use Prim.Native.Nat.{ℕ, suc, ◌≤◌}
use native.Mathlib.Omega.{arith}
use mathlib.Core.List.{List}
use mathlib.Core.Path.{◌≡◌, sym, ◌∙◌}
use lib.IntN.{ℤ}
use lib.ListN.{length, take, length-map}
use Rattle.laws.proofs.Parts.{take_sets}
use Rattle.limits.specs.Limits.{most_wagons, most_entries, most_magnitude, most_signs, most_sign_entries, most_sign_magnitude}
use Rattle.tables.specs.Table.{Table, table_of}
use Rattle.tables.specs.Check.{Hall, Accepted}
use Rattle.tables.specs.Stored.{rows_of, cols_of, values_of, Wrote}
use Rattle.sign_table.specs.SignTable.{sign_of, sign_places, sign_table}
use Rattle.sign_table.specs.Made.{made_table, TableMade}
use Rattle.sign_table.specs.declared.made.SignTable.{SignTable}
use Rattle.sign_table.proofs.Theorems.{hall_sign_table}

module _ (n : ℕ) (h : Table) (c : ℕ → ℤ) where
  -- the entries that were written, cut to their count
  made_is : {rows cols rows' cols' : List ℕ} {values values' : List ℤ} (entries : ℕ)
      → Wrote (sign_of n h c) (sign_places n h c) 0 rows cols values rows' cols' values' → entries ≡ length (sign_places n h c)
      → entries ≤ length rows → entries ≤ length cols → entries ≤ length values
      → table_of entries (take entries rows') (take entries cols') (take entries values') ≡ sign_table n h c
  made_is {rows} {cols} {values = values} entries w e r k v =
      let ps = sign_places n h c in
      rw (
        w.rows_are,
        w.cols_are,
        w.values_are,
        take_sets (rows_of ps) rows entries (e ∙ sym (length-map ps (λ p. p.0))) r,
        take_sets (cols_of ps) cols entries (e ∙ sym (length-map ps (λ p. p.1))) k,
        take_sets (values_of (sign_of n h c) ps) values entries (e ∙ sym (length-map ps (λ p. sign_of n h c p.0 p.1))) v,
        e,
      )

  pub made : {rows cols rows' cols' : List ℕ} {values values' : List ℤ} (entries : ℕ) → Hall most_wagons most_entries most_magnitude n h c
      → Wrote (sign_of n h c) (sign_places n h c) 0 rows cols values rows' cols' values' → entries ≡ length (sign_places n h c)
      → length rows ≡ most_sign_entries → length cols ≡ most_sign_entries → length values ≡ most_sign_entries
      → TableMade n h c (record { count = entries; rows = rows'; cols = cols'; values = values' })
  made entries hall w e r k v =
      let few : length (sign_places n h c) ≤ most_sign_entries = (hall_sign_table hall).entries in
      record {
        fits = omega (arith, few, e);
        is = made_is entries w e (omega (arith, few, e, r)) (omega (arith, few, e, k)) (omega (arith, few, e, v));
      }

-- it meets 01's limits
pub made_accepted : {n : ℕ} {h : Table} {c : ℕ → ℤ} {s : SignTable} → TableMade n h c s → Hall most_wagons most_entries most_magnitude n h c
    → Accepted most_signs most_sign_entries most_sign_magnitude (suc n) (made_table s)
made_accepted m hall = rw m.is (hall_sign_table hall)
