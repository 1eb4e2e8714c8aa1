-- The sign table of an accepted (H, c) in the slices that it was written to: what holds of it, and of every vector of signs and every choice.
use mathlib.Core.Path.{◌≡◌, ◌∙◌}
use mathlib.Core.List.{List}
use Prim.Native.Nat.{ℕ, suc, ◌+◌, ◌*◌}
use lib.ListN.{length}
use lib.IntN.{ℤ}
use lib.Signed.{◌≤ℤ◌}
use Rattle.laws.specs.Lists.{elem, elem_z, over}
use Rattle.tables.specs.Table.{Table, table_of, value_at, sign_at, objective_of, floor_of}
use Rattle.tables.specs.Cost.{cost_eighths, decoded, choice_at}
use Rattle.tables.specs.Check.{Hall, Accepted}
use Rattle.tables.specs.Stored.{rows_of, cols_of, values_of}
use Rattle.tables.proofs.Slices.{Same, same_objective, same_floor, same_accepted, over_same}
use Rattle.sign_table.specs.SignTable.{sign_of, sign_places}
use Rattle.sign_table.proofs.Theorems.{sign_table_accepted, objective_cost, floor_le_choice}

-- the slices hold the sign table of (H, c) in their first places
pub record Holds (n : ℕ) (h : Table) (c : ℕ → ℤ) (rows cols : List ℕ) (values : List ℤ) : Type 0 where
  pub same : Same (length (sign_places n h c)) (elem rows) (elem (rows_of (sign_places n h c))) (elem cols) (elem (cols_of (sign_places n h c))) (elem_z values)
      (elem_z (values_of (sign_of n h c) (sign_places n h c)))

module _ (n : ℕ) (h : Table) (c : ℕ → ℤ) where
  -- written over the front of others
  pub over_holds : (rows cols : List ℕ) (values : List ℤ) {rows' cols' : List ℕ} {values' : List ℤ} → rows' ≡ over (rows_of (sign_places n h c)) rows → cols' ≡ over (cols_of (sign_places n h c)) cols
      → values' ≡ over (values_of (sign_of n h c) (sign_places n h c)) values → Holds n h c rows' cols' values'
  over_holds rows cols values a b d = record { same = over_same (sign_of n h c) (sign_places n h c) rows cols values a b d }

-- slices that hold the sign table of an accepted (H, c)
module _ {most capacity limit n : ℕ} {h : Table} {c : ℕ → ℤ} (ok : Hall most capacity limit n h c) {rows cols : List ℕ} {values : List ℤ} (s : Holds n h c rows cols values) where
  -- the table in them passes every check of a sign table
  pub built_accepted : Accepted (most + 1) (capacity + 3 * most + 1) (4 * limit) (suc n) (table_of (length (sign_places n h c)) rows cols values)
  built_accepted = same_accepted s.same (sign_table_accepted ok)

  -- its objective at signs is eight times the cost of what they decode to
  pub built_objective : (signs : List ℕ) → objective_of (table_of (length (sign_places n h c)) rows cols values) (sign_at signs) ≡ cost_eighths n (value_at h) c (decoded n signs)
  built_objective signs = same_objective s.same (sign_at signs) ∙ objective_cost ok signs

  -- its floor is at most the cost of every choice
  pub built_floor : (b : List ℕ) → floor_of (table_of (length (sign_places n h c)) rows cols values) ≤ℤ cost_eighths n (value_at h) c (choice_at b)
  built_floor b = rw (same_floor s.same) (floor_le_choice ok b)
