-- What holds of the slices where 31 is not answered, and of a call where no number is. Assumes nothing.
use Prim.Native.Nat.{ℕ, ◌≤◌, ◌<◌}
use borrow.Author.Tests.{ltb-false, le-ltb}
use mathlib.Core.Bool.{false}
use mathlib.Core.List.{List}
use mathlib.Core.Path.{◌≡◌, refl}
use lib.ListN.{length}
use Rattle.laws.specs.Lists.{elem}
use Rattle.laws.proofs.Any.{any_head, any_rest, below_false}
use Rattle.laws.proofs.Refusal.{first_head, first_rest, clear}
use Rattle.limits.specs.Limits.{most_wagons, most_entries, most_magnitude, search_workspace}
use Rattle.tables.specs.Table.{Lent}
use Rattle.tables.specs.CostTable.{CostTable, quadratic, linear}
use Rattle.tables.specs.Check.{Hall}
use Rattle.tables.proofs.Checks.{long_enough, table_lent, hall_accepted}
use Rattle.block_search.specs.Numbers.{above_one, bad_width, choices_short}
use Rattle.block_search.proofs.Numbers.{width_few}
use Rattle.limited_search.specs.Numbers.{move_number, call_short, limited_number}
use Rattle.limited_search.specs.Search.{SearchFits}

-- the slices are long enough for what is in range
pub record LongCall (t : CostTable) (present choice workspace : ℕ) : Type 0 where
  pub table_long : t.count ≤ most_entries → Lent t.count t.rows t.cols t.values
  pub costs_long : t.n ≤ most_wagons → t.n ≤ length t.c
  pub present_long : t.n ≤ most_wagons → t.n ≤ present
  pub choice_long : t.n ≤ most_wagons → t.n ≤ choice
  pub workspace_long : search_workspace ≤ workspace

pub slices_long : (t : CostTable) (present choice workspace : ℕ)
    → call_short t.n t.count (length t.rows) (length t.cols) (length t.values) (length t.c) present choice workspace ≡ false → LongCall t present choice workspace
unfolding call_short choices_short
slices_long t present choice workspace e =
    let e₁ = any_rest _ _ e in
    let cs = any_head _ _ e₁ in
    record {
      table_long = λ h. table_lent (any_head _ _ e) h;
      costs_long = λ h. long_enough (any_head _ _ cs) (le-ltb most_wagons t.n h);
      present_long = λ h. long_enough (any_head _ _ (any_rest _ _ cs)) (le-ltb most_wagons t.n h);
      choice_long = λ h. long_enough (any_head _ _ (any_rest _ _ (any_rest _ _ cs))) (le-ltb most_wagons t.n h);
      workspace_long = long_enough (any_head _ _ (any_rest _ _ e₁)) refl;
    }

-- ---- where no number applies

pub record Ready (t : CostTable) (present : List ℕ) (width choice workspace : ℕ) : Type 0 where
  pub lent : Lent t.count t.rows t.cols t.values
  pub costs_there : t.n ≤ length t.c
  pub hall : Hall most_wagons most_entries most_magnitude t.n (quadratic t) (linear t)
  pub choice_there : t.n ≤ choice
  pub space_there : search_workspace ≤ workspace
  pub fits : (found space : ℕ) → t.n ≤ found → search_workspace ≤ space → SearchFits t.n present width found space

module _ (t : CostTable) (present : List ℕ) (k width choice workspace : ℕ)
    (e : limited_number t.n t.count t.rows t.cols t.values t.c present k width choice workspace ≡ 0) where
  long : LongCall t (length present) choice workspace
  unfolding limited_number
  long = slices_long t (length present) choice workspace (clear _ 30 (first_head _ _ e))

  pub hall_good : Hall most_wagons most_entries most_magnitude t.n (quadratic t) (linear t)
  unfolding limited_number
  hall_good = hall_accepted (first_head _ _ (first_rest _ _ e))

  moves_good : move_number t.n present k width ≡ 0
  unfolding limited_number
  moves_good = first_head _ _ (first_rest _ _ (first_rest _ _ e))

  pub present_low : (i : ℕ) → i < t.n → elem present i ≤ 1
  unfolding move_number above_one
  present_low i h = ltb-false 1 (elem present i) (below_false _ t.n (clear _ 26 (first_head _ _ moves_good)) i h)

  pub width_good : bad_width width ≡ false
  unfolding move_number
  width_good = clear _ 18 (first_head _ _ (first_rest _ _ (first_rest _ _ moves_good)))

  -- what the call asks of the search, and what it lends to it
  pub ready : Ready t present width choice workspace
  ready =
      record {
        lent = long.table_long hall_good.entries;
        costs_there = long.costs_long hall_good.wagons;
        hall = hall_good;
        choice_there = long.choice_long hall_good.wagons;
        space_there = long.workspace_long;
        fits =
            λ found space f s. record { present_there = long.present_long hall_good.wagons; present_low = present_low; width_few = width_few width width_good; found_room = f; space_room = s };
      }
