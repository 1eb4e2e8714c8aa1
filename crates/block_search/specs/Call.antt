-- What `block_search` answers, leaves in the slices lent to it, and promises of the choices.
use Rattle.std.specs.Prelude.{ℕ, suc, ◌≤◌, ◌<◌, ◌≡◌, true, false, List, ℤ, pos, ◌-ℤ◌, length, drop, ◌≤ℤ◌}
use Rattle.laws.specs.Lists.{elem, elem_z, over}
use Rattle.limits.specs.Limits.{search_workspace}
use Rattle.tables.specs.Table.{table_of}
use Rattle.tables.specs.Cost.{choice_at}
use Rattle.finalize.specs.Finalize.{cost_of}
use Rattle.finalize.specs.Demand3.{DifferInOne}
use Rattle.block_search.specs.Blocks.{BlockCall, named, block_of, block_moves, searched_from, choice_after, fall_of, falls_of, last_choice, first_choice}
use Rattle.block_search.specs.Moved.{Apart, AsMoved}
use Rattle.block_search.specs.Numbers.{block_number}

-- what a choice costs, in eighths
abbrev pub call_cost : BlockCall → List ℕ → ℤ
call_cost q b = cost_of q.n q.table q.costs b

-- two choices that differ in every wagon that isn't pinned, and in no pinned one; any two that do are meant (`differ_house`, proofs/Named)
pub record DifferInHouse (q : BlockCall) (b b' : List ℕ) : Type 0 where
  pub differ : (i : ℕ) → i < q.n → named q.pinned i ≡ false → choice_at b i ≡ choice_at b' i → ⊥
  pub stay : (i : ℕ) → i < q.n → named q.pinned i ≡ true → choice_at b i ≡ choice_at b' i

-- what holds of an accepted call, whatever its lists
pub record Cleared (q : BlockCall) : Type 0 where
  -- each pinned wagon is first set to its store, each other one is where the present choice has it
  pub pins_set : (k : ℕ) → k < length q.pinned → elem (first_choice q) (elem q.pinned k) ≡ elem q.stores k
  pub others_present : (i : ℕ) → i < q.n → named q.pinned i ≡ false → elem (first_choice q) i ≡ elem q.present i
  -- from there each block in turn is searched from the choice that the one before it left: 01's search on the sign table of (H, c) reduced by all
  -- other wagons, which stand where that choice has them; pinned wagons are among these, whatever the block names
  pub begins : choice_after q 0 ≡ first_choice q
  pub in_turn : (k : ℕ) → k < length q.sizes
      → choice_after q (suc k) ≡ searched_from q.n q.table q.costs q.width (block_moves q.pinned q.sizes q.wagons k) (choice_after q k)
  -- "after each block the full cost falls by exactly that, which is never negative"
  pub falls_are : (k : ℕ) → k < length q.sizes → call_cost q (choice_after q k) -ℤ call_cost q (choice_after q (suc k)) ≡ fall_of q k
  pub falls_up : (k : ℕ) → k < length q.sizes → pos 0 ≤ℤ fall_of q k
  -- a block moves no wagon but its own
  pub others_stay : (k i : ℕ) → k < length q.sizes → i < q.n → named (block_of q.sizes q.wagons k) i ≡ false
      → elem (choice_after q (suc k)) i ≡ elem (choice_after q k) i
  -- every choice on the way has each pinned wagon in its store, the last one too
  pub keeps : (k j : ℕ) → j < length q.pinned → elem (choice_after q k) (elem q.pinned j) ≡ elem q.stores j
  pub keeps_last : (j : ℕ) → j < length q.pinned → elem (last_choice q) (elem q.pinned j) ≡ elem q.stores j
  -- the last search costs no more than the blocks left
  pub house_falls : call_cost q (last_choice q) ≤ℤ call_cost q (choice_after q (length q.sizes))
  -- "the last choice can't be bettered by one wagon that isn't pinned"
  pub one_wagon : (b' : List ℕ) (d : DifferInOne q.n (last_choice q) b') → named q.pinned d.wagon ≡ false → call_cost q (last_choice q) ≤ℤ call_cost q b'
  -- nor by all of these together
  pub all_wagons : (b' : List ℕ) → DifferInHouse q (last_choice q) b' → call_cost q (last_choice q) ≤ℤ call_cost q b'
  -- "Only calls with a wagon in both lists may answer otherwise than before"
  pub as_before : Apart q → AsMoved q
  -- it has a byte 0 or 1 for each wagon
  pub long : length (last_choice q) ≡ q.n
  pub bytes : (i : ℕ) → elem (last_choice q) i ≤ 1

module _ (n count : ℕ) (rows cols : List ℕ) (values c : List ℤ) (pinned stores present sizes wagons : List ℕ) (width : ℕ) where
  -- the call of these arguments
  abbrev pub call_of : BlockCall
  call_of = record {
    n = n;
    table = table_of count rows cols values;
    costs = elem_z c;
    width = width;
    pinned = pinned;
    stores = stores;
    present = present;
    sizes = sizes;
    wagons = wagons;
  }

  module _ (choice : List ℕ) (falls : List ℤ) (workspace : List ℕ) where
    abbrev pub call_number : ℕ
    call_number = block_number n count rows cols values c pinned stores present sizes wagons width (length choice) (length falls) (length workspace)

    -- the contract
    pub record BlockSearches (choice' : List ℕ) (falls' : List ℤ) (workspace' : List ℕ) (r : ℕ) : Type 0 where
      -- the number is the first that applies
      pub numbered : r ≡ call_number
      -- a refusal leaves every slice as it was
      pub refused : (call_number ≡ 0 → ⊥) → (choice' ≡ choice) × (falls' ≡ falls) × (workspace' ≡ workspace)
      -- where no number applies, the last choice and the falls stand at the front of their slices, whose tails stay
      pub choice_is : call_number ≡ 0 → choice' ≡ over (last_choice call_of) choice
      pub falls_are : call_number ≡ 0 → falls' ≡ over (falls_of call_of) falls
      -- of the workspace no more is written than the call asks
      pub kept : drop search_workspace workspace' ≡ drop search_workspace workspace
      -- what then holds of the choices
      pub cleared : call_number ≡ 0 → Cleared call_of
