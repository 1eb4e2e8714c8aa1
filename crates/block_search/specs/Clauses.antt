-- What the functions of a search ask and leave.
use Rattle.std.specs.Prelude.{ℕ, ◌≤◌, ◌<◌, ◌≡◌, Bool, true, List, [], ◌∷◌, ◌++◌, length, Option, Some, None}
use Rattle.std.specs.Borrow.{Bor}
use Rattle.laws.specs.Sum.{total}
use Rattle.laws.specs.Lists.{elem, tabulate}
use Rattle.limits.specs.Limits.{most_width, most_blocks, search_workspace}
use Rattle.reduced.specs.Indices.{Within}
use Rattle.block_search.specs.Blocks.{named, free_among}

-- each byte is 0 or 1
pub record Low (b : List ℕ) : Type 0 where
  pub low : (i : ℕ) → elem b i ≤ 1

-- the wagons that the block names, or, where there is none, those of the whole house
abbrev pub asked_by : Option (Bor (List ℕ)) → ℕ → Bool
asked_by None i = true
asked_by (Some block) i = named block.now i

-- of these every one that isn't pinned
abbrev pub moved_by : List ℕ → Option (Bor (List ℕ)) → ℕ → Bool
moved_by pinned block = free_among pinned (asked_by block)

-- the bytes of b at the free wagons, then the anchor's
unfoldable pub start_signs : List ℕ → List ℕ → List ℕ
start_signs free b = tabulate (λ k. elem b (elem free k)) (length free) ++ (0 ∷ [])

-- what a search of f wagons from b asks
pub record SearchFits (f width : ℕ) (free b : List ℕ) (found workspace : ℕ) : Type 0 where
  pub wagons_many : length free ≡ f
  pub wagons_there : Within (length b) free
  pub bytes_low : Low b
  pub width_few : width ≤ most_width
  pub found_room : f ≤ found
  pub space_room : search_workspace ≤ workspace

-- what a search of some wagons of a judged (H, c) from b asks
pub record HouseFits (n width : ℕ) (b : List ℕ) (workspace : ℕ) : Type 0 where
  pub width_some : 1 ≤ width
  pub width_few : width ≤ most_width
  pub bytes_many : length b ≡ n
  pub bytes_low : Low b
  pub space_room : search_workspace ≤ workspace

-- what the pins ask: each in range, a store for each
pub record PinsFit (n : ℕ) (pinned stores present : List ℕ) : Type 0 where
  pub wagons_there : Within n pinned
  pub stores_there : length pinned ≤ length stores
  pub present_there : n ≤ length present
  pub stores_low : (k : ℕ) → k < length pinned → elem stores k ≤ 1
  pub present_low : (i : ℕ) → i < n → elem present i ≤ 1

-- what a whole call asks beside a judged (H, c): the choice has n bytes, whatever they are
pub record ClearFits (n width : ℕ) (pinned stores present sizes wagons choice : List ℕ) (falls workspace : ℕ) : Type 0 where
  pub width_some : 1 ≤ width
  pub width_few : width ≤ most_width
  pub pins : PinsFit n pinned stores present
  pub wagons_there : total (length sizes) (elem sizes) ≤ length wagons
  pub blocks_few : length sizes ≤ most_blocks
  pub falls_room : length sizes ≤ falls
  pub choice_many : length choice ≡ n
  pub space_room : search_workspace ≤ workspace
