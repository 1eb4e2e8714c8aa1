-- The search of `limited_search` on the sign table of n wagons: "from p (1 is −, anchor +) by single wagons, the anchor still, keeping children within
-- distance k of p and otherwise 01's levels" (02, Note 13).
use Rattle.std.specs.Prelude.{ℕ, suc, ◌≤◌, ◌<◌, cond, List, ◌≡◌, ltb, ℤ, length}
use Rattle.laws.specs.Lists.{elem, over, tabulate}
use Rattle.limits.specs.Limits.{most_width, search_workspace}
use Rattle.tables.specs.Table.{Table}
use Rattle.local_search.specs.LocalSearch.{Found}
use Rattle.sign_search.specs.Within.{bounds, within}
use Rattle.sign_search.specs.Search.{objective_in, limited_search}
use Rattle.finalize.specs.Finalize.{choice_of}

-- a choice's signs: the wagons' bytes, and + for the anchor, the last
unfoldable pub present_signs : ℕ → List ℕ → List ℕ
present_signs n p = tabulate (λ i. cond (ltb i n) (elem p i) 0) (suc n)

-- the first n signs may flip, and a choice may differ from the present one in at most k
unfoldable pub limited_found : Table → ℕ → List ℕ → ℕ → ℕ → Found (List ℕ)
limited_found t n p k W = limited_search t (within (bounds n k (present_signs n p))) W (present_signs n p)

-- ---- what the functions of the search ask and leave

pub record SearchFits (n : ℕ) (p : List ℕ) (width found space : ℕ) : Type 0 where
  pub present_there : n ≤ length p
  pub present_low : (i : ℕ) → i < n → elem p i ≤ 1
  pub width_few : width ≤ most_width
  pub found_room : n ≤ found
  pub space_room : search_workspace ≤ space

pub record Leaves (t : Table) (n : ℕ) (p : List ℕ) (k W : ℕ) (found found' : List ℕ) (least : ℤ) (rounds : ℕ) : Type 0 where
  pub least_is : least ≡ objective_in t (limited_found t n p k W).answer
  pub rounds_are : rounds ≡ (limited_found t n p k W).rounds
  pub choice_is : found' ≡ over (choice_of n (limited_found t n p k W).answer) found
