-- The map from new indices to original ones, and the fixed indices (01, "Reduced" and number 20).
use Rattle.std.specs.Prelude.{ℕ, ◌<◌, ◌≤◌, max, ◌≡◌, Bool, List, [], ◌∷◌, length, set, eqb, leb, ltb}
use Rattle.laws.specs.Lists.{elem, any_below}
use Rattle.laws.specs.Refusal.{any_of}
use Rattle.laws.specs.Turns.{up_to}

-- an index that is not below the original size
unfoldable pub outside : ℕ → List ℕ → Bool
outside size indices = any_below (length indices) (λ j. leb size (elem indices j))

-- the greatest index, 0 where there is none
unfoldable pub greatest : List ℕ → ℕ
greatest indices = up_to (λ j most. max most (elem indices j)) (length indices) 0

-- an index of the map twice
unfoldable pub twice : List ℕ → Bool
twice map = any_below (length map) (λ j. any_below j (λ i. eqb (elem map i) (elem map j)))

-- 20: the original size above its limit, or a map or fixed index
unfoldable pub index_refused : ℕ → ℕ → List ℕ → List ℕ → Bool
index_refused most size map fixed = any_of (ltb most size ∷ outside size map ∷ twice map ∷ outside size fixed ∷ [])

-- value 0, .., value (n - 1) put at index 0, .., index (n - 1) of the list, in this order: a later one overwrites an earlier one
abbrev pub put_each : {A : Type 0} → (ℕ → ℕ) → (ℕ → A) → ℕ → List A → List A
put_each index value n l = up_to (λ j xs. set xs (index j) (value j)) n l

-- what is asked of the indices: each below n, none twice
pub record Within (n : ℕ) (indices : List ℕ) : Type 0 where
  pub below : (j : ℕ) → j < length indices → elem indices j < n

pub record Once (indices : List ℕ) : Type 0 where
  pub same : (i j : ℕ) → i < length indices → j < length indices → elem indices i ≡ elem indices j → i ≡ j

-- what the indices are where none is refused
pub record Mapped (most size : ℕ) (map fixed : List ℕ) : Type 0 where
  pub small : size ≤ most
  pub map_within : Within size map
  pub map_once : Once map
  pub fixed_within : Within size fixed
