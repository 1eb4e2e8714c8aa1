-- 01's search on signs. `objective x` and `change x i` stand for those of the sign table, in eighths:
-- change x i is 4·Q_ii − 4·x_i·(Qx)_i, by which flipping sign i of x changes the objective.
use Rattle.std.specs.Prelude.{ℕ, zero, suc, ◌^◌, ◌≤◌, ◌<◌, Bool, true, false, cond, List, [], ◌∷◌, ◌++◌, ◌≡◌, ℤ, pos, ◌+ℤ◌, ◌*ℤ◌, length}
use Rattle.std.specs.Int.Signed.{lt_z}
use Rattle.std.specs.Int.{w64}
use Rattle.std.proofs.Common.{SFits}
use Rattle.local_search.specs.LocalSearch.{Found, searched}
use Rattle.local_search.specs.Level.{Choice, below, flip_sign, child_of}

-- child i of x, where it exists
abbrev pub child_at : {X : Type 0} → (X → ℕ → Bool) → (ℕ → X → X) → X → ℕ → List X
child_at exists flip x i = cond (exists x i) (flip i x ∷ []) []

-- the children of x among those of the first n signs, by index
unfoldable pub improving : {X : Type 0} → (X → ℕ → Bool) → (ℕ → X → X) → ℕ → X → List X
improving exists flip zero x = []
improving exists flip (suc n) x = improving exists flip n x ++ child_at exists flip x n

abbrev pub lower : (List ℕ → ℤ) → List ℕ → List ℕ → Bool
lower objective x y = lt_z (objective x) (objective y)

-- child i of x flips sign i; in 01's search it exists when its change is below 0
abbrev pub improves : (List ℕ → ℕ → ℤ) → List ℕ → ℕ → Bool
improves change x i = lt_z (change x i) (pos 0)

-- of these the ones that `keep` lets through
abbrev pub keeping : (List ℕ → ℕ → ℤ) → (List ℕ → ℕ → Bool) → List ℕ → ℕ → Bool
keeping change keep x i = cond (improves change x i) (keep x i) false

-- the search from `start` of m signs, over the children that exist
unfoldable pub sign_search : (List ℕ → ℤ) → (List ℕ → ℕ → Bool) → ℕ → ℕ → ℕ → List ℕ → Found (List ℕ)
sign_search objective exists m W fuel start = searched (lower objective) (improving exists flip_sign m) W fuel start

-- the same with each choice's objective carried along, as the buffers have it
module _ (change : List ℕ → ℕ → ℤ) where
  abbrev pub improves_c : Choice → ℕ → Bool
  improves_c c i = improves change c.signs i

  unfoldable pub flip_c : ℕ → Choice → Choice
  flip_c i c = child_of (c.objective +ℤ change c.signs i) i c.signs

  abbrev pub children_c : (Choice → ℕ → Bool) → ℕ → Choice → List Choice
  children_c exists m = improving exists flip_c m

  -- the objectives by flipping each sign of a choice fit 64 bits
  abbrev pub Safe : Choice → Type 0
  Safe c = (i : ℕ) → i < length c.signs → SFits w64 (c.objective +ℤ change c.signs i)

-- the search from a choice with its objective
abbrev pub searched_from : (List ℕ → ℕ → ℤ) → (Choice → ℕ → Bool) → ℕ → ℕ → Choice → Found Choice
searched_from change exists width fuel start = searched below (children_c change exists (length start.signs)) width fuel start

-- what a table of m signs owes its objective and changes: height is that above the floor
pub record Lawful (m : ℕ) (objective : List ℕ → ℤ) (change : List ℕ → ℕ → ℤ) (floor : ℤ) (height : List ℕ → ℕ) : Type 0 where
  pub above_floor : (x : List ℕ) → length x ≡ m → objective x ≡ floor +ℤ pos (height x)
  pub changes : (x : List ℕ) (i : ℕ) → length x ≡ m → i < m → objective (flip_sign i x) ≡ objective x +ℤ change x i
  pub fours : (x : List ℕ) (i : ℕ) → length x ≡ m → i < m → (z : ℤ) × (change x i ≡ pos 4 *ℤ z)

-- the changes are those of an objective with a floor, which the start has; what exists is an improving child; and the fuel is at least the
-- start's height, so that it lasts
pub record Searches (change : List ℕ → ℕ → ℤ) (exists : Choice → ℕ → Bool) (fuel : ℕ) (start : Choice) : Type 0 where
  pub objective : List ℕ → ℤ
  pub floor : ℤ
  pub height : List ℕ → ℕ
  pub lawful : Lawful (length start.signs) objective change floor height
  pub improving : (c : Choice) (i : ℕ) → exists c i ≡ true → improves_c change c i ≡ true
  pub start_is : start.objective ≡ objective start.signs
  pub bounded : (x : List ℕ) → length x ≡ length start.signs → SFits w64 (objective x)
  pub enough : height start.signs ≤ fuel
  pub low : height start.signs < 2 ^ 64
