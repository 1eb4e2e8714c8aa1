-- 01's local search on a sign table ("Rounding and search"; `beam_search` of sdp_local_search.rs). Signs are bytes: 0 is +, any other −.
use Rattle.std.specs.Prelude.{ℕ, Bool, List, ◌≡◌, ℤ, nat_abs, ◌-ℤ◌, length}
use Rattle.tables.specs.Table.{Table, InRange, Symmetric, value_at, sign_at, objective_of, floor_of}
use Rattle.tables.specs.Flip.{flip_change}
use Rattle.sign_words.specs.Packed.{unpacked, packed, flip_in}
use Rattle.local_search.specs.LocalSearch.{Found, searched}
use Rattle.local_search.specs.SignSearch.{lower, improving, improves, keeping, sign_search}

-- the objective, in eighths
unfoldable pub objective_in : Table → List ℕ → ℤ
objective_in t x = objective_of t (sign_at x)

-- the change of the objective by flipping sign i: 4·Q_ii − 4·x_i·(Qx)_i
unfoldable pub change_in : Table → List ℕ → ℕ → ℤ
change_in t x i = flip_change (length x) (value_at t) (sign_at x) i

-- how far the objective stands above the floor: a search from x has at most as many levels (`levels_end` in proofs/Theorems)
unfoldable pub height_in : Table → List ℕ → ℕ
height_in t x = nat_abs (objective_in t x -ℤ floor_of t)

-- a table of m signs that equals its mirror image
pub record Mirrors (m : ℕ) (t : Table) : Type 0 where
  pub in_range : InRange m t
  pub symmetric : Symmetric m (value_at t)

-- the search from `start` with width W, over the children that exist
abbrev pub search_over : Table → (List ℕ → ℕ → Bool) → ℕ → List ℕ → Found (List ℕ)
search_over t exists W start = sign_search (objective_in t) exists (length start) W (height_in t start) start

-- 01's search: every child whose change is below 0 exists, the anchor's too
unfoldable pub beam_search : Table → ℕ → List ℕ → Found (List ℕ)
beam_search t W start = search_over t (improves (change_in t)) W start

-- the same search with its choices of m signs in words: bit i is sign i, and a flip of sign i is one of that bit
unfoldable pub packed_search : Table → ℕ → ℕ → List ℕ → Found (List ℕ)
packed_search t m W start =
    searched (λ a b. lower (objective_in t) (unpacked m a) (unpacked m b)) (improving (λ a i. improves (change_in t) (unpacked m a) i) flip_in m) W (height_in t (unpacked m start)) start

-- "The packed search is proved equal to the byte search: same answer, same objective, same rounds" (02, Note 4), from signs x in n words
pub record SameFound (t : Table) (n W : ℕ) (x : List ℕ) : Type 0 where
  pub answer : (packed_search t (length x) W (packed n x)).answer ≡ packed n (beam_search t W x).answer
  pub objective : objective_in t (unpacked (length x) (packed_search t (length x) W (packed n x)).answer) ≡ objective_in t (beam_search t W x).answer
  pub rounds : (packed_search t (length x) W (packed n x)).rounds ≡ (beam_search t W x).rounds

-- the same over the children that `keep` lets through
unfoldable pub limited_search : Table → (List ℕ → ℕ → Bool) → ℕ → List ℕ → Found (List ℕ)
limited_search t keep W start = search_over t (keeping (change_in t) keep) W start
