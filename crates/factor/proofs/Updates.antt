-- A list that is changed element by element, as a definition by `map_first` has it.
--     updated_is    what a function f of each element and its place makes
-- Assumes nothing.
use mathlib.Core.Path.{◌≡◌, refl}
use mathlib.Core.List.{List, [], ◌∷◌}
use Prim.Native.Nat.{ℕ, suc, ◌<◌}
use native.Mathlib.Omega.{arith}
use lib.Ieee.{Float}
use lib.ListN.{length}
use Rattle.laws.specs.Rows.{map_first}
use Rattle.ieee.specs.Floats.{at}

pub updated_is : (f : ℕ → Float → Float) (xs ys : List Float)
    → (length ys ≡ length xs) × ((j : ℕ) → j < length xs → at ys j ≡ f j (at xs j))
    → ys ≡ map_first f (length xs) xs
unfolding map_first
updated_is f [] [] u = refl
updated_is f [] (y ∷ ys) u = let o : ◌≡◌ {A = ℕ} (suc (length ys)) 0 = u.0 in absurd (omega arith)
updated_is f (x ∷ xs) [] u = let o : ◌≡◌ {A = ℕ} 0 (suc (length xs)) = u.0 in absurd (omega arith)
updated_is f (x ∷ xs) (y ∷ ys) u =
    rw (u.1 0 (omega arith), updated_is (λ j. f (suc j)) xs ys (omega (arith, u.0), λ j h. u.1 (suc j) (omega arith))) refl
