-- `map_first`, as a loop that writes a list from the front makes it, one store a turn. No lemma asks that an index is within the list.
--     length_map_first    the length stays
--     map_first_next      one more store makes one more element
--     map_first_const     one value at every element
--     map_first_copy      the elements of another list
--     fill_none, -more, -all   the same for a loop that reads none of the elements
--     fill_again          a second filling leaves nothing of the first
-- Assumes nothing.
use mathlib.Core.Path.{◌≡◌, refl, ap}
use mathlib.Core.List.{List, [], ◌∷◌}
use Prim.Native.Nat.{ℕ, zero, suc, ◌+◌, ◌<◌, ◌≤◌}
use native.Mathlib.Numerals.{add-one}
use native.Mathlib.Omega.{arith}
use lib.ListN.{length, get_or, set, replicate}
use Rattle.laws.specs.Rows.{map_first}
use Rattle.laws.specs.Lists.{fill}

module _ {A : Type 0} where
  pub length_map_first : (f : ℕ → A → A) (n : ℕ) (xs : List A) → length (map_first f n xs) ≡ length xs
  unfolding map_first
  length_map_first f zero xs = refl
  length_map_first f (suc n) [] = refl
  length_map_first f (suc n) (x ∷ xs) = ap suc (length_map_first (λ j. f (suc j)) n xs)

  map_first_suc : (f : ℕ → A → A) (i : ℕ) (xs : List A) (d : A)
      → set (map_first f i xs) i (f i (get_or (map_first f i xs) i d)) ≡ map_first f (suc i) xs
  unfolding map_first
  map_first_suc f zero [] d = refl
  map_first_suc f zero (x ∷ xs) d = refl
  map_first_suc f (suc i) [] d = refl
  map_first_suc f (suc i) (x ∷ xs) d = ap (λ (l : List A). f zero x ∷ l) (map_first_suc (λ j. f (suc j)) i xs d)

  -- the turn of a loop that has rewritten the first i elements of xs, which now are ys
  pub map_first_next : (f : ℕ → A → A) (i : ℕ) (xs ys : List A) (d : A) → ys ≡ map_first f i xs
      → set ys i (f i (get_or ys i d)) ≡ map_first f (i + 1) xs
  map_first_next f i xs ys d e = rw (e, add-one) (map_first_suc f i xs d)

  pub map_first_const : (a : A) (xs : List A) → map_first (λ j x. a) (length xs) xs ≡ replicate (length xs) a
  unfolding map_first
  map_first_const a [] = refl
  map_first_const a (x ∷ xs) = ap (λ (l : List A). a ∷ l) (map_first_const a xs)

  -- the elements of ys, copied over as many of xs
  pub map_first_copy : (d : A) (xs ys : List A) → length xs ≡ length ys → map_first (λ j x. get_or ys j d) (length xs) xs ≡ ys
  unfolding map_first
  map_first_copy d [] [] e = refl
  map_first_copy d [] (y ∷ ys) e = cc
  map_first_copy d (x ∷ xs) [] e = cc
  map_first_copy d (x ∷ xs) (y ∷ ys) e = ap (λ (l : List A). y ∷ l) (map_first_copy d xs ys (omega arith))

  pub get_d_map_first : (f : ℕ → A → A) (n : ℕ) (xs : List A) (i : ℕ) (d : A) → i < n → i < length xs
      → get_or (map_first f n xs) i d ≡ f i (get_or xs i d)
  unfolding map_first
  get_d_map_first f zero xs i d h l = elim h [ ]
  get_d_map_first f (suc n) [] i d h l = elim l [ ]
  get_d_map_first f (suc n) (x ∷ xs) zero d h l = refl
  get_d_map_first f (suc n) (x ∷ xs) (suc i) d h l = get_d_map_first (λ j. f (suc j)) n xs i d (omega arith) (omega arith)

  -- what was filled before is written over
  pub fill_again : (f g : ℕ → A) (n : ℕ) (xs : List A) → fill f n (fill g n xs) ≡ fill f n xs
  unfolding map_first
  fill_again f g zero xs = refl
  fill_again f g (suc n) [] = refl
  fill_again f g (suc n) (x ∷ xs) = ap (λ (ys : List A). f 0 ∷ ys) (fill_again (λ j. f (suc j)) (λ j. g (suc j)) n xs)

-- a loop that fills a list from the front, whose elements were not read
module _ {A : Type 0} (f : ℕ → A) (l : List A) where
  pub fill_none : l ≡ fill f 0 l
  unfolding map_first
  fill_none = refl

  pub fill_more : (i : ℕ) {m : List A} {v : A} → m ≡ fill f i l → v ≡ f i → set m i v ≡ fill f (i + 1) l
  fill_more i {m} e h = rw h (map_first_next (λ j _. f j) i l m (f i) e)

  pub fill_all : (i n : ℕ) {m : List A} → m ≡ fill f i l → i ≤ n → n ≤ i → m ≡ fill f n l
  fill_all i n e up down = let same : n ≡ i = omega arith in rw same e

  pub length_fill : (i : ℕ) → length (fill f i l) ≡ length l
  length_fill i = length_map_first (λ j _. f j) i l
