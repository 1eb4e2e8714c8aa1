-- Values put at their indices one after the other: what stands at a place afterwards.
-- Assumes nothing.
use mathlib.Core.Path.{◌≡◌, refl, sym, ap, ◌∙◌}
use mathlib.Core.List.{List, [], ◌∷◌, ◌++◌}
use Prim.Native.Nat.{ℕ, zero, suc, ◌+◌, ◌<◌, ◌≤◌}
use native.Mathlib.Omega.{arith}
use native.Mathlib.Numerals.{add-one}
use native.Mathlib.Decide.{ℕ_discrete}
use lib.ListN.{length, get_or, set, take, drop, replicate, length-set, length-replicate, get_or-replicate}
use lib.Seq.{length-take-le, get_or-set_same, get_or-set_other, set-append_left}
use Rattle.laws.specs.Turns.{up_to}
use Rattle.laws.specs.Rows.{map_first}
use Rattle.laws.specs.Lists.{fill}
use Rattle.laws.proofs.MapFirst.{map_first_const}
use Rattle.reduced.specs.Indices.{put_each}

-- x is the value of the last of the first n indices that is k, or d where none is
pub data Last {A : Type 0} (index : ℕ → ℕ) (value : ℕ → A) (n k : ℕ) (d : A) : A → Type 0 where
  found : (j : ℕ) → j < n → index j ≡ k → ((i : ℕ) → j < i → i < n → index i ≡ k → ⊥) → Last index value n k d (value j)
  none : ((i : ℕ) → i < n → index i ≡ k → ⊥) → Last index value n k d d

module _ {A : Type 0} (index : ℕ → ℕ) (value : ℕ → A) where
  pub length_put : (n : ℕ) (l : List A) → length (put_each index value n l) ≡ length l
  unfolding up_to
  length_put zero l = refl
  length_put (suc n) l = length-set (put_each index value n l) (index n) (value n) ∙ length_put n l

  not_later : (n k i : ℕ) → (index n ≡ k → ⊥) → (i < n → index i ≡ k → ⊥) → i < suc n → index i ≡ k → Dec (i ≡ n) → ⊥
  not_later n k i other rest b s (yes q) = other (ap index (sym q) ∙ s)
  not_later n k i other rest b s (no q) = rest (omega arith) s

  later : (n k : ℕ) (d x : A) → (index n ≡ k → ⊥) → Last index value n k d x → Last index value (suc n) k d x
  later n k d x other (found j h e rest) = found j (omega arith) e (λ i a b s. not_later n k i other (rest i a) b s (ℕ_discrete i n))
  later n k d x other (none rest) = none (λ i b s. not_later n k i other (rest i) b s (ℕ_discrete i n))

  -- the turn of a loop that has put n of them into l, which now is m
  pub put_next : (n : ℕ) (l : List A) {m : List A} {i : ℕ} {x : A} → m ≡ put_each index value n l → i ≡ index n → x ≡ value n
      → set m i x ≡ put_each index value (n + 1) l
  unfolding up_to
  put_next n l e f g = rw (add-one, e, f, g)

  -- the place k after n of them
  pub put_last : (n : ℕ) (l : List A) (k : ℕ) (d : A) → k < length l → Last index value n k (get_or l k d) (get_or (put_each index value n l) k d)
  unfolding up_to
  put_last zero l k d h = none (λ i b s. absurd (omega arith))
  put_last (suc n) l k d h = go (ℕ_discrete (index n) k) (put_last n l k d h)
    where
      go : Dec (index n ≡ k) → Last index value n k (get_or l k d) (get_or (put_each index value n l) k d)
          → Last index value (suc n) k (get_or l k d) (get_or (set (put_each index value n l) (index n) (value n)) k d)
      go (yes e) before =
          rw (e, get_or-set_same (put_each index value n l) k (value n) d (rw (length_put n l) h)) (found n (omega arith) e (λ i a b s. absurd (omega arith)))
      go (no e) before =
          rw (get_or-set_other (put_each index value n l) (index n) k (value n) d (λ s. e (sym s))) (later n k (get_or l k d) _ e before)

  -- and where one value a was at each of m places
  pub put_fresh : (n m k : ℕ) (a d : A) {l : List A} → k < m → l ≡ put_each index value n (replicate m a) → Last index value n k a (get_or l k d)
  put_fresh n m k a d h is =
      let l = put_last n (replicate m a) k d (rw (length-replicate {A = A} m a) h) in rw is (rw (get_or-replicate {A = A} m k a d h) at l)

  -- a place that no index is stays
  pub put_beyond : (n : ℕ) (l : List A) (k : ℕ) (d : A) → ((i : ℕ) → i < n → index i < k) → get_or (put_each index value n l) k d ≡ get_or l k d
  unfolding up_to
  put_beyond zero l k d free = refl
  put_beyond (suc n) l k d free =
      get_or-set_other (put_each index value n l) (index n) k (value n) d (λ e. omega (arith, free n (omega arith))) ∙ put_beyond n l k d (λ i h. free i (omega arith))

  -- where each index is in the front, what follows it stays
  pub put_front : (n : ℕ) (front rest : List A) → ((i : ℕ) → i < n → index i < length front) → put_each index value n (front ++ rest) ≡ put_each index value n front ++ rest
  unfolding up_to
  put_front zero front rest h = refl
  put_front (suc n) front rest h =
      ap (λ (l : List A). set l (index n) (value n)) (put_front n front rest (λ i b. h i (omega arith)))
      ∙ set-append_left (put_each index value n front) rest (index n) (value n) (rw (length_put n front) (h n (omega arith)))

-- nor does a list that is written from the front change behind
pub beyond_map_first : {A : Type 0} (f : ℕ → A → A) (n : ℕ) (xs : List A) (k : ℕ) (d : A) → n ≤ k → get_or (map_first f n xs) k d ≡ get_or xs k d
unfolding map_first
beyond_map_first f zero xs k d h = refl
beyond_map_first f (suc n) [] k d h = refl
beyond_map_first f (suc n) (x ∷ xs) zero d h = absurd (omega arith)
beyond_map_first f (suc n) (x ∷ xs) (suc k) d h = beyond_map_first (λ j. f (suc j)) n xs k d (omega arith)

pub front_map_first : {A : Type 0} (f : ℕ → A → A) (n : ℕ) (xs : List A) → map_first f n (take n xs) ++ drop n xs ≡ map_first f n xs
unfolding map_first
front_map_first f zero xs = refl
front_map_first f (suc n) [] = refl
front_map_first {A} f (suc n) (x ∷ xs) = ap (λ (l : List A). f zero x ∷ l) (front_map_first (λ j. f (suc j)) n xs)

-- the first places filled with one value, by themselves
pub filled : {A : Type 0} (a : A) (n : ℕ) (xs : List A) {front : List A} → n ≤ length xs → front ≡ replicate (length (take n xs)) a → front ++ drop n xs ≡ fill (λ _. a) n xs
filled {A} a n xs h e =
    ap (λ (l : List A). l ++ drop n xs) (e ∙ sym (map_first_const a (take n xs)) ∙ ap (λ m. fill (λ _. a) m (take n xs)) (length-take-le n xs h))
    ∙ front_map_first (λ _ _. a) n xs
