-- How far a choice with one sign flipped lies from another, and which children stay within the bounds. Assumes nothing.
use Prim.Native.Nat.{ℕ, zero, suc, ◌+◌, ◌-◌, ◌^◌, ◌≤◌, ◌<◌}
use native.Mathlib.Decide.{dec_lt}
use native.Mathlib.Omega.{arith}
use borrow.Author.Tests.{lt-ltb, le-ltb, le-leb, lt-leb, eq-eqb}
use mathlib.Core.Bool.{Bool, true, false, cond}
use mathlib.Core.List.{List, [], ◌∷◌, ◌++◌, append-nil}
use mathlib.Core.Path.{◌≡◌, refl, sym, ap, ap₂, ◌∙◌, subst}
use lib.Dec.{eqb, leb}
use lib.IntN.{ℤ}
use lib.ListN.{length}
use Rattle.laws.proofs.Any.{cond_self, cond_same}
use Rattle.laws.specs.Lists.{elem}
use Rattle.laws.specs.Sum.{total}
use Rattle.laws.proofs.Totals.{total_ext, total_mono, total_zero, total_const}
use Rattle.sign_words.specs.Signs.{flip_byte, flip_sign, sign_digit}
use Rattle.sign_words.specs.Packed.{packed, unpacked}
use Rattle.sign_words.specs.Distance.{ones_apart, places_apart}
use Rattle.std.proofs.lemmas.Bool.{cond_both}
use Rattle.sign_words.proofs.PackedLaws.{length_unpacked, packed_unpacked, flip_sign_here, flip_sign_there}
use Rattle.sign_words.proofs.DistanceLaws.{packed_apart}
use Rattle.local_search.specs.LocalSearch.{keep_best}
use Rattle.local_search.specs.Level.{Choice, below}
use Rattle.local_search.specs.SignSearch.{improving, improves_c}
use Rattle.local_search.specs.Children.{change_of, flip_w, Kept}
use Rattle.local_search.proofs.LevelLaws.{flipped_length}
use Rattle.local_search.proofs.SignLaws.{improving_ext}
use Rattle.sign_search.specs.Within.{Bounds, bounds, near, within, apart_at, goes_back, stays_near}
use Rattle.sign_search.specs.Clauses.{BothPacked}

-- ---- a sum of which one part changes

total_change : (n i : ℕ) (f g : ℕ → ℕ) → i < n → ((j : ℕ) → (j ≡ i → ⊥) → f j ≡ g j) → total n g + f i ≡ total n f + g i
unfolding total
total_change zero i f g h s = absurd (omega arith)
total_change (suc n) i f g h s = go (dec_lt i n) (λ (l : i < n). total_change n i f g l s)
  where
    go : Dec (i < n) → (i < n → total n g + f i ≡ total n f + g i) → total n g + g n + f i ≡ total n f + f n + g i
    go (yes l) t = omega (arith, t l, s n (λ e. omega arith))
    go (no d) t = let e : n ≡ i = omega arith in omega (arith, total_ext n f g (λ j q. s j (λ r. omega arith)), ap f e, ap g e)

-- ---- the distance of a flipped choice

-- 1 where sign j differs
abbrev pub differ : List ℕ → List ℕ → ℕ → ℕ
differ x p j = cond (eqb (sign_digit (elem x j)) (sign_digit (elem p j))) 0 1

one_of : (a b : ℕ) → cond (eqb (sign_digit (flip_byte a)) (sign_digit b)) 0 1 + cond (eqb (sign_digit a) (sign_digit b)) 0 1 ≡ 1
unfolding flip_byte
one_of zero zero = refl
one_of zero (suc b) = refl
one_of (suc a) zero = refl
one_of (suc a) (suc b) = refl

pub apart_few : (x p : List ℕ) → places_apart x p ≤ length x
unfolding places_apart
apart_few x p =
    omega (arith, total_mono (length x) (differ x p) (λ j. 1) (λ j q. cond_both (eqb (sign_digit (elem x j)) (sign_digit (elem p j))) 0 1 (λ n. n ≤ 1) (λ e. omega arith) (λ e. omega arith)), total_const (length x) 1)

module _ (x p : List ℕ) (i : ℕ) (h : i < length x) where
  -- the flipped sign differs exactly where the sign didn't
  turned : differ (flip_sign i x) p i + differ x p i ≡ 1
  turned = ap (λ (s : ℕ). cond (eqb (sign_digit s) (sign_digit (elem p i))) 0 1 + differ x p i) (flip_sign_here i x h) ∙ one_of (elem x i) (elem p i)

  moved : places_apart (flip_sign i x) p + differ x p i ≡ places_apart x p + differ (flip_sign i x) p i
  unfolding places_apart
  moved =
      ap (λ (n : ℕ). total n (differ (flip_sign i x) p) + differ x p i) (flipped_length i x)
      ∙ total_change (length x) i (differ x p) (differ (flip_sign i x) p) h
      (λ j d. ap (λ (s : ℕ). cond (eqb (sign_digit s) (sign_digit (elem p j))) 0 1) (sym (flip_sign_there i x j d)))

  -- one more or one less
  pub apart_flip : (places_apart (flip_sign i x) p ≤ places_apart x p + 1) × (places_apart x p ≤ places_apart (flip_sign i x) p + 1)
  apart_flip = (omega (arith, moved, turned), omega (arith, moved, turned))

  -- ---- which child is near enough

  module _ (most : ℕ) where
    pub near_free : length x ≤ most → near most p x i ≡ true
    unfolding near
    near_free few = le-leb (places_apart (flip_sign i x) p) most (omega (arith, apart_few (flip_sign i x) p, flipped_length i x))

    pub near_inside : places_apart x p < most → near most p x i ≡ true
    unfolding near
    near_inside l = le-leb (places_apart (flip_sign i x) p) most (omega (arith, apart_flip.0))

    pub near_far : 1 < places_apart x p - most → near most p x i ≡ false
    unfolding near
    near_far l = lt-leb (places_apart (flip_sign i x) p) most (omega (arith, apart_flip.1))

    pub near_edge : most ≤ places_apart x p → places_apart x p - most ≤ 1 → near most p x i ≡ apart_at x p i
    unfolding near apart_at
    near_edge low high = go (eqb (sign_digit (elem x i)) (sign_digit (elem p i))) refl
      where
        go : (b : Bool) → eqb (sign_digit (elem x i)) (sign_digit (elem p i)) ≡ b → leb (places_apart (flip_sign i x) p) most ≡ cond b false true
        go true e = let same : differ x p i ≡ 0 = ap (λ (b : Bool). cond b 0 1) e in lt-leb (places_apart (flip_sign i x) p) most (omega (arith, moved, turned))
        go false e = let other : differ x p i ≡ 1 = ap (λ (b : Bool). cond b 0 1) e in le-leb (places_apart (flip_sign i x) p) most (omega (arith, moved, turned))

-- ---- the start itself

differ_self : (x : List ℕ) (i : ℕ) → differ x x i ≡ 0
differ_self x i = ap (λ (b : Bool). cond b 0 1) (eq-eqb (sign_digit (elem x i)) (sign_digit (elem x i)) refl)

pub apart_self : (x : List ℕ) → places_apart x x ≡ 0
unfolding places_apart
apart_self x = total_ext (length x) (differ x x) (λ j. 0) (λ j q. differ_self x j) ∙ total_zero (length x)

-- a child of the start lies one sign away
pub near_start : (x : List ℕ) (i most : ℕ) → i < length x → (most ≡ 0 → ⊥) → near most x x i ≡ true
near_start x i most h some = near_inside x x i h most (omega (arith, apart_self x))

pub near_nowhere : (x : List ℕ) (i most : ℕ) → i < length x → most ≡ 0 → near most x x i ≡ false
unfolding near
near_nowhere x i most h e = lt-leb (places_apart (flip_sign i x) x) most (omega (arith, moved x x i h, turned x x i h, apart_self x, differ_self x i))

-- ---- the children that a level takes in

pub improving_none : {X : Type 0} (exists : X → ℕ → Bool) (flip : ℕ → X → X) (x : X) (n : ℕ) → ((i : ℕ) → i < n → exists x i ≡ false) → improving exists flip n x ≡ []
unfolding improving
improving_none exists flip x zero h = refl
improving_none {X} exists flip x (suc n) h =
    ap₂ ◌++◌ (improving_none exists flip x n (λ i q. h i (omega arith))) (ap (λ (b : Bool). cond b (flip n x ∷ []) []) (h n (omega arith)))

-- no sign behind the first k is flipped
pub improving_cut : {X : Type 0} (exists : X → ℕ → Bool) (flip : ℕ → X → X) (x : X) (k n : ℕ) → k ≤ n → ((i : ℕ) → k ≤ i → i < n → exists x i ≡ false)
    → improving exists flip n x ≡ improving exists flip k x
unfolding improving
improving_cut exists flip x k zero h z = let e : k ≡ zero = omega arith in rw e refl
improving_cut {X} exists flip x k (suc n) h z = go (dec_lt n k) (λ (l : k ≤ n). improving_cut exists flip x k n l (λ i p q. z i p (omega arith)))
  where
    go : Dec (n < k) → (k ≤ n → improving exists flip n x ≡ improving exists flip k x) → improving exists flip n x ++ cond (exists x n) (flip n x ∷ []) [] ≡ improving exists flip k x
    go (yes l) f = let e : suc n ≡ k = omega arith in ap (λ (j : ℕ). improving exists flip j x) e
    go (no d) f =
        ap (λ (b : Bool). improving exists flip n x ++ cond b (flip n x ∷ []) []) (z n (omega arith) (omega arith))
        ∙ append-nil (improving exists flip n x) ∙ f (omega arith)

module _ (width flips : ℕ) (before after : List Choice) (changes : List ℤ) (c : Choice) (count : ℕ) where
  kept_same : (exists exists' : Choice → ℕ → Bool) → ((i : ℕ) → i < flips → exists c i ≡ exists' c i)
      → Kept width before (improving exists (flip_w changes) flips c) after count → Kept width before (improving exists' (flip_w changes) flips c) after count
  kept_same exists exists' s k =
      subst (λ (l : List Choice). Kept width before l after count)
      (improving_ext exists exists' (flip_w changes) (flip_w changes) c flips (λ i h. (s i h, refl))) k

  module _ (most : ℕ) (p x : List ℕ) where
    -- every child is near enough
    pub all_near : ((i : ℕ) → i < flips → near most p x i ≡ true) → Kept width before (improving (improves_c (change_of changes)) (flip_w changes) flips c) after count
        → Kept width before (improving (stays_near changes most p x) (flip_w changes) flips c) after count
    all_near t k =
        kept_same (improves_c (change_of changes)) (stays_near changes most p x)
        (λ i h. sym (ap (λ (b : Bool). cond (improves_c (change_of changes) c i) b false) (t i h) ∙ cond_self (improves_c (change_of changes) c i))) k

    -- those that go back
    pub back_near : ((i : ℕ) → i < flips → near most p x i ≡ apart_at x p i) → Kept width before (improving (goes_back changes x p) (flip_w changes) flips c) after count
        → Kept width before (improving (stays_near changes most p x) (flip_w changes) flips c) after count
    back_near t k =
        kept_same (goes_back changes x p) (stays_near changes most p x)
        (λ i h. ap (λ (b : Bool). cond (improves_c (change_of changes) c i) b false) (sym (t i h))) k

  -- none
  pub none_near : (most : ℕ) (p x : List ℕ) → ((i : ℕ) → i < flips → near most p x i ≡ false) → after ≡ before → count ≤ width
      → Kept width before (improving (stays_near changes most p x) (flip_w changes) flips c) after count
  unfolding keep_best
  none_near most p x t same room = record {
    level = same ∙ ap (keep_best below width before)
        (sym (improving_none (stays_near changes most p x) (flip_w changes) c flips (λ i h. ap (λ (b : Bool). cond (improves_c (change_of changes) c i) b false) (t i h) ∙ cond_same (improves_c (change_of changes) c i) false)));
    room = room;
  }

-- ---- the bounds

pub within_first : (b : Bounds) (x : List ℕ) (i : ℕ) → i < b.flips → within b x i ≡ near b.most b.from x i
unfolding within
within_first b x i h = ap (λ (c : Bool). cond c (near b.most b.from x i) false) (lt-ltb i b.flips h)

pub within_behind : (b : Bounds) (x : List ℕ) (i : ℕ) → b.flips ≤ i → within b x i ≡ false
unfolding within
within_behind b x i h = ap (λ (c : Bool). cond c (near b.most b.from x i) false) (le-ltb i b.flips h)

-- where every sign may flip, at any distance
pub within_free : (m : ℕ) (p x : List ℕ) (i : ℕ) → i < m → length x ≡ m → within (bounds m m p) x i ≡ true
within_free m p x i h long = within_first (bounds m m p) x i h ∙ near_free x p i (omega arith) m (omega arith)

-- ---- the distance in words

pub words_apart : (x row origin : List ℕ) → BothPacked x row origin → ((k : ℕ) → elem row k < 2 ^ 64) → ((k : ℕ) → elem origin k < 2 ^ 64)
    → ones_apart (length row) row origin ≡ places_apart x (unpacked (length x) origin)
words_apart x row origin b p q =
    ap₂ (ones_apart (length row)) (packed_unpacked (length x) row p b.row_tidy ∙ ap (packed (length row)) b.row_is)
    (packed_unpacked (length x) origin q b.start_tidy ∙ ap (λ (n : ℕ). packed n (unpacked (length x) origin)) (sym b.as_many))
    ∙ packed_apart (length row) x (unpacked (length x) origin) (sym (length_unpacked (length x) origin)) b.signs_held
