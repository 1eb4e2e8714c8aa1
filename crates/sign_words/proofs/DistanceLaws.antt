-- The number of ones in the exclusive or of two packed choices is the number of places where they differ. Assumes nothing.
use Prim.Native.Nat.{ℕ, zero, suc, ◌+◌, ◌*◌, ◌/◌, ◌%◌, ◌^◌, ◌≤◌, ◌<◌}
use native.Mathlib.Nat.{zero-lt-suc, pow-suc, div-lt_iff_lt-mul, div-one, mul-zero, mul-suc, add-zero}
use native.Mathlib.Numerals.{add-one}
use native.Mathlib.Omega.{arith}
use mathlib.Core.Bool.{cond}
use mathlib.Core.List.{List, map}
use mathlib.Core.Logic.{⊎_elim}
use mathlib.Core.Path.{◌≡◌, refl, sym, ap, ap₂, ◌∙◌, subst}
use lib.Arith.{lt-one}
use lib.Bits.{bit_xor, xor_lt}
use lib.Count.{ones, ones_step, ones-le}
use lib.Dec.{eqb}
use lib.ListN.{length, get_or-eq_default}
use Rattle.laws.specs.Lists.{elem}
use Rattle.laws.specs.Sum.{total}
use Rattle.laws.proofs.Totals.{total_ext, total_front, total_append}
use Rattle.std.proofs.lemmas.Bool.{cases_lt}
use Rattle.sign_words.specs.Signs.{sign_digit}
use Rattle.sign_words.specs.Packed.{sign_in, packed}
use Rattle.sign_words.specs.Distance.{ones_apart, places_apart}
use Rattle.std.specs.Int.{bit_at}
use Rattle.std.specs.List.{sum, range_with_len}
use Rattle.std.proofs.lemmas.Bool.Decides.{nat_tests}
use Rattle.std.proofs.lemmas.List.FromFn.{sum_by-map-range_with_len_more}
use Rattle.std.proofs.lemmas.Nat.Bits.{bit_at-suc, bit_at_xor}
use Rattle.sign_words.proofs.PackedLaws.{sign_lt, sign_packed, sign_at_lem, packed_words}

-- ---- sums from the front, and by blocks

total_blocks : (c n : ℕ) (f : ℕ → ℕ) → total n (λ k. total c (λ j. f (c * k + j))) ≡ total (c * n) f
unfolding total
total_blocks c zero f = ap (λ (k : ℕ). total k f) (sym (mul-zero c))
total_blocks c (suc n) f =
    ap (λ (s : ℕ). s + total c (λ j. f (c * n + j))) (total_blocks c n f)
    ∙ sym (total_append (c * n) c f)
    ∙ ap (λ (k : ℕ). total k f) (sym (mul-suc c n))

-- as an iterator over the numbers below n adds them up
pub sum_total : (n : ℕ) (f : ℕ → ℕ) → sum (map f (range_with_len 0 n)) ≡ total n f
unfolding total
sum_total zero f = refl
sum_total (suc n) f = ap (λ k. sum (map f (range_with_len 0 k))) (sym (add-one n)) ∙ sum_by-map-range_with_len_more (λ x. x) f 0 n n (omega arith) ∙ ap (λ s. s + f n) (sum_total n f)

-- ---- the ones of a word

ones_digits : (n w : ℕ) → w < 2 ^ n → ones w ≡ total n (bit_at w)
unfolding total ones
ones_digits zero w h = ap ones (lt-one h)
ones_digits (suc n) w h =
    let half : w / 2 < 2 ^ n = (div-lt_iff_lt-mul (zero-lt-suc 1)).1 (subst (λ (x : ℕ). w < x) (pow-suc 2 n) h) in
    ones_step w
    ∙ ap₂ (λ (a b : ℕ). a % 2 + b) (sym (div-one w)) (ones_digits n (w / 2) half ∙ total_ext n (bit_at (w / 2)) (λ i. bit_at w (suc i)) (λ i q. sym (bit_at-suc w i)))
    ∙ sym (total_front n (bit_at w))

-- ---- two choices

apart : (a b : ℕ) → a < 2 → b < 2 → (a + b) % 2 ≡ cond (eqb a b) 0 1
apart a b p q = grind (arith, nat_tests)

-- the ones of the exclusive or: at most 64 in each word
pub few_apart : (n : ℕ) (a b : List ℕ) → ((k : ℕ) → elem a k < 2 ^ 64) → ((k : ℕ) → elem b k < 2 ^ 64) → ones_apart n a b ≤ 64 * n
unfolding ones_apart total
few_apart zero a b p q = omega arith
few_apart (suc n) a b p q = omega (arith, few_apart n a b p q, ones-le 64 (bit_xor (elem a n) (elem b n)) (xor_lt 64 (elem a n) (elem b n) (p n) (q n)))

-- the ones of the exclusive or, sign by sign
pub ones_apart_lem : (n : ℕ) (a b : List ℕ) → ((k : ℕ) → elem a k < 2 ^ 64) → ((k : ℕ) → elem b k < 2 ^ 64)
    → ones_apart n a b ≡ total (64 * n) (λ i. cond (eqb (sign_in a i) (sign_in b i)) 0 1)
unfolding ones_apart
ones_apart_lem n a b p q =
    total_ext n (λ k. ones (bit_xor (elem a k) (elem b k))) (λ k. total 64 (λ j. cond (eqb (sign_in a (64 * k + j)) (sign_in b (64 * k + j))) 0 1))
    (λ k h.
    ones_digits 64 (bit_xor (elem a k) (elem b k)) (xor_lt 64 (elem a k) (elem b k) (p k) (q k))
    ∙ total_ext 64 (bit_at (bit_xor (elem a k) (elem b k))) (λ j. cond (eqb (sign_in a (64 * k + j)) (sign_in b (64 * k + j))) 0 1)
    (λ j l.
    bit_at_xor (elem a k) (elem b k) j
    ∙ ap₂ (λ (p q : ℕ). (p + q) % 2) (sym (sign_at_lem a k j l)) (sym (sign_at_lem b k j l))
    ∙ apart (sign_in a (64 * k + j)) (sign_in b (64 * k + j)) (sign_lt a (64 * k + j)) (sign_lt b (64 * k + j))))
    ∙ total_blocks 64 n (λ i. cond (eqb (sign_in a i) (sign_in b i)) 0 1)

total_past : (f : ℕ → ℕ) (m n : ℕ) → m ≤ n → ((i : ℕ) → m ≤ i → i < n → f i ≡ 0) → total n f ≡ total m f
unfolding total
total_past f m zero h z = let e : 0 ≡ m = omega arith in ap (λ (k : ℕ). total k f) e
total_past f m (suc n) h z =
    ⊎_elim
    (λ (l : n < m). let e : suc n ≡ m = omega arith in ap (λ (k : ℕ). total k f) e)
    (λ (l : m ≤ n). rw (z n l (omega arith), add-zero (total n f)) (total_past f m n l (λ i p q. z i p (omega arith))))
    (cases_lt n m)

-- of two packed choices: the number of places where they differ
pub packed_apart : (n : ℕ) (x y : List ℕ) → length x ≡ length y → length x ≤ 64 * n → ones_apart n (packed n x) (packed n y) ≡ places_apart x y
unfolding places_apart
packed_apart n x y e h =
    ones_apart_lem n (packed n x) (packed n y) (packed_words n x) (packed_words n y)
    ∙ total_ext (64 * n) (λ i. cond (eqb (sign_in (packed n x) i) (sign_in (packed n y) i)) 0 1) (λ i. cond (eqb (sign_digit (elem x i)) (sign_digit (elem y i))) 0 1)
    (λ i q. rw (sign_packed n x i q, sign_packed n y i q))
    ∙ total_past (λ i. cond (eqb (sign_digit (elem x i)) (sign_digit (elem y i))) 0 1) (length x) (64 * n) h
    (λ i p q. rw (get_or-eq_default x 0 p, get_or-eq_default y 0 {n = i} (omega arith)))
