-- Whole eighths in doubles: up to 2 ^ 53 in magnitude the double of v eighths is worth exactly v / 8 (`eighth_exact`), and sums of such
-- doubles are those of the whole numbers (`eighth_add`, `eighth_less`). Assumes nothing.
use Rattle.std.proofs.Common.{◌≡◌, ℕ, zero, suc, ◌+◌, ◌-◌, ◌*◌, ◌^◌, ◌<◌, ◌≤◌, Bool, true, false, cond, not, ◌&&◌, ltb, ◌⊎◌, ℤ, pos, negsuc, ◌+ℤ◌, ◌-ℤ◌, nat_abs, sym, refl, ap, ◌∙◌, subst, inl, inr, ⊎_elim, zero-le, le_trans, le_of_eq, lt_of_lt_of_le, mul_assoc, mul_comm, add-mul, lt_of_mul-lt-mul_right, eq-or-lt_of_le, mul-lt-mul_of_pos_right, mul-pos, not-le_of_lt, arith, lit<, pow_pos, pow_mono, pow-add, le-ltb, lt-ltb}
use mathlib.Core.Bool.{beq}
use native.Mathlib.Nat.{mul-sub}
use lib.IntN.{sub_ℕ, +ℤ_idr}
use lib.Ieee.{Float, nan, inf, fin, binary64, unlike, up, down, of_bits, of_int, round, units, odd, sum, add, neg, div}
use lib.Ieee.Fits.{down_pos, round_is}
use lib.Ieee.Exact.{HasValue, round_exact}
use lib.Ieee.Back.{round_whole}
use lib.Ieee.Scale.{round_same}
use Rattle.std.proofs.lemmas.Bool.{cases_lt}
use Rattle.ieee.proofs.Fractions.{over_left, over_right}
use Rattle.ieee.specs.Eighths.{negative, WorthEighths}
use Rattle.ieee.specs.Floats.{◌+ᶠ◌, eight64, eighth_of}

-- ±n eighths, rounded
abbrev eighths : Bool → ℕ → Float
eighths s n = round binary64 s n 8

-- ---- the value is exact

-- n eighths are q * 2 ^ j units of 2 ^ -1074, with a q of at most 53 digits
in_units_lem : (s : Bool) (n q j : ℕ) → q < 2 ^ 53 → j < 2000 → n * 2 ^ 1074 ≡ q * 2 ^ j * 8 → HasValue (eighths s n) s n 8
in_units_lem s n q j small low is =
    round_exact binary64 s n 8 q j (lit< tt) small
    (lt_of_lt_of_le (mul-lt-mul_of_pos_right small (pow_pos j)) (le_trans (le_of_eq (sym (pow-add 2 53 j))) (pow_mono {i = 53 + j} {j = 2098} (omega arith)))) is

pub exact : (s : Bool) (n : ℕ) → n ≤ 2 ^ 53 → HasValue (eighths s n) s n 8
exact s n h = go (eq-or-lt_of_le h)
  where
    go : (n ≡ 2 ^ 53) ⊎ (n < 2 ^ 53) → HasValue (eighths s n) s n 8
    go (inl e) = in_units_lem s n (2 ^ 52) 1072 (lit< tt) (lit< tt) (ap (λ (x : ℕ). x * 2 ^ 1074) e ∙ whole)
      where
        whole : 2 ^ 53 * 2 ^ 1074 ≡ 2 ^ 52 * 2 ^ 1072 * 8
        whole = sym (pow-add 2 53 1074) ∙ pow-add 2 1124 3 ∙ ap (λ (x : ℕ). x * 8) (pow-add 2 52 1072)
    go (inr l) = in_units_lem s n n 1071 l (lit< tt) (ap (λ (x : ℕ). n * x) (pow-add 2 1071 3) ∙ sym (mul_assoc n (2 ^ 1071) 8))

-- x / 8.0, for an x that is ±n
pub like : (t : Bool) → unlike t false ≡ t
like true = refl
like false = refl

div_eight : (x : Float) (s : Bool) (n : ℕ) → HasValue x s n 1 → div binary64 x eight64 ≡ eighths s n
unfolding div of_bits
div_eight nan s n v = absurd v
div_eight (inf t) s n v = absurd v
div_eight (fin t m e) s n v =
    ap (λ (u : Bool). round binary64 u (m * up e * 1) (8 * down e)) (like t ∙ v.0)
    ∙ round_same binary64 s (m * up e * 1) (8 * down e) n 8 (mul-pos (lit< tt) (down_pos e)) (lit< tt) (ap (λ (x : ℕ). x * 8) v.1 ∙ mul_assoc n (down e) 8 ∙ ap (λ (x : ℕ). n * x) (mul_comm (down e) 8))

pub eighth_is : (v : ℤ) → nat_abs v ≤ 2 ^ 53 → eighth_of v ≡ eighths (negative v) (nat_abs v)
unfolding eighth_of of_int
eighth_is (pos n) h = div_eight (round binary64 false n 1) false n (round_whole binary64 false n h)
eighth_is (negsuc n) h = div_eight (round binary64 true (suc n) 1) true (suc n) (round_whole binary64 true (suc n) h)

-- ---- sums

-- a / c is n / d
record Same (a c n d : ℕ) : Type 0 where
  above : 0 < c
  below : 0 < d
  cross : a * d ≡ n * c

-- and b / c is k / d: the two stand in the same order, and their sums and differences are the same
module _ {a b c n k d : ℕ} (p : Same a c n d) (q : Same b c k d) where
  same_lt : a < b → n < k
  same_lt h = lt_of_mul-lt-mul_right c (subst (λ (x : ℕ). x < k * c) p.cross (subst (λ (x : ℕ). a * d < x) q.cross (mul-lt-mul_of_pos_right h p.below)))

  lt_same : n < k → a < b
  lt_same h = lt_of_mul-lt-mul_right d (subst (λ (x : ℕ). x < b * d) (sym p.cross) (subst (λ (x : ℕ). n * c < x) (sym q.cross) (mul-lt-mul_of_pos_right h p.above)))

  le_same : b ≤ a → k ≤ n
  le_same h = ⊎_elim (λ w. absurd (not-le_of_lt (lt_same w) h)) (λ w. w) (cases_lt n k)

  same_ltb : ltb a b ≡ ltb n k
  same_ltb = ⊎_elim (λ h. lt-ltb a b h ∙ sym (lt-ltb n k (same_lt h))) (λ h. le-ltb a b h ∙ sym (le-ltb n k (le_same h))) (cases_lt a b)

  same_sub : (s : Bool) → round binary64 s (b - a) c ≡ round binary64 s (k - n) d
  same_sub s =
      round_same binary64 s (b - a) c (k - n) d p.above p.below
      (mul_comm (b - a) d ∙ mul-sub d b a ∙ ap (λ (x : ℕ). x - d * a) (mul_comm d b ∙ q.cross ∙ mul_comm k c) ∙ ap (λ (x : ℕ). c * k - x) (mul_comm d a ∙ p.cross ∙ mul_comm n c) ∙ sym (mul-sub c k n) ∙ mul_comm c (k - n))

  same_add : (s : Bool) → round binary64 s (a + b) c ≡ round binary64 s (n + k) d
  same_add s =
      round_same binary64 s (a + b) c (n + k) d p.above p.below
      (add-mul a b d ∙ ap (λ (x : ℕ). x + b * d) p.cross ∙ ap (λ (x : ℕ). n * c + x) q.cross ∙ sym (add-mul n k c))

-- by cases on the two tests of `sum`
pick : (q l : Bool) {x x' y y' z z' : Float} → x ≡ x' → y ≡ y' → z ≡ z' → cond q x (cond l y z) ≡ cond q x' (cond l y' z')
pick true l e f g = e
pick false true e f g = f
pick false false e f g = g

sum_same : (s t : Bool) {a b c n k d : ℕ} → Same a c n d → Same b c k d → sum binary64 s a t b c ≡ sum binary64 s n t k d
unfolding sum
sum_same s t {a} {b} {c} {n} {k} {d} p q =
    pick (beq s t) (ltb a b) (same_add p q s) (same_sub p q t) (ap (λ (z : Bool). round binary64 (s && z) (a - b) c) (same_ltb q p) ∙ same_sub q p (s && ltb k n))
    ∙ ap (λ (z : Bool). cond (beq s t) (round binary64 s (n + k) d) (cond z (round binary64 t (k - n) d) (round binary64 (s && ltb k n) (n - k) d))) (same_ltb p q)

add_at : (x y : Float) (s t : Bool) (n k : ℕ) → HasValue x s n 8 → HasValue y t k 8 → add binary64 x y ≡ sum binary64 s n t k 8
unfolding add
add_at nan y s t n k v w = absurd v
add_at (inf u) y s t n k v w = absurd v
add_at (fin u m e) nan s t n k v w = absurd w
add_at (fin u m e) (inf q) s t n k v w = absurd w
add_at (fin u m e) (fin q l d) s t n k v w =
    ap (λ (z : Bool). sum binary64 z (m * up e * down d) q (l * up d * down e) (down e * down d)) v.0
    ∙ ap (λ (z : Bool). sum binary64 s (m * up e * down d) z (l * up d * down e) (down e * down d)) w.0
    ∙ sum_same s t
    (record { above = mul-pos (down_pos e) (down_pos d); below = lit< tt; cross = over_left (m * up e) (down e) (down d) n 8 v.1 })
    (record { above = mul-pos (down_pos e) (down_pos d); below = lit< tt; cross = over_right (l * up d) (down d) (down e) k 8 w.1 })

sum_is : (s t : Bool) (n k : ℕ) → n ≤ 2 ^ 53 → k ≤ 2 ^ 53 → eighths s n +ᶠ eighths t k ≡ sum binary64 s n t k 8
sum_is s t n k h l = add_at (eighths s n) (eighths t k) s t n k (exact s n h) (exact t k l)

-- ---- of whole numbers

pub eighth_exact : (v : ℤ) → nat_abs v ≤ 2 ^ 53 → WorthEighths (eighth_of v) v
eighth_exact v h = subst (λ (x : Float). WorthEighths x v) (sym (eighth_is v h)) (exact (negative v) (nat_abs v) h)

-- p − q eighths, by the order of the two
sub_above : (p q : ℕ) → q ≤ p → eighths (negative (sub_ℕ p q)) (nat_abs (sub_ℕ p q)) ≡ eighths false (p - q)
sub_above p q h = rw (le-ltb p q h)

sub_below : (p q : ℕ) → p < q → eighths (negative (sub_ℕ p q)) (nat_abs (sub_ℕ p q)) ≡ eighths true (q - p)
sub_below p q h = rw (lt-ltb p q h) (ap (eighths true) (omega arith))

sums : (a b : ℤ) → sum binary64 (negative a) (nat_abs a) (negative b) (nat_abs b) 8 ≡ eighths (negative (a +ℤ b)) (nat_abs (a +ℤ b))
unfolding sum
sums (pos n) (pos k) = refl
sums (pos n) (negsuc k) = ⊎_elim (λ h. rw (sub_below n (suc k) h, lt-ltb n (suc k) h)) (λ h. rw (sub_above n (suc k) h, le-ltb n (suc k) h)) (cases_lt n (suc k))
sums (negsuc n) (pos k) = ⊎_elim
    (λ h. rw (sub_above k (suc n) (omega arith), lt-ltb (suc n) k h))
    (λ h. ⊎_elim
    (λ l. rw (sub_below k (suc n) l, le-ltb (suc n) k h, lt-ltb k (suc n) l))
    (λ l. rw (sub_above k (suc n) l, le-ltb (suc n) k h, le-ltb k (suc n) l) (let none : suc n - k ≡ k - suc n = omega arith in ap (eighths false) none))
    (cases_lt k (suc n)))
    (cases_lt (suc n) k)
sums (negsuc n) (negsuc k) = let all : suc n + suc k ≡ suc (suc (n + k)) = omega arith in ap (eighths true) all

pub eighth_add : (a b : ℤ) → nat_abs a ≤ 2 ^ 53 → nat_abs b ≤ 2 ^ 53 → nat_abs (a +ℤ b) ≤ 2 ^ 53 → eighth_of a +ᶠ eighth_of b ≡ eighth_of (a +ℤ b)
eighth_add a b h l m =
    ap (λ (x : Float). x +ᶠ eighth_of b) (eighth_is a h) ∙ ap (λ (x : Float). eighths (negative a) (nat_abs a) +ᶠ x) (eighth_is b l)
    ∙ sum_is (negative a) (negative b) (nat_abs a) (nat_abs b) h l ∙ sums a b ∙ sym (eighth_is (a +ℤ b) m)

-- what is taken off, as `-value.abs()` writes it: −0.0 where the value is 0
neg_odd : (s : Bool) (q k : ℕ) → neg (odd 54 s q k 1074) ≡ odd 54 (not s) q k 1074
unfolding neg odd
neg_odd s zero k = refl
neg_odd s (suc q) k = refl

neg_cond : (b s : Bool) (x : Float) {y : Float} → neg x ≡ y → neg (cond b x (inf s)) ≡ cond b y (inf (not s))
unfolding neg
neg_cond true s x e = e
neg_cond false s x e = refl

neg_units : (s : Bool) (q k : ℕ) → neg (units binary64 s q k) ≡ units binary64 (not s) q k
unfolding units
neg_units s q k = neg_cond (ltb (q * 2 ^ k) (2 ^ 2098)) s (odd 54 s q k 1074) (neg_odd s q k)

pub neg_eighths : (s : Bool) (n : ℕ) → neg (eighths s n) ≡ eighths (not s) n
neg_eighths s n = ap neg (round_is binary64 s n 8) ∙ neg_units s _ _ ∙ sym (round_is binary64 (not s) n 8)

-- −0.0 changes nothing
less_zero : (a : ℤ) → sum binary64 (negative a) (nat_abs a) true 0 8 ≡ eighths (negative a) (nat_abs a)
unfolding sum
less_zero (pos n) = let all : n - 0 ≡ n = omega arith in rw (le-ltb n 0 zero-le) (ap (eighths false) all)
less_zero (negsuc n) = let all : suc n + 0 ≡ suc n = omega arith in ap (eighths true) all

pub eighth_less : (a : ℤ) (n : ℕ) → nat_abs a ≤ 2 ^ 53 → n ≤ 2 ^ 53 → nat_abs (a -ℤ pos n) ≤ 2 ^ 53 → eighth_of a +ᶠ neg (eighth_of (pos n)) ≡ eighth_of (a -ℤ pos n)
eighth_less a zero h l m =
    ap (λ (x : Float). x +ᶠ neg (eighth_of (pos 0))) (eighth_is a h) ∙ ap (λ (x : Float). eighths (negative a) (nat_abs a) +ᶠ x) (ap neg (eighth_is (pos 0) l) ∙ neg_eighths false 0)
    ∙ sum_is (negative a) true (nat_abs a) 0 h l ∙ less_zero a ∙ sym (eighth_is a h) ∙ ap eighth_of (sym (+ℤ_idr a))
eighth_less a (suc n) h l m =
    ap (λ (x : Float). eighth_of a +ᶠ x) (ap neg (eighth_is (pos (suc n)) l) ∙ neg_eighths false (suc n) ∙ sym (eighth_is (negsuc n) l)) ∙ eighth_add a (negsuc n) h l m
