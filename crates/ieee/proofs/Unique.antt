-- The double nearest to the root of a double above 0 is one double, and `sqrt_of` gives it.
--     nearest_unique        two of them have one magnitude
--     sqrt_is_the_nearest   any of them is `sqrt_of`'s result
-- Assumes nothing.
use Rattle.std.proofs.Common.{◌≡◌, ℕ, zero, suc, ◌+◌, ◌*◌, ◌%◌, ◌^◌, true, false, T, ℤ, pos, negsuc, sym, refl, ap, ◌∙◌, subst, ⊎_elim, mul-one, mul_left_comm, arith}
use native.Mathlib.Nat.{pow-succ'}
use lib.Ieee.{Float, nan, inf, fin, binary64, up, down, fits}
use lib.Ieee.Positive.{positive, positive-finite}
use Rattle.std.proofs.lemmas.Bool.{cases_lt}
use Rattle.ieee.specs.Scale.{radicand}
use Rattle.ieee.specs.Sqrt.{sqrt_of}
use Rattle.ieee.specs.Nearest.{units_of, Nearer, NearestRoot}
use Rattle.ieee.proofs.Powers.{split}
use Rattle.ieee.proofs.Nearest.{exact, parts, in_units_lem, sqrt_nearest}

-- ---- two doubles nearest to one root have one magnitude

turned_sum : (a b : ℕ) → (a + b) * (a + b) ≡ (b + a) * (b + a)
turned_sum a b = let e : a + b ≡ b + a = omega arith in ap (λ (x : ℕ). x * x) e

both_nearer : (n a b : ℕ) → Nearer n a b → Nearer n b a → a ≡ b
both_nearer n a b p q = ⊎_elim
    (λ h. absurd (omega (arith, p.than_above h, q.than_below h, turned_sum a b)))
    (λ u. ⊎_elim (λ h. absurd (omega (arith, p.than_below h, q.than_above h, turned_sum a b))) (λ l. omega (arith, u, l)) (cases_lt b a))
    (cases_lt a b)

pub nearest_unique : (x r s : Float) → NearestRoot x r → NearestRoot x s → units_of r ≡ units_of s
nearest_unique x r s p q =
    both_nearer (radicand (units_of x)) (units_of r) (units_of s)
    (p.nearer s (positive-finite s q.above_zero) q.held) (q.nearer r (positive-finite r p.above_zero) p.held)

-- ---- a double above 0 is written in one way

even_odd : (m t : ℕ) → m % 2 ≡ 1 → m ≡ 2 * t → ⊥
even_odd m t o h = omega arith

-- n * 2 ^ (b + 1) as an even number
halved : (n b : ℕ) → n * 2 ^ suc b ≡ 2 * (n * 2 ^ b)
halved n b = ap (λ (x : ℕ). n * x) (pow-succ' 2 b) ∙ mul_left_comm n 2 (2 ^ b)

odd_parts : (m n a b : ℕ) → m % 2 ≡ 1 → n % 2 ≡ 1 → m * 2 ^ a ≡ n * 2 ^ b → (m ≡ n) × (a ≡ b)
odd_parts m n zero zero o p h = (sym (mul-one m) ∙ h ∙ mul-one n, refl)
odd_parts m n zero (suc b) o p h = absurd (even_odd m (n * 2 ^ b) o (sym (mul-one m) ∙ h ∙ halved n b))
odd_parts m n (suc a) zero o p h = absurd (even_odd n (m * 2 ^ a) p (sym (mul-one n) ∙ sym h ∙ halved m a))
odd_parts m n (suc a) (suc b) o p h =
    let both : 2 * (m * 2 ^ a) ≡ 2 * (n * 2 ^ b) = sym (halved m a) ∙ h ∙ halved n b in
    let r = odd_parts m n a b o p (omega (arith, both)) in
    (r.0, ap suc r.1)

-- the exponent from the places of an odd m in units
of_pos : (m i j : ℕ) → m % 2 ≡ 1 → m * 2 ^ i * 2 ^ 1074 ≡ m * 2 ^ j * 1 → i + 1074 ≡ j
of_pos m i j o h = (odd_parts m m (i + 1074) j o o (split m i 1074 (i + 1074) refl ∙ h ∙ mul-one (m * 2 ^ j))).1

of_negsuc : (m i j : ℕ) → m % 2 ≡ 1 → m * 1 * 2 ^ 1074 ≡ m * 2 ^ j * 2 ^ suc i → 1074 ≡ j + suc i
of_negsuc m i j o h =
    (odd_parts m m 1074 (j + suc i) o o (ap (λ (x : ℕ). x * 2 ^ 1074) (sym (mul-one m)) ∙ h ∙ sym (split m j (suc i) (j + suc i) refl))).1

exponents : (m : ℕ) (e g : ℤ) (j : ℕ) → m % 2 ≡ 1 → m * up e * 2 ^ 1074 ≡ m * 2 ^ j * down e → m * up g * 2 ^ 1074 ≡ m * 2 ^ j * down g → e ≡ g
exponents m (pos i) (pos k) j o p q = ap pos (omega (arith, of_pos m i j o p, of_pos m k j o q))
exponents m (pos i) (negsuc k) j o p q = absurd (omega (arith, of_pos m i j o p, of_negsuc m k j o q))
exponents m (negsuc i) (pos k) j o p q = absurd (omega (arith, of_pos m k j o q, of_negsuc m i j o p))
exponents m (negsuc i) (negsuc k) j o p q = ap negsuc (omega (arith, of_negsuc m i j o p, of_negsuc m k j o q))

units_double : (r s : Float) → T (fits binary64 r) → T (fits binary64 s) → T (positive r) → T (positive s) → units_of r ≡ units_of s → r ≡ s
units_double nan s p q a b h = absurd a
units_double (inf t) s p q a b h = absurd a
units_double (fin true m e) s p q a b h = absurd a
units_double (fin false zero e) s p q a b h = absurd a
units_double (fin false (suc m) e) nan p q a b h = absurd b
units_double (fin false (suc m) e) (inf t) p q a b h = absurd b
units_double (fin false (suc m) e) (fin true n g) p q a b h = absurd b
units_double (fin false (suc m) e) (fin false zero g) p q a b h = absurd b
units_double (fin false (suc m) e) (fin false (suc n) g) p q a b h =
    let f = parts false m e p in
    let k = parts false n g q in
    let u = exact (suc m) e f.places in
    let v = exact (suc n) g k.places in
    let w = odd_parts (suc m) (suc n) u.j v.j f.odd k.odd
    (sym (in_units_lem false (suc m) e u) ∙ h ∙ in_units_lem false (suc n) g v) in
    let t : suc m * up g * 2 ^ 1074 ≡ suc m * 2 ^ u.j * down g =
    subst (λ (k : ℕ). k * up g * 2 ^ 1074 ≡ k * 2 ^ u.j * down g) (sym w.0)
    (subst (λ (k : ℕ). suc n * up g * 2 ^ 1074 ≡ suc n * 2 ^ k * down g) (sym w.1) v.is) in
    λ i. fin false (w.0 i) (exponents (suc m) e g u.j f.odd u.is t i)

-- ---- the theorem

pub sqrt_is_the_nearest : (x r : Float) → T (fits binary64 x) → T (positive x) → NearestRoot x r → r ≡ sqrt_of x
sqrt_is_the_nearest x r h p n =
    let s : NearestRoot x (sqrt_of x) = sqrt_nearest x h p in
    units_double r (sqrt_of x) n.held s.held n.above_zero s.above_zero (nearest_unique x r (sqrt_of x) n s)
