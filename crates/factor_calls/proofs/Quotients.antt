-- What `dual_variables_divided` gives.
--     by_numerators, by_quotients   what the one function that both calls share makes
--     divided_unit      a row whose product with itself is 1.0 has its numerator: x / 1.0 is x
--     units_undivided   so where all rows are such, the call gives what `dual_variables` gives
--     divided_zero      a row of zeros has NaN
--     divided_nan       and so has a row with a NaN in it
-- Assumes nothing.
use mathlib.Core.Path.{◌≡◌, refl, sym, ap, ◌∙◌, subst}
use mathlib.Core.Bool.{Bool, true, false, cond, ◌||◌, beq}
use mathlib.Core.List.{List}
use mathlib.Core.Logic.{◌⊎◌, inl, inr}
use Prim.Native.Nat.{ℕ, zero, suc, ◌+◌, ◌*◌, ◌-◌, ◌/◌, ◌^◌, ◌≤◌, ◌<◌}
use native.Mathlib.Nat.{lt_irrefl, mul-one, one-mul, zero-mul, mul-zero, mul-pos, mul_right_comm, eq_of_mul-eq-mul_right}
use native.Mathlib.Decide.{ℕ_discrete}
use native.Mathlib.Omega.{arith}
use lib.Dec.{T, eqb, eqb→eq, lit<}
use lib.Pow.{pow_pos}
use lib.IntN.{ℤ, pos}
use lib.Ieee.{Float, nan, inf, fin, binary64, up, down, top, hid, prec, low, size, fits, of_bits, to_bits, round, add, mul, div, eq, unlike}
use lib.Ieee.Bits.{of_bits-to_bits, of_bits-fits}
use lib.Ieee.Fits.{and_l, add-fits, round-fits, up_pos, down_pos}
use lib.Ieee.Exact.{HasValue, round_exact}
use lib.Ieee.Nearest.{div_same}
use lib.ListN.{length, replicate, length-replicate}
use Rattle.laws.specs.Rows.{row_of}
use Rattle.laws.specs.Turns.{up_to}
use Rattle.laws.proofs.MapFirst.{length_map_first}
use Rattle.laws.proofs.Parts.{length_row_of}
use Rattle.laws.proofs.Made.{tabulate_ext}
use Rattle.ieee.specs.Floats.{at, zero64, one64, eighth_of, ◌/ᶠ◌, ◌*ᶠ◌, ◌+ᶠ◌}
use Rattle.ieee.proofs.Nearest.{parts, exact, units_under}
use Rattle.ieee.proofs.Eighths.{like}
use Rattle.tables.specs.Table.{Table}
use Rattle.factor.specs.Norms.{dot_to, dot_of}
use Rattle.factor.specs.Vectors.{add_scaled}
use Rattle.maxcut_oracle.specs.Whole.{row_takes, whole_turn, whole_row, numerator, whole_multipliers}
use Rattle.factor_calls.specs.Equation8.{self_product, divided_at, divided_multipliers, value_of, multipliers_by}

-- ---- the list that the calls write

pub by_numerators : (t : Table) (m rank : ℕ) (factor : List Float) → multipliers_by false t m rank factor ≡ whole_multipliers t m rank factor
unfolding multipliers_by whole_multipliers numerator
by_numerators t m rank factor = tabulate_ext (λ i. value_of false (whole_row t rank factor i) (row_of rank factor i)) (numerator t rank factor) m (λ i h. refl)

pub by_quotients : (t : Table) (m rank : ℕ) (factor : List Float) → multipliers_by true t m rank factor ≡ divided_multipliers t m rank factor
unfolding multipliers_by divided_multipliers divided_at numerator self_product
by_quotients t m rank factor = tabulate_ext (λ i. value_of true (whole_row t rank factor i) (row_of rank factor i)) (divided_at t rank factor) m (λ i h. refl)

-- ---- a double is the one of its value

-- the bits, from the sign and the magnitude in units of 2^-1074
abbrev bits_by : Bool → ℕ → ℕ
bits_by s n = let k = size n - prec binary64 in cond s (top binary64) 0 + k * hid binary64 + n / 2 ^ k

bits_are : (s : Bool) (m : ℕ) (e : ℤ) → to_bits binary64 (fin s m e) ≡ bits_by s (m * up e * 2 ^ low binary64 / down e)
unfolding to_bits
bits_are s m e = refl

cross : (x y a c d g : ℕ) → 0 < c → x * c ≡ a * d → y * c ≡ a * g → x * g ≡ y * d
cross x y a c d g p h k =
    eq_of_mul-eq-mul_right c p (x * g) (y * d)
    (mul_right_comm x g c ∙ ap (λ (z : ℕ). z * g) h ∙ mul_right_comm a d g ∙ ap (λ (z : ℕ). z * d) (sym k) ∙ mul_right_comm y c d)

same_value : (x y : Float) (s : Bool) (a c : ℕ) → 0 < c → T (fits binary64 x) → T (fits binary64 y) → HasValue x s a c → HasValue y s a c → x ≡ y
same_value nan y s a c p f g v w = absurd v
same_value (inf t) y s a c p f g v w = absurd v
same_value (fin t m e) nan s a c p f g v w = absurd w
same_value (fin t m e) (inf u) s a c p f g v w = absurd w
same_value (fin t m e) (fin u n d) s a c p f g v w =
    let l = 2 ^ low binary64 in
    let x : m * up e * down d ≡ n * up d * down e = cross (m * up e) (n * up d) a c (down e) (down d) p v.1 w.1 in
    let y : m * up e * l / down e ≡ n * up d * l / down d =
    div_same (m * up e * l) (down e) (n * up d * l) (down d) (down_pos e) (down_pos d)
    (mul_right_comm (m * up e) l (down d) ∙ ap (λ (z : ℕ). z * l) x ∙ mul_right_comm (n * up d) (down e) l) in
    sym (of_bits-to_bits binary64 (fin t m e) f)
    ∙ ap (λ (b : ℕ). of_bits binary64 b) (bits_are t m e ∙ ap (λ (i : ℕ). bits_by t i) y ∙ ap (λ (b : Bool). bits_by b (n * up d * l / down d)) (v.0 ∙ sym w.0) ∙ sym (bits_are u n d))
    ∙ of_bits-to_bits binary64 (fin u n d) g

-- ---- x / 1.0 is x

zero_fits : (s : Bool) → T (fits binary64 (fin s 0 (pos 0)))
unfolding fits
zero_fits s = tt

round_nothing : (s : Bool) (d : ℕ) → 0 < d → round binary64 s 0 d ≡ fin s 0 (pos 0)
round_nothing s d p =
    same_value (round binary64 s 0 d) (fin s 0 (pos 0)) s 0 d p (round-fits binary64 s 0 d) (zero_fits s)
    (round_exact binary64 s 0 d 0 0 p (lit< tt) (pow_pos 2098) (zero-mul (2 ^ 1074) ∙ sym (zero-mul d))) (refl, zero-mul d ∙ sym (zero-mul 1))

-- a double's own fraction rounds to the double
round_own : (s : Bool) (m : ℕ) (e : ℤ) → T (fits binary64 (fin s m e)) → round binary64 s (m * up e) (down e) ≡ fin s m e
round_own s zero e h =
    ap (λ (n : ℕ). round binary64 s n (down e)) (zero-mul (up e)) ∙ round_nothing s (down e) (down_pos e)
    ∙ same_value (fin s 0 (pos 0)) (fin s zero e) s 0 (down e) (down_pos e) (zero_fits s) h (refl, zero-mul (down e) ∙ sym (zero-mul 1)) (refl, ap (λ (n : ℕ). n * down e) (zero-mul (up e)))
round_own s (suc m) e h =
    let p = parts s m e h in
    let x = exact (suc m) e p.places in
    same_value (round binary64 s (suc m * up e) (down e)) (fin s (suc m) e) s (suc m * up e) (down e) (down_pos e) (round-fits binary64 s (suc m * up e) (down e)) h
    (round_exact binary64 s (suc m * up e) (down e) (suc m) x.j (down_pos e) p.digits (units_under (suc m * up e) (suc m * 2 ^ x.j) e p.finite x.is) x.is) (refl, refl)

pub by_one : (x : Float) → T (fits binary64 x) → x /ᶠ one64 ≡ x
unfolding div of_bits
by_one nan h = refl
by_one (inf s) h = ap inf (like s)
by_one (fin s m e) h =
    ap (λ (t : Bool). round binary64 t (m * up e * 1) (1 * down e)) (like s)
    ∙ ap (λ (n : ℕ). round binary64 s n (1 * down e)) (mul-one (m * up e))
    ∙ ap (λ (d : ℕ). round binary64 s (m * up e) d) (one-mul (down e))
    ∙ round_own s m e h

dot_fits : (a b : List Float) (n : ℕ) → T (fits binary64 (dot_to a b n))
unfolding dot_to
dot_fits a b zero = of_bits-fits binary64 0
dot_fits a b (suc n) = add-fits binary64 (dot_to a b n) (at a n *ᶠ at b n)

pub divided_unit : (t : Table) (rank : ℕ) (factor : List Float) (i : ℕ) → self_product rank factor i ≡ one64 → divided_at t rank factor i ≡ numerator t rank factor i
unfolding divided_at numerator dot_of
divided_unit t rank factor i e =
    let w = whole_row t rank factor i in
    let r = row_of rank factor i in
    ap (λ (x : Float). dot_to w r (length w) /ᶠ x) e ∙ by_one (dot_to w r (length w)) (dot_fits w r (length w))

pub units_undivided : (t : Table) (m rank : ℕ) (factor : List Float) → ((i : ℕ) → i < m → self_product rank factor i ≡ one64) → divided_multipliers t m rank factor ≡ whole_multipliers t m rank factor
unfolding divided_multipliers whole_multipliers
units_undivided t m rank factor all = tabulate_ext (divided_at t rank factor) (numerator t rank factor) m (λ i h. divided_unit t rank factor i (all i h))

-- ---- a row of zeros, of either sign

-- +0.0 or NaN: what the products with zeros add up to
abbrev Nought : Float → Type 0
Nought x = (x ≡ nan) ⊎ (x ≡ fin false 0 (pos 0))

no_digits : (s : Bool) (m : ℕ) (e : ℤ) → eq (fin s m e) zero64 ≡ true → m ≡ 0
unfolding eq of_bits
no_digits s zero e h = refl
no_digits s (suc m) e h =
    let t : T (eqb (suc m * up e * 1) (0 * down e)) = and_l (eqb (suc m * up e * 1) (0 * down e)) (beq s false || eqb (suc m * up e * 1) 0) (subst T (sym h) tt) in
    let z : suc m * up e * 1 ≡ 0 = eqb→eq (suc m * up e * 1) (0 * down e) t ∙ zero-mul (down e) in
    let some : 0 < suc m = omega arith in
    absurd (lt_irrefl 0 (subst (λ (n : ℕ). 0 < n) z (mul-pos (mul-pos some (up_pos e)) (lit< tt))))

add_nought : (x : Float) (s : Bool) → Nought x → Nought (x +ᶠ fin s 0 (pos 0))
unfolding add
add_nought x s (inl e) = inl (ap (λ (y : Float). y +ᶠ fin s 0 (pos 0)) e)
add_nought x true (inr e) = inr (ap (λ (y : Float). y +ᶠ fin true 0 (pos 0)) e)
add_nought x false (inr e) = inr (ap (λ (y : Float). y +ᶠ fin false 0 (pos 0)) e)

add_nan : (x : Float) → x +ᶠ nan ≡ nan
unfolding add
add_nan nan = refl
add_nan (inf s) = refl
add_nan (fin s m e) = refl

nan_adds : (x : Float) → nan +ᶠ x ≡ nan
unfolding add
nan_adds x = refl

-- one more product with a zero
more_nought : (x y z : Float) → Nought x → eq z zero64 ≡ true → Nought (x +ᶠ y *ᶠ z)
unfolding mul eq of_bits
more_nought x y nan n h = cc
more_nought x y (inf s) n h = cc
more_nought x nan (fin s m e) n h = inl (add_nan x)
more_nought x (inf t) (fin s m e) n h = inl (ap (λ (k : ℕ). x +ᶠ cond (eqb k 0) nan (inf (unlike t s))) (no_digits s m e h) ∙ add_nan x)
more_nought x (fin t k d) (fin s m e) n h =
    let is : round binary64 (unlike t s) (k * up d * (m * up e)) (down d * down e) ≡ fin (unlike t s) 0 (pos 0) =
    ap (λ (i : ℕ). round binary64 (unlike t s) (k * up d * (i * up e)) (down d * down e)) (no_digits s m e h)
    ∙ ap (λ (i : ℕ). round binary64 (unlike t s) (k * up d * i) (down d * down e)) (zero-mul (up e))
    ∙ ap (λ (i : ℕ). round binary64 (unlike t s) i (down d * down e)) (mul-zero (k * up d))
    ∙ round_nothing (unlike t s) (down d * down e) (mul-pos (down_pos d) (down_pos e)) in
    subst Nought (sym (ap (λ (p : Float). x +ᶠ p) is)) (add_nought x (unlike t s) n)

nought_to : (a v : List Float) (n : ℕ) → ((j : ℕ) → j < n → eq (at v j) zero64 ≡ true) → Nought (dot_to a v n)
unfolding dot_to of_bits
nought_to a v zero z = inr refl
nought_to a v (suc n) z = more_nought (dot_to a v n) (at a n) (at v n) (nought_to a v n (λ j h. z j (omega arith))) (z n (omega arith))

nought_over : (x y : Float) → Nought x → Nought y → x /ᶠ y ≡ nan
unfolding div
nought_over x y (inl e) n = ap (λ (z : Float). z /ᶠ y) e
nought_over x y (inr e) (inl f) = ap (λ (z : Float). z /ᶠ y) e ∙ ap (λ (z : Float). fin false 0 (pos 0) /ᶠ z) f
nought_over x y (inr e) (inr f) = ap (λ (z : Float). z /ᶠ y) e ∙ ap (λ (z : Float). fin false 0 (pos 0) /ᶠ z) f

length_sums : (t : Table) (rank : ℕ) (factor : List Float) (i n : ℕ) → length (up_to (whole_turn t rank factor i) n (replicate rank zero64)) ≡ rank
unfolding up_to row_takes
length_sums t rank factor i zero = length-replicate rank zero64
length_sums t rank factor i (suc n) = kept (eqb (t.row n) i) (up_to (whole_turn t rank factor i) n (replicate rank zero64)) ∙ length_sums t rank factor i n
  where
    kept : (b : Bool) (sums : List Float) → length (cond b (add_scaled (eighth_of (t.value n)) (row_of rank factor (t.column n)) sums) sums) ≡ length sums
    kept true sums = unfold add_scaled in length_map_first _ (length sums) sums
    kept false sums = refl

length_whole_row : (t : Table) (rank : ℕ) (factor : List Float) (i : ℕ) → length (whole_row t rank factor i) ≡ rank
unfolding whole_row
length_whole_row t rank factor i = length_sums t rank factor i t.count

pub divided_zero : (t : Table) (rank : ℕ) (factor : List Float) (i : ℕ) → i * rank + rank ≤ length factor
    → ((j : ℕ) → j < rank → eq (at (row_of rank factor i) j) zero64 ≡ true) → divided_at t rank factor i ≡ nan
unfolding divided_at numerator self_product dot_of
divided_zero t rank factor i h z =
    let w = whole_row t rank factor i in
    let r = row_of rank factor i in
    nought_over (dot_to w r (length w)) (dot_to r r (length r))
    (nought_to w r (length w) (λ j l. z j (rw (length_whole_row t rank factor i) at l)))
    (nought_to r r (length r) (λ j l. z j (rw (length_row_of rank i factor h) at l)))

-- ---- a row with a NaN

mul_nan : (x : Float) → x *ᶠ nan ≡ nan
unfolding mul
mul_nan nan = refl
mul_nan (inf s) = refl
mul_nan (fin s m e) = refl

over_nan : (x : Float) → x /ᶠ nan ≡ nan
unfolding div
over_nan nan = refl
over_nan (inf s) = refl
over_nan (fin s m e) = refl

nan_to : (a v : List Float) (j n : ℕ) → at v j ≡ nan → j < n → dot_to a v n ≡ nan
unfolding dot_to
nan_to a v j zero e h = absurd (omega arith)
nan_to a v j (suc n) e h = go (ℕ_discrete j n) (λ (l : j < n). nan_to a v j n e l)
  where
    go : Dec (j ≡ n) → (j < n → dot_to a v n ≡ nan) → dot_to a v n +ᶠ at a n *ᶠ at v n ≡ nan
    go (yes q) before = ap (λ (x : Float). dot_to a v n +ᶠ at a n *ᶠ x) (ap (λ (k : ℕ). at v k) (sym q) ∙ e) ∙ ap (λ (x : Float). dot_to a v n +ᶠ x) (mul_nan (at a n)) ∙ add_nan (dot_to a v n)
    go (no d) before = ap (λ (x : Float). x +ᶠ at a n *ᶠ at v n) (before (omega arith)) ∙ nan_adds (at a n *ᶠ at v n)

pub divided_nan : (t : Table) (rank : ℕ) (factor : List Float) (i j : ℕ) → i * rank + rank ≤ length factor → j < rank → at (row_of rank factor i) j ≡ nan → divided_at t rank factor i ≡ nan
unfolding divided_at self_product dot_of
divided_nan t rank factor i j h l e =
    ap (λ (x : Float). numerator t rank factor i /ᶠ x) (nan_to (row_of rank factor i) (row_of rank factor i) j (length (row_of rank factor i)) e (rw (length_row_of rank i factor h) l)) ∙ over_nan (numerator t rank factor i)
