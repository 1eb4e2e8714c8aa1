-- The square of a root is near what it is the root of: by `sqrt_nearest`, since one double lies near the exact root. Assumes nothing.
use mathlib.Core.Path.{◌≡◌, refl, subst}
use mathlib.Core.Logic.{◌⊎◌, inl, inr, ⊎_elim}
use mathlib.Core.Bool.{Bool, true, false}
use Prim.Native.Nat.{ℕ, zero, suc, ◌+◌, ◌*◌, ◌^◌, ◌≤◌, ◌<◌}
use native.Mathlib.Nat.{le_of_lt, le_trans, lt_of_lt_of_le, lt_of_le_of_lt, le_of_suc-le-suc, eq-or-lt_of_le, mul-le-mul_right, mul-le-mul_left, le_of_mul-le-mul_left}
use native.Mathlib.Omega.{arith}
use lib.Dec.{T, lit≤, lit<}
use lib.Pow.{pow_pos, pow_mono}
use lib.Ieee.{Float, nan, inf, fin, binary64, fits, round}
use lib.Ieee.Fits.{round-fits}
use lib.Ieee.Positive.{positive, positive_of_value, positive-finite, value_pos}
use Rattle.std.proofs.lemmas.Bool.{cases_lt}
use Rattle.ieee.specs.Sqrt.{sqrt_of}
use Rattle.ieee.specs.Scale.{radicand}
use Rattle.ieee.specs.Nearest.{units_of, Nearer, NearestRoot}
use Rattle.ieee.proofs.Nearest.{sqrt_nearest}
use Rattle.ieee.proofs.Squares.{lt_of_square}
use Rattle.float_error.proofs.Errors.{Under, whole, over, weaker, then, product, relative, relative_right}
use Rattle.float_error.proofs.Rounded.{Near, round_near}
use Rattle.float_error.proofs.Values.{Worth, own_units, units_are, is_finite, sign_of}

-- ---- the whole part of a root

record Floor (n : ℕ) : Type 0 where
  w : ℕ
  under : w * w ≤ n
  over : n < suc w * suc w

grow : (n : ℕ) → Floor n → Floor (suc n)
grow n f = ⊎_elim
    (λ h. record { w = f.w; under = omega (arith, f.under); over = h })
    (λ h. record { w = suc f.w; under = h; over = omega (arith, f.over) })
    (cases_lt (suc n) (suc f.w * suc f.w))

floor : (n : ℕ) → Floor n
floor zero = record { w = 0; under = lit≤ tt; over = lit< tt }
floor (suc n) = grow n (floor n)

-- ---- what is nearer to the root than a double Y near w is near w

-- N lies between Y and its mirror image
record Between (w Y N : ℕ) : Type 0 where
  up : (N ≤ Y) ⊎ (N + Y ≤ 2 * w + 1)
  lo : (Y ≤ N) ⊎ (2 * w ≤ N + Y)

between : (n w Y N : ℕ) → w * w ≤ n → n < suc w * suc w → Nearer n N Y → Between w Y N
between n w Y N u o c = ⊎_elim
    (λ h. let more : 2 * w < N + Y = lt_of_square (lt_of_le_of_lt (omega (arith, u)) (c.than_above h)) in record { up = inl (omega arith); lo = inr (omega arith) })
    (λ h. ⊎_elim
    (λ e. record { up = inl (omega (arith, e)); lo = inl (omega arith) })
    (λ l. let less : N + Y < 2 * suc w = lt_of_square (lt_of_lt_of_le (c.than_below l) (omega (arith, o))) in record { up = inr (omega arith); lo = inl (omega arith) })
    (eq-or-lt_of_le h))
    (cases_lt N Y)

up_join : (K KN KY Kw Y w : ℕ) → 1 ≤ K → KN + KY ≤ 2 * Kw + K → Kw ≤ KY + (1 * Y + K) → Y ≤ 2 * w + 2 → KN ≤ Kw + (4 * w + 4 * K)
up_join K KN KY Kw Y w p a b c = omega arith

near_most : (w Y N : ℕ) → Under 1 (2 ^ 50) Y w → Under 1 (2 ^ 50) w Y → (N ≤ Y) ⊎ (N + Y ≤ 2 * w + 1) → Under 4 (2 ^ 52) N w
near_most w Y N a b h = ⊎_elim (λ l. record { le = omega (arith, l, a.le) }) (λ l. record { le = mirrored l }) h
  where
    mirrored : N + Y ≤ 2 * w + 1 → 2 ^ 50 * N ≤ 2 ^ 50 * w + (4 * w + 2 ^ 52)
    mirrored l =
        let twice : Y ≤ 2 * w + 2 = le_trans (whole 1 (lit≤ tt) a) (omega arith) in
        up_join (2 ^ 50) (2 ^ 50 * N) (2 ^ 50 * Y) (2 ^ 50 * w) Y w (lit≤ tt) (omega (arith, l)) b.le twice

lo_join : (K KN KY Kw w : ℕ) → 2 * Kw ≤ KN + KY → KY ≤ Kw + (1 * w + K) → Kw ≤ KN + (w + K)
lo_join K KN KY Kw w a b = omega arith

lo_end : (K KN Kw w N : ℕ) → 2 ≤ K → Kw ≤ KN + (w + K) → w ≤ 2 * N + 2 → Kw ≤ KN + (4 * N + 4 * K)
lo_end K KN Kw w N p a b = omega arith

near_least : (w Y N : ℕ) → Under 1 (2 ^ 50) Y w → Under 1 (2 ^ 50) w Y → (Y ≤ N) ⊎ (2 * w ≤ N + Y) → Under 4 (2 ^ 52) w N
near_least w Y N a b h = ⊎_elim (λ l. record { le = omega (arith, l, b.le) }) (λ l. record { le = mirrored l }) h
  where
    bound : 2 ^ 50 * w ≤ 2 ^ 50 * N + (w + 2 ^ 50) → w ≤ 2 * N + 2
    bound k = le_of_mul-le-mul_left {k = 2 ^ 49} (omega (arith, k)) (lit< tt)

    mirrored : 2 * w ≤ N + Y → 2 ^ 50 * w ≤ 2 ^ 50 * N + (4 * N + 2 ^ 52)
    mirrored l =
        let one : 2 ^ 50 * w ≤ 2 ^ 50 * N + (w + 2 ^ 50) = lo_join (2 ^ 50) (2 ^ 50 * N) (2 ^ 50 * Y) (2 ^ 50 * w) w (omega (arith, l)) a.le in
        lo_end (2 ^ 50) (2 ^ 50 * N) (2 ^ 50 * w) w N (lit≤ tt) one (bound one)

-- ---- squares

record Square (N n : ℕ) : Type 0 where
  most : Under 13 0 (N * N) n
  least : Under 15 0 n (N * N)

under_square : (e n w N : ℕ) → Under e 0 (N * N) (w * w) → w * w ≤ n → Under e 0 (N * N) n
under_square e n w N u h = record { le = omega (arith, u.le, h, mul-le-mul_left e h) }

past_square : (n w : ℕ) → n < suc w * suc w → 2 ^ 53 ≤ w → Under 1 0 n (w * w)
past_square n w o h = record { le = omega (arith, o, mul-le-mul_right w h) }

square : (n w Y N : ℕ) → 2 ^ 53 ≤ w → w * w ≤ n → n < suc w * suc w → Under 1 (2 ^ 50) Y w → Under 1 (2 ^ 50) w Y → Nearer n N Y → Square N n
square n w Y N long u o a b c =
    let m = between n w Y N u o c in
    let up : Under 5 0 N w = relative_right (omega (arith, long)) (near_most w Y N a b m.up) in
    let lo : Under 6 0 w N = relative (lit≤ tt) (omega (arith, long)) (near_least w Y N a b m.lo) in
    record {
      most = weaker 13 0 (lit≤ tt) (lit≤ tt) (under_square 11 n w N (product (lit≤ tt) up up) u);
      least = then (lit≤ tt) (past_square n w o long) (product (lit≤ tt) lo lo);
    }

-- ---- the root of a double above 0

pub record RootOf (z : Float) (u : ℕ) : Type 0 where
  pub N : ℕ
  pub worth : Worth z false N
  pub some : 0 < N
  pub most : Under 13 0 (N * N) (u * 2 ^ 1074)
  pub least : Under 15 0 (u * 2 ^ 1074) (N * N)

plain : (x : Float) → T (positive x) → sign_of x ≡ false
plain nan p = absurd p
plain (inf s) p = absurd p
plain (fin true m e) p = absurd p
plain (fin false m e) p = refl

long : (u w : ℕ) → 0 < u → u * 2 ^ 1074 < suc w * suc w → 2 ^ 53 ≤ w
long u w p o =
    let far : 2 ^ 53 * 2 ^ 53 < suc w * suc w = lt_of_le_of_lt (le_trans (pow_mono {i = 106} {j = 1074} (lit≤ tt)) (mul-le-mul_right (2 ^ 1074) p)) o in
    le_of_suc-le-suc (lt_of_square {a = 2 ^ 53} far)

short : (u w : ℕ) → u ≤ 2 ^ 1000 * 2 ^ 1074 → w * w ≤ u * 2 ^ 1074 → w ≤ 2 ^ 1000 * 2 ^ 1074
short u w h l = le_of_lt (lt_of_square {b = 2 ^ 1000 * 2 ^ 1074} (lt_of_le_of_lt (le_trans l (mul-le-mul_right (2 ^ 1074) h)) (lit< tt)))

pub root_near : {x : Float} {u : ℕ} → T (fits binary64 x) → Worth x false u → 0 < u → u ≤ 2 ^ 1000 * 2 ^ 1074 → RootOf (sqrt_of x) u
unfolding radicand
root_near {x} {u} f v p small = record { N = N; worth = worth; some = some; most = s.most; least = s.least }
  where
    r : Float
    r = sqrt_of x

    t : NearestRoot x r
    t = sqrt_nearest x f (positive_of_value x u (2 ^ 1074) v.is p)

    N : ℕ
    N = units_of r

    worth : Worth r false N
    worth = subst (λ (b : Bool). Worth r b N) (plain r t.above_zero) (own_units r t.held (positive-finite r t.above_zero))

    some : 0 < N
    some = value_pos r N (2 ^ 1074) t.above_zero (pow_pos 1074) worth.is

    b : Floor (u * 2 ^ 1074)
    b = floor (u * 2 ^ 1074)

    y : Float
    y = round binary64 false b.w (2 ^ 1074)

    n : Near y false b.w (2 ^ 1074)
    n = round_near false b.w (2 ^ 1074) (pow_pos 1074) (short u b.w small b.under)

    held : Worth y false n.r
    held = record { is = n.worth }

    nearer : Nearer (u * 2 ^ 1074) N n.r
    nearer =
        subst (λ (a : ℕ). Nearer (a * 2 ^ 1074) N n.r) (units_are v)
        (subst (λ (a : ℕ). Nearer (units_of x * 2 ^ 1074) N a) (units_are held) (t.nearer y (is_finite held) (round-fits binary64 false b.w (2 ^ 1074))))

    s : Square N (u * 2 ^ 1074)
    s = square (u * 2 ^ 1074) b.w n.r N (long u b.w p b.over) b.under b.over (over (2 ^ 1074) (pow_pos 1074) n.most) (over (2 ^ 1074) (pow_pos 1074) n.least) nearer
