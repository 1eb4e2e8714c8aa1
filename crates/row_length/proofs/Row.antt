-- A row that rule 3 writes from a gradient g: its squared length is one, but for one part in 2 ^ 40.
--     row_unit
-- Assumes nothing.
use mathlib.Core.Path.{◌≡◌, refl, sym, ap, ◌∙◌, subst}
use mathlib.Core.Bool.{Bool, true, false}
use mathlib.Core.Logic.{⊎_elim}
use mathlib.Core.List.{List}
use Prim.Native.Nat.{ℕ, zero, suc, ◌+◌, ◌-◌, ◌*◌, ◌/◌, ◌^◌, ◌≤◌, ◌<◌}
use native.Mathlib.Nat.{add-le-add, zero-lt-suc, le_refl, le_trans, le_of_eq, le_of_lt, lt_of_le_of_lt, lt_of_lt_of_le, not-le_of_lt, eq-zero-or-pos, zero-mul, mul-pos, mul-le-mul, mul-le-mul_right, mul-le-mul_left, le_of_mul-le-mul_right, le_of_mul-le-mul_left}
use native.Mathlib.Omega.{arith}
use lib.Dec.{T, lit≤, lit<}
use lib.Pow.{pow_pos}
use lib.IntN.{ℤ}
use lib.Ieee.{Float, nan, inf, fin, binary64, unlike, of_bits, up, down, fits}
use lib.Ieee.Fits.{add-fits, mul-fits, up_pos}
use lib.Ieee.Exact.{HasValue}
use lib.Ieee.Positive.{num, den, den_pos, positive, positive_of_value, own_value, values_of_le, above, above_of_le}
use lib.Ieee.Scale.{finite}
use lib.ListN.{length}
use Rattle.limits.specs.Limits.{most_rank}
use Rattle.laws.specs.Sum.{total}
use Rattle.laws.proofs.Sums.{total_at}
use Rattle.laws.proofs.Totals.{total_ext}
use Rattle.laws.proofs.MapFirst.{length_map_first, get_d_map_first}
use Rattle.ieee.specs.Floats.{◌*ᶠ◌, ◌/ᶠ◌, at, one64, tiny}
use Rattle.ieee.specs.Sqrt.{sqrt_of}
use Rattle.ieee.specs.Nearest.{units_of}
use Rattle.factor.specs.Norms.{quads_of, add_squares_to, squared_norm}
use Rattle.coordinate_sweep.specs.Sweep.{exact_row, wrote}
use Rattle.ieee.proofs.Squares.{lt_of_square}
use Rattle.float_error.proofs.Errors.{Under, whole}
use Rattle.float_error.proofs.Values.{Worth, worth_one, AtMost, at_most, units_are, is_finite, Product, mul_near, Quotient, div_near}
use Rattle.row_length.proofs.Root.{RootOf, root_near}
use Rattle.row_length.proofs.Norm.{Entry, square_at, NormOf, norm_near}
use Rattle.row_length.proofs.Chain.{Given, Unit, chain}

-- ---- the guard: a norm of at least 1E-24 is some 2 ^ 994 units

above_zero : (m u c d : ℕ) → m * u * c ≡ 0 * d → 0 < u → 0 < c → m ≡ 0
above_zero zero u c d e p q = refl
above_zero (suc m) u c d e p q = absurd (not-le_of_lt (mul-pos (mul-pos (zero-lt-suc m) p) q) (le_of_eq (e ∙ zero-mul d)))

tiny_positive : T (positive tiny)
unfolding of_bits
tiny_positive = tt

tiny_large : 2 ^ 900 * den tiny ≤ num tiny * 2 ^ 1074
unfolding of_bits
tiny_large = lit≤ tt

-- the root of zero is zero, which is below it
zero_root : (s : Bool) (e : ℤ) → T (above (sqrt_of (fin s 0 e))) → ⊥
unfolding sqrt_of
zero_root true e h = h
zero_root false e h = h

none : (x : Float) → HasValue x false 0 (2 ^ 1074) → T (wrote (sqrt_of x)) → ⊥
none nan v h = absurd v
none (inf s) v h = absurd v
none (fin s m e) v h =
    zero_root s e
    (subst (λ (k : ℕ). T (above (sqrt_of (fin s k e)))) (above_zero m (up e) (2 ^ 1074) (down e) v.1 (up_pos e) (pow_pos 1074))
    (above_of_le tiny (sqrt_of (fin s m e)) tiny_positive h))

guarded : (z : Float) (N : ℕ) → HasValue z false N (2 ^ 1074) → 0 < N → T (wrote z) → 2 ^ 900 ≤ N
guarded z N v p h =
    le_of_mul-le-mul_right {k = den tiny}
    (le_trans tiny_large (values_of_le tiny z (num tiny) (den tiny) N (2 ^ 1074) tiny_positive (positive_of_value z N (2 ^ 1074) v p) (own_value tiny tiny_positive) v h))
    (den_pos tiny)

-- ---- a double, since the last operation of the squared norm is a sum

rest_fits : (v : List Float) (start : ℕ) (sum : Float) (n : ℕ) → T (fits binary64 sum) → T (fits binary64 (add_squares_to v start sum n))
unfolding add_squares_to
rest_fits v start sum zero h = h
rest_fits v start sum (suc n) h = add-fits binary64 _ _

norm_fits : (v : List Float) → T (fits binary64 (squared_norm v))
unfolding squared_norm
norm_fits v = rest_fits v (4 * (length v / 4)) (quads_of v (length v / 4)) (length v - 4 * (length v / 4)) (add-fits binary64 _ _)

-- ---- sizes

-- a root is far below what would overflow
root_low : (σ N : ℕ) → σ ≤ 2 ^ 1000 * 2 ^ 1074 → Under 13 0 (N * N) (σ * 2 ^ 1074) → N ≤ 2 ^ 1000 * 2 ^ 1074
root_low σ N h u =
    le_of_lt (lt_of_square {b = 2 ^ 1000 * 2 ^ 1074}
    (lt_of_le_of_lt (whole 0 (lit≤ tt) u) (lt_of_le_of_lt (add-le-add (mul-le-mul_left 2 (mul-le-mul_right (2 ^ 1074) h)) (le_refl 0)) (lit< tt))))

inverse_low : (I N : ℕ) → 2 ^ 900 ≤ N → Under 1 (2 ^ 50 * N) (I * N) (2 ^ 1074 * 2 ^ 1074) → I ≤ 2 ^ 1249 + 1
inverse_low I N h u =
    le_of_mul-le-mul_right {k = N}
    (le_trans (whole N (lit≤ tt) u) (le_trans (add-le-add (le_trans (lit≤ tt) (mul-le-mul_left (2 ^ 1249) h)) (le_refl N)) (le_of_eq (join (2 ^ 1249) N))))
    (lt_of_lt_of_le (pow_pos 900) h)
  where
    join : (k N : ℕ) → k * N + N ≡ (k + 1) * N
    join k N = omega arith

entry_low : (Q G : ℕ) → Q ≤ 2 ^ 1200 * 2 ^ 1074 → G * G ≤ Q → G ≤ 2 ^ 1200
entry_low Q G h k = le_of_lt (lt_of_square {b = 2 ^ 1200} (lt_of_le_of_lt (le_trans k h) (lit< tt)))

-- ---- the row

-- a row of doubles that are finite, whose squared length is one, but for one part in 2 ^ 40
pub record Done (row : List Float) : Type 0 where
  pub unit : Unit (2 ^ 1074) (total (length row) (square_at row))
  pub held : (j : ℕ) → j < length row → T (fits binary64 (at row j))
  pub in_reach : (j : ℕ) → j < length row → T (finite (at row j))

-- what the guard gives: the norm isn't 0, and its root isn't small
module _ (Q : ℕ) (fine : Q ≤ 2 ^ 1200 * 2 ^ 1074) (g : List Float) (all : (j : ℕ) → j < length g → Entry Q (at g j)) (short : length g ≤ most_rank) (given : T (wrote (sqrt_of (squared_norm g)))) where
  some_norm : 0 < (norm_near Q fine g all short).r
  some_norm =
      let n = norm_near Q fine g all short in
      ⊎_elim (λ e. absurd (none (squared_norm g) (subst (λ (r : ℕ). HasValue (squared_norm g) false r (2 ^ 1074)) e n.worth.is) given)) (λ h. h) (eq-zero-or-pos n.r)

  large_root : 2 ^ 900 ≤ (root_near (norm_fits g) (norm_near Q fine g all short).worth some_norm (norm_near Q fine g all short).low).N
  large_root =
      let n = norm_near Q fine g all short in
      let m = root_near (norm_fits g) n.worth some_norm n.low in
      guarded (sqrt_of (squared_norm g)) m.N m.worth.is m.some given

-- from these two alone
module _ (Q : ℕ) (fine : Q ≤ 2 ^ 1200 * 2 ^ 1074) (g : List Float) (all : (j : ℕ) → j < length g → Entry Q (at g j)) (short : length g ≤ most_rank)
    (some : 0 < (norm_near Q fine g all short).r) (large : 2 ^ 900 ≤ (root_near (norm_fits g) (norm_near Q fine g all short).worth some (norm_near Q fine g all short).low).N) where
  abbrev n : NormOf (squared_norm g) (total (length g) (square_at g))
  n = norm_near Q fine g all short

  abbrev m : RootOf (sqrt_of (squared_norm g)) n.r
  m = root_near (norm_fits g) n.worth some n.low

  d : Quotient (one64 /ᶠ sqrt_of (squared_norm g)) (2 ^ 1074) m.N
  d = div_near worth_one m.worth m.some (le_trans (lit≤ tt) (mul-le-mul_left (2 ^ 1000) large))

  p : (j : ℕ) (h : j < length g) → Product (at g j *ᶠ (one64 /ᶠ sqrt_of (squared_norm g))) (unlike (all j h).sign false) (units_of (at g j) * d.r)
  p j h =
      mul_near (all j h).worth d.worth
      (le_trans (mul-le-mul (entry_low Q (units_of (at g j)) fine (all j h).low) (inverse_low d.r m.N large d.most)) (lit≤ tt))

  units_is : (j : ℕ) (h : j < length g) → (p j h).r ≡ units_of (at g j *ᶠ (one64 /ᶠ sqrt_of (squared_norm g)))
  units_is j h = sym (units_are (p j h).worth)

  given : Given (2 ^ 1074) n.r (total (length g) (square_at g)) m.N d.r (length g) (λ j. units_of (at g j)) (λ j. units_of (at g j *ᶠ (one64 /ᶠ sqrt_of (squared_norm g))))
  given = record {
    wide = lit≤ tt;
    rank = short;
    sum = refl;
    norm_most = n.most;
    norm_least = n.least;
    root_most = m.most;
    root_least = m.least;
    guard = le_trans (lit≤ tt) (mul-le-mul large large);
    low = le_trans (mul-le-mul_left (2 ^ 50) (root_low n.r m.N n.low m.most)) (lit≤ tt);
    inverse_most = d.most;
    inverse_least = d.least;
    row_most = λ j h. subst (λ (x : ℕ). Under 1 (2 ^ 50 * 2 ^ 1074) (x * 2 ^ 1074) (units_of (at g j) * d.r)) (units_is j h) (p j h).most;
    row_least = λ j h. subst (λ (x : ℕ). Under 1 (2 ^ 50 * 2 ^ 1074) (units_of (at g j) * d.r) (x * 2 ^ 1074)) (units_is j h) (p j h).least;
  }

  -- the row, whatever stood in it
  module _ (row : List Float) (same : length row ≡ length g) where
    new_length : length (exact_row g (one64 /ᶠ sqrt_of (squared_norm g)) row) ≡ length g
    unfolding exact_row
    new_length = length_map_first (λ j old. at g j *ᶠ (one64 /ᶠ sqrt_of (squared_norm g))) (length row) row ∙ same

    new_at : (j : ℕ) → j < length g → at (exact_row g (one64 /ᶠ sqrt_of (squared_norm g)) row) j ≡ at g j *ᶠ (one64 /ᶠ sqrt_of (squared_norm g))
    unfolding exact_row
    new_at j h = get_d_map_first (λ j old. at g j *ᶠ (one64 /ᶠ sqrt_of (squared_norm g))) (length row) row j nan (rw same h) (rw same h)

    row_unit : Unit (2 ^ 1074) (total (length (exact_row g (one64 /ᶠ sqrt_of (squared_norm g)) row)) (square_at (exact_row g (one64 /ᶠ sqrt_of (squared_norm g)) row)))
    row_unit =
        let inv = one64 /ᶠ sqrt_of (squared_norm g) in
        let made = exact_row g inv row in
        subst (λ (k : ℕ). Unit (2 ^ 1074) (total k (square_at made))) (sym new_length)
        (subst (Unit (2 ^ 1074)) (total_ext (length g) (λ j. units_of (at g j *ᶠ inv) * units_of (at g j *ᶠ inv)) (square_at made) (λ j h. ap (λ (x : Float). units_of x * units_of x) (sym (new_at j h))))
        (chain (2 ^ 1074) n.r (total (length g) (square_at g)) m.N d.r (length g) (λ j. units_of (at g j)) (λ j. units_of (at g j *ᶠ inv)) given))

    -- an element is at most 2
    element_low : (j : ℕ) → j < length g → AtMost (2 * 2 ^ 1074) (at (exact_row g (one64 /ᶠ sqrt_of (squared_norm g)) row) j)
    element_low j h =
        let made = exact_row g (one64 /ᶠ sqrt_of (squared_norm g)) row in
        let one : square_at made j ≤ total (length made) (square_at made) = total_at (length made) j (square_at made) (rw new_length h) in
        let worth : Worth (at made j) (unlike (all j h).sign false) (p j h).r = subst (λ (x : Float). Worth x (unlike (all j h).sign false) (p j h).r) (sym (new_at j h)) (p j h).worth in
        at_most (2 * 2 ^ 1074) worth
        (le_trans (le_of_eq (sym (units_are worth))) (le_of_lt (lt_of_square (lt_of_le_of_lt one (bound (total (length made) (square_at made)) (2 ^ 1074) (pow_pos 1074) row_unit.most)))))
      where
        bound : (z u : ℕ) → 0 < u → 2 ^ 40 * z ≤ 2 ^ 40 * (u * u) + u * u → z < 2 * u * (2 * u)
        bound z u p h =
            let twice : z ≤ 2 * (u * u) = le_of_mul-le-mul_left {k = 2 ^ 40} (omega arith) (lit< tt) in
            omega (arith, twice, mul-pos p p)

    all_done : Done (exact_row g (one64 /ᶠ sqrt_of (squared_norm g)) row)
    all_done = record {
      unit = row_unit;
      held = λ j h. let k : j < length g = rw new_length at h in subst (λ (x : Float). T (fits binary64 x)) (sym (new_at j k)) (mul-fits binary64 (at g j) (one64 /ᶠ sqrt_of (squared_norm g)));
      in_reach = λ j h. let k : j < length g = rw new_length at h in is_finite (element_low j k).worth;
    }

module _ (Q : ℕ) (fine : Q ≤ 2 ^ 1200 * 2 ^ 1074) (g : List Float) (all : (j : ℕ) → j < length g → Entry Q (at g j)) (short : length g ≤ most_rank) (w : T (wrote (sqrt_of (squared_norm g)))) where
  module _ (row : List Float) (same : length row ≡ length g) where
    -- an element is at most 2
    pub row_low : (j : ℕ) → j < length g → AtMost (2 * 2 ^ 1074) (at (exact_row g (one64 /ᶠ sqrt_of (squared_norm g)) row) j)
    row_low = element_low Q fine g all short (some_norm Q fine g all short w) (large_root Q fine g all short w) row same

    pub row_done : Done (exact_row g (one64 /ᶠ sqrt_of (squared_norm g)) row)
    row_done = all_done Q fine g all short (some_norm Q fine g all short w) (large_root Q fine g all short w) row same
