-- From the squared norm to the row's length, in whole numbers: U is 1.0, σ the squared norm, N its root, I the inverse of that, G the gradient's
-- elements, X the row's, all in units; S is the exact sum of the squares of G, and Z that of X.
--     chain    Z differs from U * U by one part in 2 ^ 40 at most
-- Assumes nothing.
use mathlib.Core.Path.{◌≡◌, ap, ◌∙◌, subst}
use Prim.Native.Nat.{ℕ, zero, suc, zero-le, ◌+◌, ◌*◌, ◌^◌, ◌≤◌, ◌<◌}
use native.Mathlib.Nat.{le_refl, le_trans, le_of_eq, le_of_lt, lt_of_le_of_lt, lt_of_lt_of_le, mul_comm, mul-pos, mul-le-mul_right, mul-le-mul_left, le_of_mul-le-mul_left}
use native.Mathlib.Omega.{arith}
use lib.Dec.{lit≤, lit<}
use Rattle.limits.specs.Limits.{most_rank}
use Rattle.laws.specs.Sum.{total}
use Rattle.laws.proofs.Sums.{total_at}
use Rattle.laws.proofs.Totals.{total_ext, total_scale}
use Rattle.ieee.proofs.Squares.{lt_of_square}
use Rattle.float_error.proofs.Errors.{Under, whole, pure, over, weaker, plus, through, then, product, relative, relative_right, squared}

totals : (e t n : ℕ) (f g : ℕ → ℕ) → ((j : ℕ) → j < n → Under e t (f j) (g j)) → Under e (n * t) (total n f) (total n g)
unfolding total
totals e t zero f g all = record { le = zero-le }
totals e t (suc n) f g all = weaker e (suc n * t) (le_refl e) (omega arith) (plus (totals e t n f g (λ j h. all j (omega arith))) (all n (omega arith)))

-- what is given of the numbers of one row
pub record Given (U σ S N I n : ℕ) (G X : ℕ → ℕ) : Type 0 where
  pub wide : 2 ^ 120 ≤ U
  pub rank : n ≤ most_rank
  pub sum : total n (λ j. G j * G j) ≡ S
  pub norm_most : Under 200 (2 ^ 58 * U) (σ * U) S
  pub norm_least : Under 200 (2 ^ 58 * U) S (σ * U)
  pub root_most : Under 13 0 (N * N) (σ * U)
  pub root_least : Under 15 0 (σ * U) (N * N)
  pub guard : 2 ^ 59 * U ≤ N * N
  pub low : 2 ^ 50 * N ≤ U * U
  pub inverse_most : Under 1 (2 ^ 50 * N) (I * N) (U * U)
  pub inverse_least : Under 1 (2 ^ 50 * N) (U * U) (I * N)
  pub row_most : (j : ℕ) → j < n → Under 1 (2 ^ 50 * U) (X j * U) (G j * I)
  pub row_least : (j : ℕ) → j < n → Under 1 (2 ^ 50 * U) (G j * I) (X j * U)

module _ (U σ S N I n : ℕ) (G X : ℕ → ℕ) (g : Given U σ S N I n G X) where
  some : 2 ^ 58 * U ≤ σ * U
  some = le_of_mul-le-mul_left {k = 2 ^ 51} (bound (σ * U) (N * N) g.root_most.le g.guard) (lit< tt)
    where
      bound : (s m : ℕ) → 2 ^ 50 * m ≤ 2 ^ 50 * s + (13 * s + 0) → 2 ^ 59 * U ≤ m → 2 ^ 51 * (2 ^ 58 * U) ≤ 2 ^ 51 * s
      bound s m h k =
          let twice : 2 ^ 50 * m ≤ 2 ^ 51 * s = omega arith in
          le_trans (le_trans (omega arith) (mul-le-mul_left (2 ^ 50) k)) twice

  square_most : Under 216 0 (N * N) S
  square_most = then (lit≤ tt) g.root_most (relative (lit≤ tt) some g.norm_most)

  square_least : Under 217 0 S (N * N)
  square_least = then (lit≤ tt) (relative_right some g.norm_least) g.root_least

  one_most : Under 5 0 (I * N * (I * N)) (U * U * (U * U))
  one_most = product (lit≤ tt) (relative_right g.low g.inverse_most) (relative_right g.low g.inverse_most)

  one_least : Under 7 0 (U * U * (U * U)) (I * N * (I * N))
  one_least = product (lit≤ tt) (relative (lit≤ tt) g.low g.inverse_least) (relative (lit≤ tt) g.low g.inverse_least)

  swapped : N * N * (I * I) ≡ I * N * (I * N)
  swapped = omega arith

  all_most : Under 223 0 (S * (I * I)) (U * U * (U * U))
  all_most = then (lit≤ tt) (subst (Under 217 0 (S * (I * I))) swapped (pure (I * I) square_least)) one_most

  all_least : Under 224 0 (U * U * (U * U)) (S * (I * I))
  all_least = then (lit≤ tt) one_least (subst (λ (x : ℕ). Under 216 0 x (S * (I * I))) swapped (pure (I * I) square_most))

  -- ---- an element

  above : 0 < U
  above = omega (arith, g.wide)

  four : S * (I * I) < 4 * (U * U * (U * U))
  four = go (S * (I * I)) (U * U * (U * U)) (mul-pos (mul-pos above above) (mul-pos above above)) (whole 0 (lit≤ tt) all_most)
    where
      go : (a b : ℕ) → 0 < b → a ≤ 2 * b + 0 → a < 4 * b
      go a b p h = omega arith

  element : (j : ℕ) → j < n → G j * I ≤ 2 * (U * U)
  element j h =
      let one : G j * G j ≤ S = le_trans (total_at n j (λ i. G i * G i) h) (le_of_eq g.sum) in
      let is : G j * I * (G j * I) ≡ G j * G j * (I * I) = omega arith in
      le_of_lt (lt_of_square (lt_of_le_of_lt (le_trans (le_of_eq is) (mul-le-mul_right (I * I) one)) (lt_of_lt_of_le four (omega arith))))

  unit : 2 ^ 50 * U ≤ 5 * (U * U)
  unit = omega (arith, mul-le-mul_right U g.wide)

  written : (j : ℕ) → j < n → X j * U ≤ 5 * (U * U)
  written j h = le_trans (whole U (lit≤ tt) (g.row_most j h)) (omega (arith, element j h, mul-le-mul_right U above))

  -- ---- the row

  abbrev T : ℕ
  T = 4 * (5 * (U * U) * (2 ^ 50 * U))

  abbrev Z : ℕ
  Z = total n (λ j. X j * X j)

  row_is : total n (λ j. X j * U * (X j * U)) ≡ Z * (U * U)
  row_is = total_ext n (λ j. X j * U * (X j * U)) (λ j. U * U * (X j * X j)) (λ j h. omega arith) ∙ total_scale n (U * U) (λ j. X j * X j) ∙ mul_comm (U * U) Z

  gradient_is : total n (λ j. G j * I * (G j * I)) ≡ S * (I * I)
  gradient_is = total_ext n (λ j. G j * I * (G j * I)) (λ j. I * I * (G j * G j)) (λ j h. omega arith) ∙ total_scale n (I * I) (λ j. G j * G j) ∙ ap (λ (x : ℕ). I * I * x) g.sum ∙ mul_comm (I * I) S

  row_most : Under 3 (n * T) (Z * (U * U)) (S * (I * I))
  row_most =
      subst (λ (x : ℕ). Under 3 (n * T) x (S * (I * I))) row_is
      (subst (Under 3 (n * T) (total n (λ j. X j * U * (X j * U)))) gradient_is
      (totals 3 T n (λ j. X j * U * (X j * U)) (λ j. G j * I * (G j * I)) (λ j h. squared (5 * (U * U)) unit (le_trans (element j h) (omega arith)) (g.row_most j h))))

  row_least : Under 3 (n * T) (S * (I * I)) (Z * (U * U))
  row_least =
      subst (Under 3 (n * T) (S * (I * I))) row_is
      (subst (λ (x : ℕ). Under 3 (n * T) x (total n (λ j. X j * U * (X j * U)))) gradient_is
      (totals 3 T n (λ j. G j * I * (G j * I)) (λ j. X j * U * (X j * U)) (λ j h. squared (5 * (U * U)) unit (written j h) (g.row_least j h))))

  few : n * T ≤ 2 ^ 60 * U * (U * U)
  few = le_trans (mul-le-mul_right T g.rank) (omega arith)

  most : Under 227 (2 ^ 60 * U) Z (U * U)
  most =
      over (U * U) (mul-pos above above)
      (weaker 227 (2 ^ 60 * U * (U * U)) (lit≤ tt) (omega arith) (through {e = 3} {f = 223} 0 (lit≤ tt) (lit≤ tt) (weaker 3 (2 ^ 60 * U * (U * U)) (lit≤ tt) few row_most) all_most))

  least : Under 228 (2 ^ 61 * U) (U * U) Z
  least =
      over (U * U) (mul-pos above above)
      (weaker 228 (2 ^ 61 * U * (U * U)) (lit≤ tt) (omega arith)
      (through {e = 224} {f = 3} (2 ^ 60 * U * (U * U)) (lit≤ tt) (omega arith) all_least (weaker 3 (2 ^ 60 * U * (U * U)) (lit≤ tt) few row_least)))

-- Z differs from U * U by one part in 2 ^ 40 at most
pub record Unit (U Z : ℕ) : Type 0 where
  pub most : 2 ^ 40 * Z ≤ 2 ^ 40 * (U * U) + U * U
  pub least : 2 ^ 40 * (U * U) ≤ 2 ^ 40 * Z + U * U

pub chain : (U σ S N I n : ℕ) (G X : ℕ → ℕ) → Given U σ S N I n G X → Unit U (total n (λ j. X j * X j))
chain U σ S N I n G X g =
    let small : 2 ^ 61 * U ≤ U * U = mul-le-mul_right U (le_trans (lit≤ tt) g.wide) in
    let up : Under 228 0 (Z U σ S N I n G X g) (U * U) = relative_right (omega (arith, small)) (most U σ S N I n G X g) in
    let lo : Under 230 0 (U * U) (Z U σ S N I n G X g) = relative (lit≤ tt) small (least U σ S N I n G X g) in
    record { most = high (Z U σ S N I n G X g) (U * U) up.le; least = down (Z U σ S N I n G X g) (U * U) (whole 0 (lit≤ tt) up) lo.le }
  where
    high : (z u : ℕ) → 2 ^ 50 * z ≤ 2 ^ 50 * u + (228 * u + 0) → 2 ^ 40 * z ≤ 2 ^ 40 * u + u
    high z u h = le_of_mul-le-mul_left {k = 2 ^ 10} (omega arith) (lit< tt)

    join : (p q z u : ℕ) → p ≤ q + (230 * z + 0) → z ≤ 2 * u + 0 → p ≤ q + 2 ^ 10 * u
    join p q z u h k = omega arith

    down : (z u : ℕ) → z ≤ 2 * u + 0 → 2 ^ 50 * u ≤ 2 ^ 50 * z + (230 * z + 0) → 2 ^ 40 * u ≤ 2 ^ 40 * z + u
    down z u h k = let sum : 2 ^ 50 * u ≤ 2 ^ 50 * z + 2 ^ 10 * u = join (2 ^ 50 * u) (2 ^ 50 * z) z u k h in le_of_mul-le-mul_left {k = 2 ^ 10} (omega (arith, sum)) (lit< tt)
