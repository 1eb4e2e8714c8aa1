-- The squared norm by four running sums (001) is near the exact sum of squares.
--     norm_near    of a list of at most 32 doubles, none too large
-- Assumes nothing.
use mathlib.Core.Path.{◌≡◌, refl, sym, ap, ◌∙◌, subst}
use mathlib.Core.Bool.{Bool, true, false}
use mathlib.Core.List.{List}
use Prim.Native.Nat.{ℕ, zero, suc, zero-le, ◌+◌, ◌-◌, ◌*◌, ◌/◌, ◌^◌, ◌≤◌, ◌<◌}
use native.Mathlib.Nat.{add_assoc, le_refl, le_trans, le_of_eq, add-mul, mul_assoc, mul-le-mul_right, mul-le-mul_left, le_of_mul-le-mul_right, le_of_mul-le-mul_left, add-zero, add-le-add}
use native.Mathlib.Omega.{arith}
use lib.Dec.{lit≤, lit<}
use lib.Pow.{pow_pos}
use lib.Ieee.{Float, unlike}
use lib.ListN.{length}
use Rattle.limits.specs.Limits.{most_rank}
use Rattle.laws.specs.Sum.{total}
use Rattle.laws.proofs.Totals.{total_append}
use Rattle.ieee.specs.Floats.{◌+ᶠ◌, ◌*ᶠ◌, at, zero64}
use Rattle.ieee.specs.Nearest.{units_of}
use Rattle.factor.specs.Norms.{lane_to, quads_of, add_squares_to, squared_norm}
use Rattle.float_error.proofs.Errors.{Under, weaker, times, rounded_sum, sum_rounded}
use Rattle.float_error.proofs.Values.{Worth, worth_zero, mul_near, add_near}

-- ---- numbers

cap : (U r S c H : ℕ) → 0 < U → c ≤ 2 ^ 10 → Under (2 * c + 1) (3 * c * (2 ^ 50 * U)) (r * U) S → S ≤ H * U → r ≤ 2 * H + 2 ^ 12
cap U r S c H p h u k =
    let parts : (2 * c + 1) * S ≤ 2 ^ 50 * S = mul-le-mul_right S (omega (arith, h)) in
    let units : 3 * c * (2 ^ 50 * U) ≤ 2 ^ 12 * (2 ^ 50 * U) = mul-le-mul_right (2 ^ 50 * U) (omega (arith, h)) in
    let all : 2 ^ 50 * (r * U) ≤ 2 ^ 50 * (2 * S + 2 ^ 12 * U) = omega (arith, u.le) in
    let whole : r * U ≤ 2 * S + 2 ^ 12 * U = le_of_mul-le-mul_left {k = 2 ^ 50} all (lit< tt) in
    le_of_mul-le-mul_right {k = U} (omega (arith, whole, k)) p

-- ---- a sum of squares on its way: c counts what was added

-- z is a double near S, a sum of c squares or fewer, each at most Q
pub record Running (Q : ℕ) (z : Float) (S c : ℕ) : Type 0 where
  pub r : ℕ
  pub worth : Worth z false r
  pub most : Under (2 * c + 1) (3 * c * (2 ^ 50 * 2 ^ 1074)) (r * 2 ^ 1074) S
  pub least : Under (2 * c + 1) (3 * c * (2 ^ 50 * 2 ^ 1074)) S (r * 2 ^ 1074)
  pub small : S ≤ c * Q

module _ (Q : ℕ) (fine : Q ≤ 2 ^ 1200 * 2 ^ 1074) where
  low : {z : Float} {S c : ℕ} (a : Running Q z S c) → c ≤ 2 ^ 10 → a.r ≤ 2 * (2 ^ 10 * 2 ^ 1200) + 2 ^ 12
  low {z} {S} {c} a h =
      cap (2 ^ 1074) a.r S c (2 ^ 10 * 2 ^ 1200) (pow_pos 1074) h a.most
      (le_trans a.small (le_trans (mul-le-mul_right Q h) (le_trans (mul-le-mul_left (2 ^ 10) fine) (le_of_eq (sym (mul_assoc (2 ^ 10) (2 ^ 1200) (2 ^ 1074)))))))

  join : {z y : Float} {S P c d : ℕ} → Running Q z S c → Running Q y P d → c + d ≤ 2 ^ 10 → Running Q (z +ᶠ y) (S + P) (c + d + 1)
  join {z} {y} {S} {P} {c} {d} a b h =
      let n = add_near a.worth b.worth (le_trans (add-le-add (low a (omega arith)) (low b (omega arith))) (lit≤ tt)) in
      record {
        r = n.r;
        worth = n.worth;
        most = ups (2 ^ 1074) n.r a.r b.r S P c d h n.most a.most b.most;
        least = downs (2 ^ 1074) n.r a.r b.r S P c d h n.least a.least b.least;
        small = omega (arith, a.small, b.small);
      }
    where
      ups : (U r p q S P c d : ℕ) → c + d ≤ 2 ^ 10 → Under 1 (2 ^ 50) r (p + q) → Under (2 * c + 1) (3 * c * (2 ^ 50 * U)) (p * U) S → Under (2 * d + 1) (3 * d * (2 ^ 50 * U)) (q * U) P
          → Under (2 * (c + d + 1) + 1) (3 * (c + d + 1) * (2 ^ 50 * U)) (r * U) (S + P)
      ups U r p q S P c d h w u v =
          let T = 2 ^ 50 * U in
          let e = 2 * (c + d) + 1 in
          weaker (2 * (c + d + 1) + 1) (3 * (c + d + 1) * T) (omega arith) (omega arith)
          (rounded_sum {e = e} T (omega (arith, h)) (omega (arith, mul-le-mul_right T h))
          (subst (λ (x : ℕ). Under 1 T (r * U) x) (add-mul p q U) (times U w))
          (weaker e (3 * c * T) (omega arith) (le_refl (3 * c * T)) u) (weaker e (3 * d * T) (omega arith) (le_refl (3 * d * T)) v))

      downs : (U r p q S P c d : ℕ) → c + d ≤ 2 ^ 10 → Under 1 (2 ^ 50) (p + q) r → Under (2 * c + 1) (3 * c * (2 ^ 50 * U)) S (p * U) → Under (2 * d + 1) (3 * d * (2 ^ 50 * U)) P (q * U)
          → Under (2 * (c + d + 1) + 1) (3 * (c + d + 1) * (2 ^ 50 * U)) (S + P) (r * U)
      downs U r p q S P c d h w u v =
          let T = 2 ^ 50 * U in
          let e = 2 * (c + d) + 1 in
          weaker (2 * (c + d + 1) + 1) (3 * (c + d + 1) * T) (omega arith) (omega arith)
          (sum_rounded {e = e} T (omega (arith, h))
          (subst (λ (x : ℕ). Under 1 T x (r * U)) (add-mul p q U) (times U w))
          (weaker e (3 * c * T) (omega arith) (le_refl (3 * c * T)) u) (weaker e (3 * d * T) (omega arith) (le_refl (3 * d * T)) v))

  like : (s : Bool) → unlike s s ≡ false
  like true = refl
  like false = refl

  one_square : {x : Float} {s : Bool} {X : ℕ} → Worth x s X → X * X ≤ Q → Running Q (x *ᶠ x) (X * X) 1
  one_square {x} {s} {X} v h =
      let n = mul_near v v (le_trans h (le_trans fine (lit≤ tt))) in
      let T = 2 ^ 50 * 2 ^ 1074 in
      record {
        r = n.r;
        worth = subst (λ (b : Bool). Worth (x *ᶠ x) b n.r) (like s) n.worth;
        most = weaker 3 (3 * 1 * T) (lit≤ tt) (lit≤ tt) n.most;
        least = weaker 3 (3 * 1 * T) (lit≤ tt) (lit≤ tt) n.least;
        small = omega (arith, h);
      }

  none : Running Q zero64 0 0
  none = record { r = 0; worth = worth_zero; most = record { le = lit≤ tt }; least = record { le = lit≤ tt }; small = zero-le }

-- ---- sums in another order

by_fours : (q : ℕ) (f : ℕ → ℕ) → total q (λ i. f (4 * i + 0)) + total q (λ i. f (4 * i + 1)) + (total q (λ i. f (4 * i + 2)) + total q (λ i. f (4 * i + 3))) ≡ total (4 * q) f
unfolding total
by_fours zero f = refl
by_fours (suc q) f =
    let four : 4 * suc q ≡ 4 * q + 4 = omega arith in
    let more : total (4 * suc q) f ≡ total (4 * q) f + total 4 (λ i. f (4 * q + i)) = ap (λ (n : ℕ). total n f) four ∙ total_append (4 * q) 4 f in
    omega (arith, by_fours q f, more)

-- ---- the norm

-- x is finite, and its square is at most Q
pub record Entry (Q : ℕ) (x : Float) : Type 0 where
  pub sign : Bool
  pub worth : Worth x sign (units_of x)
  pub low : units_of x * units_of x ≤ Q

abbrev pub square_at : List Float → ℕ → ℕ
square_at v j = units_of (at v j) * units_of (at v j)

module _ (Q : ℕ) (fine : Q ≤ 2 ^ 1200 * 2 ^ 1074) (v : List Float) (all : (j : ℕ) → j < length v → Entry Q (at v j)) where
  lane : (k q : ℕ) → k < 4 → 4 * q ≤ length v → q ≤ 8 → Running Q (lane_to v k q) (total q (λ i. square_at v (4 * i + k))) (2 * q)
  unfolding lane_to total
  lane k zero h l b = none Q fine
  lane k (suc q) h l b =
      let e = all (4 * q + k) (omega arith) in
      subst (Running Q (lane_to v k (suc q)) (total (suc q) (λ i. square_at v (4 * i + k)))) (omega arith)
      (join Q fine (lane k q h (omega arith) (omega arith)) (one_square Q fine e.worth e.low) (omega arith))

  quads : (q : ℕ) → 4 * q ≤ length v → q ≤ 8 → Running Q (quads_of v q) (total (4 * q) (square_at v)) (8 * q + 3)
  quads q l b =
      let a : (k : ℕ) → k < 4 → Running Q (lane_to v k q) (total q (λ i. square_at v (4 * i + k))) (2 * q) = λ k h. lane k q h l b in
      subst (λ (c : ℕ). Running Q (quads_of v q) (total (4 * q) (square_at v)) c) (omega arith)
      (subst (λ (S : ℕ). Running Q (quads_of v q) S (2 * q + 2 * q + 1 + (2 * q + 2 * q + 1) + 1)) (by_fours q (square_at v))
      (join Q fine (join Q fine (a 0 (lit< tt)) (a 1 (lit< tt)) (omega arith)) (join Q fine (a 2 (lit< tt)) (a 3 (lit< tt)) (omega arith)) (omega arith)))

  rest : (start : ℕ) (sum : Float) (S c n : ℕ) → Running Q sum S c → start + n ≤ length v → c + 2 * n ≤ 2 ^ 9 → Running Q (add_squares_to v start sum n) (S + total n (λ i. square_at v (start + i))) (c + 2 * n)
  unfolding add_squares_to total
  rest start sum S c zero a l b = subst (λ (x : ℕ). Running Q sum x (c + 2 * 0)) (sym (add-zero S)) (subst (Running Q sum S) (omega arith) a)
  rest start sum S c (suc n) a l b =
      let e = all (start + n) (omega arith) in
      subst (Running Q (add_squares_to v start sum (suc n)) (S + total (suc n) (λ i. square_at v (start + i)))) (omega arith)
      (subst (λ (x : ℕ). Running Q (add_squares_to v start sum (suc n)) x (c + 2 * n + 1 + 1)) (add_assoc S (total n (λ i. square_at v (start + i))) (square_at v (start + n)))
      (join Q fine (rest start sum S c n a (omega arith) (omega arith)) (one_square Q fine e.worth e.low) (omega arith)))

  whole : length v ≤ most_rank → Running Q (squared_norm v) (total (length v) (square_at v)) (8 * (length v / 4) + 3 + 2 * (length v - 4 * (length v / 4)))
  unfolding squared_norm
  whole h =
      let q = length v / 4 in
      let n = length v - 4 * q in
      subst (λ (x : ℕ). Running Q (squared_norm v) x (8 * q + 3 + 2 * n)) (sym (total_append (4 * q) n (square_at v)) ∙ ap (λ (x : ℕ). total x (square_at v)) (omega arith))
      (rest (4 * q) (quads_of v q) (total (4 * q) (square_at v)) (8 * q + 3) n (quads q (omega arith) (omega arith)) (omega arith) (omega arith))

-- near the sum of squares: 200 parts in 2 ^ 50, and 256 units
pub record NormOf (z : Float) (S : ℕ) : Type 0 where
  pub r : ℕ
  pub worth : Worth z false r
  pub low : r ≤ 2 ^ 1000 * 2 ^ 1074
  pub most : Under 200 (2 ^ 58 * 2 ^ 1074) (r * 2 ^ 1074) S
  pub least : Under 200 (2 ^ 58 * 2 ^ 1074) S (r * 2 ^ 1074)

pub norm_near : (Q : ℕ) → Q ≤ 2 ^ 1200 * 2 ^ 1074 → (v : List Float) → ((j : ℕ) → j < length v → Entry Q (at v j)) → length v ≤ most_rank → NormOf (squared_norm v) (total (length v) (square_at v))
norm_near Q fine v all h =
    let n = whole Q fine v all h in
    let c = 8 * (length v / 4) + 3 + 2 * (length v - 4 * (length v / 4)) in
    let few : c ≤ 80 = omega arith in
    record {
      r = n.r;
      worth = n.worth;
      low = le_trans (low Q fine n (omega arith)) (lit≤ tt);
      most = weaker 200 (2 ^ 58 * 2 ^ 1074) (omega arith) (units c (2 ^ 1074) few) n.most;
      least = weaker 200 (2 ^ 58 * 2 ^ 1074) (omega arith) (units c (2 ^ 1074) few) n.least;
    }
  where
    units : (c U : ℕ) → c ≤ 80 → 3 * c * (2 ^ 50 * U) ≤ 2 ^ 58 * U
    units c U h = omega (arith, mul-le-mul_right U h)
