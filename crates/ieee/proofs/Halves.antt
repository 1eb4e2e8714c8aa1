-- The root of m * 2 ^ 52 to the nearest whole number, r: what shows it, by the parts a and b of r, and the root of m * 2 ^ 54 whose half it is. Assumes nothing.
use Rattle.std.proofs.Common.{◌≡◌, ℕ, suc, ◌+◌, ◌-◌, ◌*◌, ◌/◌, ◌^◌, ◌<◌, ◌≤◌, sym, ap, ◌∙◌, ⊎_elim, arith}
use Rattle.std.proofs.lemmas.Bool.{cases_lt}
use Rattle.ieee.specs.Sqrt.{Root, NearRoot}
use Rattle.ieee.proofs.Squares.{square_suc, square_even, square_split}

pub near : {m r : ℕ} (a b : ℕ) → a * 2 ^ 26 + b ≡ r → a * a ≤ m → 2 * (a * b) ≤ (m - a * a) * 2 ^ 26 + 2 ^ 28
    → b * b + 2 ^ 54 < ((m - a * a) * 2 ^ 26 + 2 ^ 28 - 2 * (a * b)) * 2 ^ 26 + r
    → ((m - a * a) * 2 ^ 26 + 2 ^ 28 - 2 * (a * b)) * 2 ^ 26 ≤ b * b + 2 ^ 54 + r
    → NearRoot m r
near {m} {r} a b e under room more less =
    let square : r * r ≡ a * a * (2 ^ 26 * 2 ^ 26) + 2 * (a * b * 2 ^ 26) + b * b = ap (λ (x : ℕ). x * x) (sym e) ∙ square_split (2 ^ 26) a b in
    omega arith

pub record Halved (m r : ℕ) : Type 0 where
  pub q : ℕ
  pub root : Root (m * 2 ^ 54) q
  pub half : (q + 1) / 2 ≡ r

pub halved : {m r : ℕ} → 0 < r → NearRoot m r → Halved m r
halved {m} {r} pos n = ⊎_elim up down (cases_lt (m * 2 ^ 52) (r * r))
  where
    down : r * r ≤ m * 2 ^ 52 → Halved m r
    down h = record { q = 2 * r; root = omega (arith, n.under, square_even r (2 * r) (omega arith), square_suc (2 * r)); half = omega arith }

    up : m * 2 ^ 52 < r * r → Halved m r
    up h =
        let q = 2 * r - 1 in
        record { q = q; root = omega (arith, n.over, square_suc q, square_even r (suc q) (omega arith)); half = omega arith }
