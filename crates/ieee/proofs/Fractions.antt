-- A fraction over a larger denominator: a / c is n / k, so a * d over c * d is it too. Assumes nothing.
use Rattle.std.proofs.Common.{◌≡◌, ℕ, ◌*◌, ap, ◌∙◌, mul_assoc, mul_comm, mul_right_comm}

pub over_left : (a c d n k : ℕ) → a * k ≡ n * c → a * d * k ≡ n * (c * d)
over_left a c d n k v = mul_right_comm a d k ∙ ap (λ (x : ℕ). x * d) v ∙ mul_assoc n c d

pub over_right : (a c d n k : ℕ) → a * k ≡ n * c → a * d * k ≡ n * (d * c)
over_right a c d n k v = over_left a c d n k v ∙ ap (λ (x : ℕ). n * x) (mul_comm c d)
