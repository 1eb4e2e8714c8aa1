-- The number with given binary digits. Assumes nothing.
use Prim.Native.Nat.{ℕ, zero, suc, ◌+◌, ◌*◌, ◌-◌, ◌/◌, ◌^◌, ◌≤◌, ◌<◌}
use native.Mathlib.Nat.{zero-lt-suc, pow-suc, add_comm, add-zero}
use native.Mathlib.Omega.{arith}
use mathlib.Core.Path.{◌≡◌, refl, sym, ap, ap₂, ◌∙◌}
use lib.Pow.{pow_mono}
use Rattle.std.specs.Int.{bit_at}
use Rattle.std.proofs.lemmas.Nat.Bits.{bit_at_lowest, bit_at-suc}
use Rattle.sign_words.specs.Packed.{word}

-- ---- the number with given digits

pub word_lt : (f : ℕ → ℕ) (n : ℕ) → ((i : ℕ) → f i < 2) → word f n < 2 ^ n
unfolding word
word_lt f zero h = zero-lt-suc zero
word_lt f (suc n) h = omega (arith, h 0, word_lt (λ i. f (suc i)) n (λ i. h (suc i)), pow-suc 2 n)

pub digit_word : (f : ℕ → ℕ) (n i : ℕ) → ((j : ℕ) → f j < 2) → i < n → bit_at (word f n) i ≡ f i
unfolding word
digit_word f zero i h q = elim q [ ]
digit_word f (suc n) zero h q = omega (arith, h 0, bit_at_lowest (word f (suc n)))
digit_word f (suc n) (suc i) h q =
    bit_at-suc (word f (suc n)) i
    ∙ (let first = h 0 in let half : word f (suc n) / 2 ≡ word (λ i. f (suc i)) n = omega arith in ap (λ (v : ℕ). bit_at v i) half)
    ∙ digit_word (λ i. f (suc i)) n i (λ j. h (suc j)) (omega arith)

pub word_ext : (f g : ℕ → ℕ) (n : ℕ) → ((i : ℕ) → i < n → f i ≡ g i) → word f n ≡ word g n
unfolding word
word_ext f g zero e = refl
word_ext f g (suc n) e = ap₂ (λ (a b : ℕ). a + 2 * b) (e 0 (omega arith)) (word_ext (λ i. f (suc i)) (λ i. g (suc i)) n (λ i q. e (suc i) (omega arith)))

-- the number of the digits from j up to n, made from the high end
pub from_turn : (f : ℕ → ℕ) (n i j w : ℕ) → j ≡ suc i → j ≤ n → w ≡ word (λ k. f (j + k)) (n - j) → 2 * w + f i ≡ word (λ k. f (i + k)) (n - i)
unfolding word
from_turn f n i j w e h q =
    let one_more : n - i ≡ suc (n - j) = omega arith in
    rw one_more
    (add_comm (2 * w) (f i)
    ∙ ap₂ (λ (a b : ℕ). f a + 2 * b) (sym (add-zero i)) (q ∙ word_ext (λ k. f (j + k)) (λ k. f (i + suc k)) (n - j) (λ k l. let s : j + k ≡ i + suc k = omega arith in ap f s)))

pub from_room : (f : ℕ → ℕ) (n j w m : ℕ) → ((i : ℕ) → f i < 2) → n - j ≤ m → w ≡ word (λ k. f (j + k)) (n - j) → w < 2 ^ m
from_room f n j w m h l q = omega (arith, word_lt (λ k. f (j + k)) (n - j) (λ k. h (j + k)), pow_mono l)
