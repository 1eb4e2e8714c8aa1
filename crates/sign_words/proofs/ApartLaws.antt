-- Where two choices differ first: the zeros below the lowest set bit of their exclusive or. Assumes nothing.
use Prim.Native.Nat.{ℕ, zero, suc, ◌+◌, ◌*◌, ◌-◌, ◌/◌, ◌%◌, ◌^◌, ◌≤◌, ◌<◌}
use native.Mathlib.Omega.{arith}
use mathlib.Core.List.{List}
use mathlib.Core.Logic.{⊎_elim}
use mathlib.Core.Path.{◌≡◌, refl, sym, ap, ◌∙◌, subst}
use lib.Bits.{bit_xor}
use lib.Count.{count_trailing_zeros, under}
use lib.ListN.{length}
use lib.Pow.{shr-shr}
use Rattle.laws.specs.Lists.{elem}
use Rattle.std.specs.Int.{bit_at, w64, trailing_zeros}
use Rattle.std.proofs.lemmas.Bool.{cases_eq, cases_lt}
use Rattle.std.proofs.lemmas.Nat.Bits.{bit_at_lowest, bit_at-suc, bit_at_xor}
use Rattle.sign_words.specs.Packed.{sign_in, flip_in}
use Rattle.sign_words.specs.Signs.{flip_byte}
use Rattle.std.specs.Prelude.{Some, None}
use Rattle.sign_words.specs.Distance.{BitApart, SignApart, none, first}
use Rattle.sign_words.proofs.PackedLaws.{sign_at_lem, sign_lt, other, flipped_here, flipped_there}

-- ---- the lowest set bit

-- the bits below it are 0, all of them where none is set
pub below_lowest : (k n i : ℕ) → i < count_trailing_zeros k n → bit_at n i ≡ 0
unfolding count_trailing_zeros
below_lowest zero n i h = absurd (omega arith)
below_lowest (suc k) n i h = go (below_lowest k (n / 2)) (n % 2) refl i h
  where
    go : ((j : ℕ) → j < count_trailing_zeros k (n / 2) → bit_at (n / 2) j ≡ 0)
        → (d : ℕ) → n % 2 ≡ d → (i : ℕ) → i < under d (count_trailing_zeros k (n / 2)) → bit_at n i ≡ 0
    go rest zero e zero q = bit_at_lowest n ∙ e
    go rest zero e (suc j) q = bit_at-suc n j ∙ rest j (omega arith)
    go rest (suc d) e j q = absurd (omega arith)

-- and it is set, where one of the first k is
pub lowest : (k n : ℕ) → count_trailing_zeros k n < k → bit_at n (count_trailing_zeros k n) ≡ 1
unfolding count_trailing_zeros
lowest zero n h = absurd (omega arith)
lowest (suc k) n h = go (lowest k (n / 2)) (n % 2) refl h
  where
    go : (count_trailing_zeros k (n / 2) < k → bit_at (n / 2) (count_trailing_zeros k (n / 2)) ≡ 1)
        → (d : ℕ) → n % 2 ≡ d → under d (count_trailing_zeros k (n / 2)) < suc k → bit_at n (under d (count_trailing_zeros k (n / 2))) ≡ 1
    go rest zero e q = bit_at-suc n (count_trailing_zeros k (n / 2)) ∙ rest (omega arith)
    go rest (suc d) e q = omega (arith, bit_at_lowest n)

-- ---- two words

shifted_digit : (w i j : ℕ) → bit_at (w / 2 ^ i) j ≡ bit_at w (i + j)
shifted_digit w i j = ap (λ (v : ℕ). v % 2) (shr-shr w i j)

module _ (a b from : ℕ) where
  -- how many bits from `from` on are the same
  abbrev run : ℕ
  run = trailing_zeros w64 (bit_xor a b / 2 ^ from)

  run_same : (j : ℕ) → from ≤ j → j < from + run → bit_at a j ≡ bit_at b j
  run_same j p q =
      let back : from + (j - from) ≡ j = omega arith in
      let even : (bit_at a j + bit_at b j) % 2 ≡ 0 =
      sym (bit_at_xor a b j) ∙ ap (bit_at (bit_xor a b)) (sym back) ∙ sym (shifted_digit (bit_xor a b) from (j - from))
      ∙ below_lowest 64 (bit_xor a b / 2 ^ from) (j - from) (omega arith) in
      omega arith

  pub apart_inside : from + run < 64 → BitApart a b from (Some (from + run))
  apart_inside h =
      let odd : (bit_at a (from + run) + bit_at b (from + run)) % 2 ≡ 1 =
      sym (bit_at_xor a b (from + run)) ∙ sym (shifted_digit (bit_xor a b) from run) ∙ lowest 64 (bit_xor a b / 2 ^ from) (omega arith) in
      first (from + run) (omega arith) h run_same (λ e. absurd (omega arith))

  pub apart_nowhere : 64 ≤ from + run → BitApart a b from None
  apart_nowhere h = none (λ j p q. run_same j p (omega arith))

-- ---- two choices, from word k on

module _ (a b : List ℕ) (from k : ℕ) (so_far : (j : ℕ) → from ≤ j → j < 64 * k → sign_in a j ≡ sign_in b j) where
  same_to : (r : ℕ) → r ≤ 64 → ((j : ℕ) → from - 64 * k ≤ j → j < r → bit_at (elem a k) j ≡ bit_at (elem b k) j)
      → (j : ℕ) → from ≤ j → j < 64 * k + r → sign_in a j ≡ sign_in b j
  same_to r few same j p q = ⊎_elim (so_far j p) here (cases_lt j (64 * k))
    where
      here : 64 * k ≤ j → sign_in a j ≡ sign_in b j
      here h =
          let back : 64 * k + (j - 64 * k) ≡ j = omega arith in
          let low : j - 64 * k < 64 = omega arith in
          subst (λ (l : ℕ). sign_in a l ≡ sign_in b l) back
          (sign_at_lem a k (j - 64 * k) low ∙ same (j - 64 * k) (omega arith) (omega arith) ∙ sym (sign_at_lem b k (j - 64 * k) low))

  pub same_on : BitApart (elem a k) (elem b k) (from - 64 * k) None → (j : ℕ) → from ≤ j → j < 64 * k + 64 → sign_in a j ≡ sign_in b j
  same_on (none same) = same_to 64 (omega arith) same

  pub found : {r : ℕ} → k < length a → BitApart (elem a k) (elem b k) (from - 64 * k) (Some r) → SignApart a b from (Some (64 * k + r))
  found inside (first r onward low same other) =
      first (64 * k + r) (omega arith) (omega arith) (same_to r (omega arith) same)
      (λ e. other (sym (sign_at_lem a k r low) ∙ e ∙ sign_at_lem b k r low))

-- ---- a sign in which two choices differ, flipped in one of them

other_sign : (a b : ℕ) → a < 2 → b < 2 → (a ≡ b → ⊥) → flip_byte a ≡ b
other_sign a b p q d = omega (arith, other a p)

-- what is known of the sign that is found
pub apart_at : (a b : List ℕ) {from i : ℕ} → SignApart a b from (Some i) → (from ≤ i) × (i < 64 * length a)
apart_at a b (first i onward inside same other) = (onward, inside)

module _ (a b : List ℕ) (from : ℕ) (so_far : (j : ℕ) → j < from → sign_in a j ≡ sign_in b j) where
  before : (m : ℕ) → ((j : ℕ) → from ≤ j → j < m → sign_in a j ≡ sign_in b j) → (j : ℕ) → j < m → sign_in a j ≡ sign_in b j
  before m same j h = ⊎_elim (so_far j) (λ (l : from ≤ j). same j l h) (cases_lt j from)

  pub apart_flipped : (a' : List ℕ) {i : ℕ} → a' ≡ flip_in i a → SignApart a b from (Some i) → (j : ℕ) → j < i + 1 → sign_in a' j ≡ sign_in b j
  apart_flipped a' e (first i onward inside same other) j l =
      ap (λ (w : List ℕ). sign_in w j) e
      ∙ ⊎_elim
      (λ (q : j ≡ i). rw q (flipped_here i a inside ∙ other_sign (sign_in a i) (sign_in b i) (sign_lt a i) (sign_lt b i) other))
      (λ (d : j ≡ i → ⊥). flipped_there i a inside j d ∙ before i same j (omega arith))
      (cases_eq j i)

  -- in front of it no sign differs
  pub same_before : {i : ℕ} → SignApart a b from (Some i) → (j : ℕ) → j < i → sign_in a j ≡ sign_in b j
  same_before (first i onward inside same other) = before i same

  pub same_all : SignApart a b from None → (j : ℕ) → j < 64 * length a → sign_in a j ≡ sign_in b j
  same_all (none same) = before (64 * length a) same
