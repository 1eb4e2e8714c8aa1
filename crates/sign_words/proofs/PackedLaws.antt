-- Signs in words and out again, and the flip of one. Assumes nothing.
use Prim.Native.Nat.{ℕ, zero, suc, ◌+◌, ◌*◌, ◌/◌, ◌%◌, ◌^◌, ◌≤◌, ◌<◌}
use native.Mathlib.Nat.{zero-lt-suc}
use native.Mathlib.Omega.{arith}
use mathlib.Core.List.{List}
use mathlib.Core.Logic.{⊎_elim}
use mathlib.Core.Path.{◌≡◌, refl, sym, ap, ap₂, ◌∙◌}
use lib.Bits.{bit_xor, xor_lt}
use lib.Pow.{pow-lt, pow_pos}
use Rattle.std.specs.Int.{bit_at}
use Rattle.std.proofs.lemmas.Bool.{cases_eq, cases_lt}
use Rattle.std.proofs.lemmas.Nat.Bits.{bit_at-zero, bit_at-lt, bit_at_xor, bit_at-pow_same, bit_at-pow_other, same_from_bits_below}
use lib.ListN.{length, set, length-set, get_or-eq_default}
use lib.Seq.{ext_get_or, get_or-set_same, get_or-set_other}
use Rattle.laws.specs.Lists.{elem, tabulate}
use Rattle.laws.proofs.Made.{length_tabulate, get_d_tabulate}
use Rattle.sign_words.specs.Signs.{flip_byte, flip_sign, sign_digit, Binary}
use Rattle.sign_words.specs.Packed.{sign_in, unpacked, word, digit_at, packed, flip_in, Tidy, Flipped, Packs}
use Rattle.sign_words.proofs.Digits.{word_lt, digit_word}

pub sign_digit_lt : (s : ℕ) → sign_digit s < 2
sign_digit_lt zero = zero-lt-suc 1
sign_digit_lt (suc s) = omega arith

pub sign_digit_bit : (s : ℕ) → s < 2 → sign_digit s ≡ s
sign_digit_bit zero h = refl
sign_digit_bit (suc zero) h = refl
sign_digit_bit (suc (suc s)) h = absurd (omega arith)

-- digit j of word k
pub sign_at_lem : (words : List ℕ) (k j : ℕ) → j < 64 → sign_in words (64 * k + j) ≡ bit_at (elem words k) j
unfolding sign_in
sign_at_lem words k j h =
    let quot : (64 * k + j) / 64 ≡ k = omega arith in
    let rest : (64 * k + j) % 64 ≡ j = omega arith in
    ap₂ (λ (a b : ℕ). bit_at (elem words a) b) quot rest

-- ---- in and out

pub length_packed : (n : ℕ) (x : List ℕ) → length (packed n x) ≡ n
unfolding packed
length_packed n x = length_tabulate (λ k. word (digit_at x k) 64) n

pub length_unpacked : (m : ℕ) (words : List ℕ) → length (unpacked m words) ≡ m
unfolding unpacked
length_unpacked m words = length_tabulate (sign_in words) m

pub elem_unpacked : (m : ℕ) (words : List ℕ) (i : ℕ) → i < m → elem (unpacked m words) i ≡ sign_in words i
unfolding unpacked
elem_unpacked m words i h = get_d_tabulate (sign_in words) m i 0 h

pub sign_packed : (n : ℕ) (x : List ℕ) (i : ℕ) → i < 64 * n → sign_in (packed n x) i ≡ sign_digit (elem x i)
unfolding sign_in packed
sign_packed n x i h =
    let back : 64 * (i / 64) + i % 64 ≡ i = omega arith in
    ap (λ (w : ℕ). bit_at w (i % 64)) (get_d_tabulate (λ k. word (digit_at x k) 64) n (i / 64) 0 (omega arith))
    ∙ digit_word (digit_at x (i / 64)) 64 (i % 64) (λ j. sign_digit_lt (elem x (64 * (i / 64) + j))) (omega arith)
    ∙ ap (λ (k : ℕ). sign_digit (elem x k)) back

-- what was packed comes out again
pub unpacked_packed : (n : ℕ) (x : List ℕ) → length x ≤ 64 * n → Binary x → unpacked (length x) (packed n x) ≡ x
unpacked_packed n x h b =
    ext_get_or 0 (unpacked (length x) (packed n x)) x (length_unpacked (length x) (packed n x))
    (λ i q.
    let i-in : i < length x = omega (arith, length_unpacked (length x) (packed n x)) in
    elem_unpacked (length x) (packed n x) i i-in ∙ sign_packed n x i (omega arith) ∙ sign_digit_bit (elem x i) (b.small i))

-- words of the same signs are the same
pub same_words : (a b : List ℕ) → length a ≡ length b → ((k : ℕ) → elem a k < 2 ^ 64) → ((k : ℕ) → elem b k < 2 ^ 64)
    → ((i : ℕ) → i < 64 * length a → sign_in a i ≡ sign_in b i) → a ≡ b
same_words a b long p q e =
    ext_get_or 0 a b long
    (λ k h.
    same_from_bits_below 64 (elem a k) (elem b k) (p k) (q k)
    (λ j l. sym (sign_at_lem a k j l) ∙ e (64 * k + j) (omega arith) ∙ sign_at_lem b k j l))

-- what holds of 0 and of each element of a list that is made by index holds of any
all_tabulate : (P : ℕ → Type 0) (f : ℕ → ℕ) (n : ℕ) → P 0 → ((i : ℕ) → P (f i)) → (i : ℕ) → P (elem (tabulate f n) i)
all_tabulate P f n z h i =
    ⊎_elim (λ (q : i < n). rw (get_d_tabulate f n i 0 q) (h i))
    (λ (q : n ≤ i). rw (get_or-eq_default (tabulate f n) 0 {n = i} (omega (arith, length_tabulate f n))) z)
    (cases_lt i n)

pub packed_words : (n : ℕ) (x : List ℕ) (k : ℕ) → elem (packed n x) k < 2 ^ 64
unfolding packed
packed_words n x = all_tabulate (λ w. w < 2 ^ 64) (λ k. word (digit_at x k) 64) n (pow_pos 64) (λ k. word_lt (digit_at x k) 64 (λ j. sign_digit_lt (elem x (64 * k + j))))

pub sign_lt : (words : List ℕ) (i : ℕ) → sign_in words i < 2
unfolding sign_in
sign_lt words i = bit_at-lt (elem words (i / 64)) (i % 64)

-- no digit is set behind the last word
pub sign_outside : (words : List ℕ) (i : ℕ) → 64 * length words ≤ i → sign_in words i ≡ 0
unfolding sign_in
sign_outside words i h = ap (λ (w : ℕ). bit_at w (i % 64)) (get_or-eq_default words 0 (omega arith)) ∙ bit_at-zero (i % 64)

-- ---- a flip of one sign of a list

pub flip_sign_here : (i : ℕ) (x : List ℕ) → i < length x → elem (flip_sign i x) i ≡ flip_byte (elem x i)
unfolding flip_sign
flip_sign_here i x h = get_or-set_same x i (flip_byte (elem x i)) 0 h

pub flip_sign_there : (i : ℕ) (x : List ℕ) (j : ℕ) → (j ≡ i → ⊥) → elem (flip_sign i x) j ≡ elem x j
unfolding flip_sign
flip_sign_there i x j d = get_or-set_other x i j (flip_byte (elem x i)) 0 d

pub length_flip_sign : (i : ℕ) (x : List ℕ) → length (flip_sign i x) ≡ length x
unfolding flip_sign
length_flip_sign i x = length-set x i (flip_byte (elem x i))

digit_flip : (s : ℕ) → sign_digit (flip_byte s) ≡ flip_byte (sign_digit s)
unfolding flip_byte
digit_flip zero = refl
digit_flip (suc s) = refl

-- ---- a flip

pub other : (d : ℕ) → d < 2 → (d + 1) % 2 ≡ flip_byte d
unfolding flip_byte
other zero h = refl
other (suc zero) h = refl
other (suc (suc d)) h = absurd (omega arith)

pub length_flip_in : (i : ℕ) (words : List ℕ) → length (flip_in i words) ≡ length words
unfolding flip_in
length_flip_in i words = length-set words (i / 64) (bit_xor (elem words (i / 64)) (2 ^ (i % 64)))

module _ (i : ℕ) (words : List ℕ) (inside : i < 64 * length words) where
  pub flipped_here : sign_in (flip_in i words) i ≡ flip_byte (sign_in words i)
  unfolding sign_in flip_in
  flipped_here =
      ap (λ (w : ℕ). bit_at w (i % 64)) (get_or-set_same words (i / 64) (bit_xor (elem words (i / 64)) (2 ^ (i % 64))) 0 (omega arith))
      ∙ bit_at_xor (elem words (i / 64)) (2 ^ (i % 64)) (i % 64)
      ∙ ap (λ (d : ℕ). (bit_at (elem words (i / 64)) (i % 64) + d) % 2) (bit_at-pow_same (i % 64))
      ∙ other (bit_at (elem words (i / 64)) (i % 64)) (bit_at-lt (elem words (i / 64)) (i % 64))

  pub flipped_there : (j : ℕ) → (j ≡ i → ⊥) → sign_in (flip_in i words) j ≡ sign_in words j
  unfolding sign_in flip_in
  flipped_there j other_place = ⊎_elim same_word other_word (cases_eq (j / 64) (i / 64))
    where
      w : ℕ
      w = bit_xor (elem words (i / 64)) (2 ^ (i % 64))

      same_word : j / 64 ≡ i / 64 → bit_at (elem (set words (i / 64) w) (j / 64)) (j % 64) ≡ bit_at (elem words (j / 64)) (j % 64)
      same_word e =
          let apart : j % 64 ≡ i % 64 → ⊥ = λ r. other_place (omega arith) in
          rw e
          (ap (λ (v : ℕ). bit_at v (j % 64)) (get_or-set_same words (i / 64) w 0 (omega arith))
          ∙ omega (arith, bit_at_xor (elem words (i / 64)) (2 ^ (i % 64)) (j % 64), bit_at-pow_other (i % 64) (j % 64) apart))

      other_word : (j / 64 ≡ i / 64 → ⊥) → bit_at (elem (set words (i / 64) w) (j / 64)) (j % 64) ≡ bit_at (elem words (j / 64)) (j % 64)
      other_word h = ap (λ (v : ℕ). bit_at v (j % 64)) (get_or-set_other words (i / 64) (j / 64) w 0 h)

  -- sign i of any m signs that the words hold is flipped
  pub unpacked_flip : (m : ℕ) → i < m → unpacked m (flip_in i words) ≡ flip_sign i (unpacked m words)
  unfolding flip_sign
  unpacked_flip m h =
      let x : List ℕ = unpacked m words in
      let y : ℕ = flip_byte (elem x i) in
      ext_get_or 0 (unpacked m (flip_in i words)) (set x i y)
      (length_unpacked m (flip_in i words) ∙ sym (length-set x i y ∙ length_unpacked m words))
      (λ j q.
      let j-in : j < m = omega (arith, length_unpacked m (flip_in i words)) in
      elem_unpacked m (flip_in i words) j j-in
      ∙ ⊎_elim
      (λ (e : j ≡ i).
      rw e (flipped_here ∙ sym (get_or-set_same x i y 0 (omega (arith, length_unpacked m words)) ∙ ap flip_byte (elem_unpacked m words i h))))
      (λ (n : j ≡ i → ⊥). flipped_there j n ∙ sym (get_or-set_other x i j y 0 n ∙ elem_unpacked m words j j-in))
      (cases_eq j i))

  -- and the digits behind the last sign stay 0
  pub tidy_flip : (m : ℕ) → i < m → Tidy m words → Tidy m (flip_in i words)
  tidy_flip m h t = record { unused = λ j q. flipped_there j (λ e. omega arith) ∙ t.unused j q }

  -- what `flip_in` leaves
  pub flipped_signs : Flipped i words (flip_in i words)
  flipped_signs = record { signs = unpacked_flip; tidy = tidy_flip }

  words_flip : ((k : ℕ) → elem words k < 2 ^ 64) → (k : ℕ) → elem (flip_in i words) k < 2 ^ 64
  unfolding flip_in
  words_flip small k = ⊎_elim here there (cases_eq k (i / 64))
    where
      w : ℕ
      w = bit_xor (elem words (i / 64)) (2 ^ (i % 64))

      here : k ≡ i / 64 → elem (set words (i / 64) w) k < 2 ^ 64
      here e = rw (e, get_or-set_same words (i / 64) w 0 (omega arith)) (xor_lt 64 (elem words (i / 64)) (2 ^ (i % 64)) (small (i / 64)) (pow-lt {j = 64} (omega arith)))

      there : (k ≡ i / 64 → ⊥) → elem (set words (i / 64) w) k < 2 ^ 64
      there n = rw (get_or-set_other words (i / 64) k w 0 n) (small k)

-- ---- tidy words are those of their signs

pub tidy_packed : (n : ℕ) (x : List ℕ) → Tidy (length x) (packed n x)
tidy_packed n x = record { unused = λ i h. ⊎_elim (inside i h) (outside i) (cases_lt i (64 * n)) }
  where
    inside : (i : ℕ) → length x ≤ i → i < 64 * n → sign_in (packed n x) i ≡ 0
    inside i h q = sign_packed n x i q ∙ ap sign_digit (get_or-eq_default x 0 h)

    outside : (i : ℕ) → 64 * n ≤ i → sign_in (packed n x) i ≡ 0
    outside i q = sign_outside (packed n x) i (omega (arith, length_packed n x))

pub packed_unpacked : (m : ℕ) (words : List ℕ) → ((k : ℕ) → elem words k < 2 ^ 64) → Tidy m words → words ≡ packed (length words) (unpacked m words)
packed_unpacked m words small t =
    same_words words (packed (length words) (unpacked m words)) (sym (length_packed (length words) (unpacked m words))) small (packed_words (length words) (unpacked m words))
    (λ i q.
    sym
    (sign_packed (length words) (unpacked m words) i q
    ∙ ⊎_elim
    (λ (h : i < m). ap sign_digit (elem_unpacked m words i h) ∙ sign_digit_bit (sign_in words i) (sign_lt words i))
    (λ (h : m ≤ i). ap sign_digit (get_or-eq_default (unpacked m words) 0 (omega (arith, length_unpacked m words))) ∙ sym (t.unused i h))
    (cases_lt i m)))

-- the flip of packed signs
pub flip_packed : (n : ℕ) (x : List ℕ) (i : ℕ) → length x ≤ 64 * n → i < length x → flip_in i (packed n x) ≡ packed n (flip_sign i x)
flip_packed n x i h q =
    let a : List ℕ = packed n x in
    let inside : i < 64 * length a = omega (arith, length_packed n x) in
    same_words (flip_in i a) (packed n (flip_sign i x))
    (length_flip_in i a ∙ length_packed n x ∙ sym (length_packed n (flip_sign i x)))
    (words_flip i a inside (packed_words n x)) (packed_words n (flip_sign i x))
    (λ j l.
    let j-in : j < 64 * n = omega (arith, length_flip_in i a, length_packed n x) in
    ⊎_elim
    (λ (e : j ≡ i).
    rw e
    (flipped_here i a inside ∙ ap flip_byte (sign_packed n x i (omega arith))
    ∙ sym (sign_packed n (flip_sign i x) i (omega arith) ∙ ap sign_digit (flip_sign_here i x q) ∙ digit_flip (elem x i))))
    (λ (d : j ≡ i → ⊥).
    flipped_there i a inside j d ∙ sign_packed n x j j-in
    ∙ sym (sign_packed n (flip_sign i x) j j-in ∙ ap sign_digit (flip_sign_there i x j d)))
    (cases_eq j i))

pub flip_byte_lt : (s : ℕ) → flip_byte s < 2
unfolding flip_byte
flip_byte_lt zero = omega arith
flip_byte_lt (suc s) = omega arith

pub binary_flip : (i : ℕ) (x : List ℕ) → Binary x → Binary (flip_sign i x)
binary_flip i x b = record { small = λ j. ⊎_elim (here j) (λ (d : j ≡ i → ⊥). rw (flip_sign_there i x j d) (b.small j)) (cases_eq j i) }
  where
    here : (j : ℕ) → j ≡ i → elem (flip_sign i x) j < 2
    here j e =
        rw e
        (⊎_elim (λ (h : i < length x). rw (flip_sign_here i x h) (flip_byte_lt (elem x i)))
        (λ (h : length x ≤ i). rw (get_or-eq_default (flip_sign i x) 0 {n = i} (omega (arith, length_flip_sign i x))) (omega arith))
        (cases_lt i (length x)))

-- what `pack` and `unpack` leave
pub packed_signs : (n : ℕ) (x : List ℕ) → length x ≤ 64 * n → Packs (length x) x (packed n x)
packed_signs n x h = record { signs = λ i q. sign_packed n x i (omega arith); tidy = tidy_packed n x }

pub tabulate_binary : (f : ℕ → ℕ) (m : ℕ) → ((i : ℕ) → f i < 2) → Binary (tabulate f m)
tabulate_binary f m h = record { small = all_tabulate (λ s. s < 2) f m (omega arith) h }

pub unpacked_binary : (m : ℕ) (words : List ℕ) → Binary (unpacked m words)
unfolding unpacked
unpacked_binary m words = tabulate_binary (sign_in words) m (sign_lt words)

-- the same signs, unpacked
pub same_signs : (m : ℕ) (a b : List ℕ) → ((j : ℕ) → j < m → sign_in a j ≡ sign_in b j) → unpacked m a ≡ unpacked m b
same_signs m a b e =
    ext_get_or 0 (unpacked m a) (unpacked m b) (length_unpacked m a ∙ sym (length_unpacked m b))
    (λ j q.
    let inside : j < m = omega (arith, length_unpacked m a) in
    elem_unpacked m a j inside ∙ e j inside ∙ sym (elem_unpacked m b j inside))
