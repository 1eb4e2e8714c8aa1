-- What holds where a call is accepted, and how what it leaves is put together.
-- Assumes nothing.
use mathlib.Core.Path.{◌≡◌, refl, sym, ap, ◌∙◌}
use mathlib.Core.Bool.{false}
use mathlib.Core.List.{List, ◌++◌}
use Prim.Native.Nat.{ℕ, ◌*◌, ◌≤◌, ◌<◌}
use native.Mathlib.Omega.{arith}
use borrow.Author.Tests.{le-ltb}
use lib.Bits.{bit_xor}
use lib.Count.{ones}
use lib.ListN.{length, take, drop}
use lib.Seq.{length-take-le, get_or-take}
use Rattle.laws.specs.Lists.{elem}
use Rattle.laws.specs.Sum.{total}
use Rattle.laws.proofs.Any.{any_head, any_rest, any_not, any_none}
use Rattle.laws.proofs.Refusal.{clear, first_skip, first_end}
use Rattle.laws.proofs.Totals.{total_ext}
use Rattle.tables.specs.Check.{bad_signs}
use Rattle.tables.proofs.Checks.{long_enough}
use Rattle.table_calls.proofs.Accepting.{two_parts, signs_parts, short_open}
use Rattle.sign_words.specs.Packed.{packed}
use Rattle.sign_words.specs.Distance.{ones_apart}
use Rattle.sign_words.proofs.Sizes.{few_words, enough_words}
use Rattle.sign_words.proofs.PackedLaws.{length_packed}
use Rattle.sign_words.specs.Size.{sign_words}
use Rattle.sign_calls.specs.Numbers.{distance_short, distance_number, pack_short, pack_number}
use Rattle.sign_calls.specs.Answers.{PacksSigns}

-- ---- `distance`

module _ (m : ℕ) (x y : List ℕ) where
  pub distance_accepted : {number count : ℕ} → number ≡ distance_number m x y → number ≡ 0 → count ≡ sign_words m → (count ≤ length x) × (count ≤ length y) × (count < 65536)
  unfolding distance_number distance_short
  distance_accepted e z count =
      let (s, k) = two_parts (distance_short m x y) _ (sym e ∙ z) in
      let good : bad_signs m ≡ false = clear (bad_signs m) 12 k in
      rw count (long_enough (any_head _ _ s) good, long_enough (any_head _ _ (any_rest _ _ s)) good, omega (arith, few_words m))

  pub distance_passes : bad_signs m ≡ false → sign_words m ≤ length x → sign_words m ≤ length y → distance_number m x y ≡ 0
  unfolding distance_number distance_short
  distance_passes good a b =
      first_skip 31 _ _ (any_not _ _ (short_open _ _ good ∙ le-ltb _ _ a) (any_not _ _ (short_open _ _ good ∙ le-ltb _ _ b) any_none))
      ∙ first_skip 13 _ _ good
      ∙ first_end

-- words behind the first n aren't counted
pub first_words : (n : ℕ) (x y : List ℕ) → n ≤ length x → ones_apart (length (take n x)) (take n x) (take n y) ≡ ones_apart n x y
unfolding ones_apart
first_words n x y h =
    ap (λ (k : ℕ). total k (λ k. ones (bit_xor (elem (take n x) k) (elem (take n y) k)))) (length-take-le n x h)
    ∙ total_ext n (λ k. ones (bit_xor (elem (take n x) k) (elem (take n y) k))) (λ k. ones (bit_xor (elem x k) (elem y k)))
    (λ k l. rw (get_or-take n x k 0 l, get_or-take n y k 0 l))

-- ---- `pack_signs`

module _ (m : ℕ) (signs words : List ℕ) where
  pub pack_accepted : pack_number m signs words ≡ 0 → (bad_signs m ≡ false) × (m ≤ length signs) × (sign_words m ≤ length words)
  unfolding pack_number pack_short
  pack_accepted ok =
      let (s, k) = two_parts (pack_short m signs words) _ ok in
      let good : bad_signs m ≡ false = clear (bad_signs m) 12 k in
      (good, long_enough (any_head _ _ s) good, long_enough (any_head _ _ (any_rest _ _ s)) good)

  pub pack_room : {number count : ℕ} → number ≡ pack_number m signs words → number ≡ 0 → count ≡ sign_words m
      → (m ≤ length signs) × (count ≤ length words) × (count < 65536) × (m ≤ 64 * count)
  pack_room e z count =
      let (good, long, room) = pack_accepted (sym e ∙ z) in
      rw count (long, room, omega (arith, few_words m), enough_words m (signs_parts m good).1)

  pub packs_refused : {number : ℕ} → number ≡ pack_number m signs words → (number ≡ 0 → ⊥) → PacksSigns m signs words number words
  packs_refused e n = record { numbered = e; refused = λ _. refl; accepted = λ z. absurd (n z) }

  -- the words of the choice written by themselves, and those behind them as they were
  pub packs_accepted : {number count : ℕ} {front : List ℕ} → number ≡ pack_number m signs words → number ≡ 0 → count ≡ sign_words m
      → front ≡ packed (length (take count words)) (take m signs) → PacksSigns m signs words 0 (front ++ drop count words)
  packs_accepted e z count is =
      let ok : pack_number m signs words ≡ 0 = sym e ∙ z in
      record {
        numbered = sym ok;
        refused = λ n. absurd (n refl);
        accepted = λ _. rw (is, count, length-take-le (sign_words m) words (pack_accepted ok).2, length_packed (sign_words m) (take m signs));
      }
