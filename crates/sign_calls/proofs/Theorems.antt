-- What the calls are worth together, from what they promise alone: accepted packings hold the signs they were given (`packed_sign`), give them back
-- (`unpacked_back`, `same_back`) and leave unused bits 0 (`unused_zero`); and of two of them `distance` answers the number of signs in which the
-- choices differ (`packed_distance`). Assumes nothing.
use Rattle.std.specs.Prelude.{Result, Ok, Err}
use mathlib.Core.Path.{◌≡◌, refl, sym, ap, ◌∙◌, subst}
use mathlib.Core.Bool.{false}
use mathlib.Core.List.{List}
use Prim.Native.Nat.{ℕ, ◌*◌, ◌/◌, ◌≤◌, ◌<◌}
use native.Mathlib.Omega.{arith}
use lib.ListN.{length, take, drop, length-append}
use lib.Seq.{length-take-le, get_or-take, take_at}
use Rattle.laws.specs.Lists.{elem, tabulate}
use Rattle.laws.proofs.Made.{tabulate_ext}
use Rattle.tables.specs.Check.{bad_signs}
use Rattle.table_calls.proofs.Accepting.{accepted_is, signs_parts}
use Rattle.sign_words.specs.Signs.{sign_digit, Binary}
use Rattle.sign_words.specs.Packed.{sign_in, unpacked, packed, Tidy}
use Rattle.sign_words.specs.Distance.{ones_apart, places_apart}
use Rattle.sign_words.proofs.Sizes.{enough_words}
use Rattle.sign_words.proofs.PackedLaws.{length_packed, sign_packed, tidy_packed, unpacked_packed}
use Rattle.sign_words.proofs.DistanceLaws.{packed_apart}
use Rattle.sign_words.specs.Size.{sign_words}
use Rattle.sign_calls.specs.Numbers.{distance_number}
use Rattle.sign_calls.specs.Answers.{distance_answer, PacksSigns}
use Rattle.sign_calls.proofs.Accepting.{pack_accepted, distance_passes, first_words}

-- an accepted call of `pack_signs`
module _ (m : ℕ) (signs words : List ℕ) {words' : List ℕ} (p : PacksSigns m signs words 0 words') where
  good : bad_signs m ≡ false
  good = (pack_accepted m signs words (sym p.numbered)).0

  fit : m ≤ 64 * sign_words m
  fit = enough_words m (signs_parts m good).1

  given : length (take m signs) ≡ m
  given = length-take-le m signs (pack_accepted m signs words (sym p.numbered)).1

  -- the words of the choice are the packed signs
  pub choice_is : take (sign_words m) words' ≡ packed (sign_words m) (take m signs)
  choice_is =
      let front : List ℕ = packed (sign_words m) (take m signs) in
      rw (p.accepted refl) (take_at front (drop (length front) words) (sign_words m) (length_packed (sign_words m) (take m signs)))

  pub choice_there : sign_words m ≤ length words'
  choice_there =
      let front : List ℕ = packed (sign_words m) (take m signs) in
      rw (p.accepted refl) (omega (arith, length-append front (drop (length front) words), length_packed (sign_words m) (take m signs)))

  -- sign i of the words is sign i of the bytes
  pub packed_sign : (i : ℕ) → i < m → sign_in words' i ≡ sign_digit (elem signs i)
  unfolding sign_in
  packed_sign i h =
      let there : i / 64 < sign_words m = omega (arith, fit) in
      let here : sign_in words' i ≡ sign_in (take (sign_words m) words') i = rw (get_or-take (sign_words m) words' (i / 64) 0 there) in
      here
      ∙ ap (λ (w : List ℕ). sign_in w i) choice_is
      ∙ sign_packed (sign_words m) (take m signs) i (omega (arith, fit))
      ∙ ap sign_digit (get_or-take m signs i 0 h)

  -- unpacking gives the signs back, − as 1
  pub unpacked_back : unpacked m words' ≡ tabulate (λ i. sign_digit (elem signs i)) m
  unfolding unpacked
  unpacked_back = tabulate_ext (sign_in words') (λ i. sign_digit (elem signs i)) m packed_sign

  -- bytes 0 and 1 as they were
  pub same_back : Binary (take m signs) → unpacked m words' ≡ take m signs
  unfolding unpacked
  same_back b =
      let packs : unpacked m (packed (sign_words m) (take m signs)) ≡ take m signs =
      subst (λ (n : ℕ). unpacked n (packed (sign_words m) (take m signs)) ≡ take m signs) given (unpacked_packed (sign_words m) (take m signs) (rw given fit) b) in
      tabulate_ext (sign_in words') (sign_in (packed (sign_words m) (take m signs))) m
      (λ i h. packed_sign i h ∙ ap sign_digit (sym (get_or-take m signs i 0 h)) ∙ sym (sign_packed (sign_words m) (take m signs) i (omega (arith, fit))))
      ∙ packs

  -- unused bits are 0
  pub unused_zero : Tidy m (take (sign_words m) words')
  unused_zero =
      subst (Tidy m) (sym choice_is)
      (subst (λ (n : ℕ). Tidy n (packed (sign_words m) (take m signs))) given (tidy_packed (sign_words m) (take m signs)))

-- two choices that `pack_signs` packed, and what `distance` answers of them: the number of signs in which they differ
pub packed_distance : (m : ℕ) (signs other words room : List ℕ) {x y : List ℕ} {answer : Result ℕ ℕ}
    → PacksSigns m signs words 0 x → PacksSigns m other room 0 y
    → answer ≡ distance_answer (distance_number m x y) (ones_apart (sign_words m) x y)
    → answer ≡ Ok (places_apart (take m signs) (take m other))
packed_distance m signs other words room {x} {y} p q is =
    let long : sign_words m ≤ length x = choice_there m signs words p in
    let ok : distance_number m x y ≡ 0 = distance_passes m x y (good m signs words p) long (choice_there m other room q) in
    let apart : ones_apart (sign_words m) x y ≡ places_apart (take m signs) (take m other) =
    sym (first_words (sign_words m) x y long)
    ∙ rw (choice_is m signs words p, choice_is m other room q, length_packed (sign_words m) (take m signs))
    (packed_apart (sign_words m) (take m signs) (take m other) (given m signs words p ∙ sym (given m other room q)) (rw (given m signs words p) (fit m signs words p))) in
    is ∙ sym (accepted_is _ Err _ refl ok) ∙ ap Ok apart
