-- What 02 promises holds of every choice that the search finds. Assumes nothing.
use Prim.Native.Nat.{ℕ, zero, suc, ◌+◌, ◌*◌, ◌≤◌, ◌<◌}
use native.Mathlib.Decide.{dec_lt}
use native.Mathlib.Omega.{arith}
use native.Mathlib.Nat.{add-zero}
use borrow.Author.Tests.{le-leb, leb-true, eqb-true, both_ways}
use mathlib.Core.Bool.{Bool, true, false, cond}
use mathlib.Core.List.{List}
use mathlib.Core.Path.{◌≡◌, refl, sym, ap, ap₂, subst, ◌∙◌}
use lib.Dec.{eqb}
use lib.IntN.{ℤ, pos, nat_abs, ◌+ℤ◌, ◌-ℤ◌}
use lib.Signed.{◌≤ℤ◌}
use lib.ListN.{length}
use Rattle.laws.specs.Lists.{elem, over}
use Rattle.laws.specs.Sum.{total}
use Rattle.laws.proofs.Sums.{total_at}
use Rattle.laws.proofs.Totals.{total_ext}
use Rattle.std.proofs.lemmas.Int.{ints}
use Rattle.tables.specs.Table.{Table, value_at, same_sign}
use Rattle.tables.specs.Check.{Hall}
use Rattle.tables.specs.Cost.{decoded, decoded_byte, bit, choice_at}
use Rattle.tables.proofs.Choices.{cost_ext}
use Rattle.sign_table.specs.SignTable.{sign_table}
use Rattle.sign_words.specs.Signs.{flip_sign, sign_digit, Binary}
use Rattle.sign_words.specs.Distance.{places_apart}
use Rattle.sign_words.proofs.PackedLaws.{binary_flip, flip_sign_there}
use Rattle.local_search.proofs.LevelLaws.{flipped_length}
use Rattle.local_search.specs.LocalSearch.{Found}
use Rattle.sign_search.specs.Within.{Bounds, bounds, near, within}
use Rattle.sign_search.specs.Search.{objective_in, limited_search}
use Rattle.sign_search.proofs.NearLaws.{differ, apart_self, within_first, within_behind}
use Rattle.sign_search.proofs.Theorems.{limited_holds, limited_fall, limited_no_flip}
use Rattle.sign_search.proofs.HallTheorems.{hall_mirrors, signs_cost, decoded_wagon}
use Rattle.finalize.specs.Finalize.{cost_of, choice_of}
use Rattle.finalize.specs.Demand3.{DifferInOne}
use Rattle.finalize.proofs.Demand3.{choice_byte, choice_at_lem, moved_one, fall}
use Rattle.limited_search.specs.Search.{present_signs, limited_found}
use Rattle.limited_search.specs.Near.{wagons_moved, Near}
use Rattle.limited_search.proofs.Starts.{sign_there, sign_behind, start_size, start_sign, start_binary}

-- ---- what a child within the bounds is, and that such a one is allowed

pub within_means : (b : Bounds) (x : List ℕ) (i : ℕ) → within b x i ≡ true → (i < b.flips) × (places_apart (flip_sign i x) b.from ≤ b.most)
unfolding near
within_means b x i e = go (dec_lt i b.flips)
  where
    go : Dec (i < b.flips) → (i < b.flips) × (places_apart (flip_sign i x) b.from ≤ b.most)
    go (yes h) = (h, leb-true (places_apart (flip_sign i x) b.from) b.most (sym (within_first b x i h) ∙ e))
    go (no d) = absurd (both_ways _ (within_behind b x i (omega arith)) e)

pub within_allowed : (b : Bounds) (x : List ℕ) (i : ℕ) → i < b.flips → places_apart (flip_sign i x) b.from ≤ b.most → within b x i ≡ true
unfolding near
within_allowed b x i h l = within_first b x i h ∙ le-leb (places_apart (flip_sign i x) b.from) b.most l

-- ---- signs and bytes, where the anchor is +

digit_of : (s : ℕ) → cond (same_sign s 0) 0 1 ≡ sign_digit s
digit_of zero = refl
digit_of (suc s) = refl

digit_bit : (s : ℕ) → s ≤ 1 → sign_digit s ≡ s
digit_bit zero h = refl
digit_bit (suc zero) h = refl
digit_bit (suc (suc s)) h = absurd (omega arith)

bit_digit : (s : ℕ) → bit s ≡ pos (sign_digit s)
bit_digit zero = refl
bit_digit (suc s) = refl

pub decoded_digit : (n : ℕ) (x : List ℕ) (j : ℕ) → elem x n ≡ 0 → decoded_byte n x j ≡ sign_digit (elem x j)
unfolding decoded_byte
decoded_digit n x j e = ap (λ (s : ℕ). cond (same_sign (elem x j) s) 0 1) e ∙ digit_of (elem x j)

-- the distance of two choices of signs whose anchors are + is the number of wagons that stand in another store
pub moved_is : (n : ℕ) (x y b p : List ℕ) → length x ≡ suc n → elem x n ≡ 0 → elem y n ≡ 0
    → ((j : ℕ) → j < n → sign_digit (elem x j) ≡ sign_digit (elem b j)) → ((j : ℕ) → j < n → sign_digit (elem y j) ≡ sign_digit (elem p j)) → places_apart x y ≡ wagons_moved n b p
unfolding places_apart wagons_moved total
moved_is n x y b p long ex ey bx py =
    ap (λ (m : ℕ). total m (differ x y)) long
    ∙ ap₂ ◌+◌ (total_ext n (differ x y) (differ b p) (λ j h. ap₂ (λ (s t : ℕ). unlike s t) (bx j h) (py j h))) same
    ∙ add-zero (total n (differ b p))
  where
    unlike : ℕ → ℕ → ℕ
    unlike s t = cond (eqb s t) 0 1

    same : differ x y n ≡ 0
    same = ap₂ (λ (s t : ℕ). cond (eqb (sign_digit s) (sign_digit t)) 0 1) ex ey

-- ---- choices at distance 0

abbrev bit_of : Bool → ℕ
bit_of t = cond t 0 1

abbrev unlike_of : ℕ → ℕ → ℕ
unlike_of a b = bit_of (eqb a b)

equal_digits : (a b : ℕ) → unlike_of a b ≡ 0 → a ≡ b
equal_digits a b e = go (eqb a b) refl e
  where
    go : (t : Bool) → eqb a b ≡ t → bit_of t ≡ 0 → a ≡ b
    go true q z = eqb-true a b q
    go false q z = absurd (omega arith)

pub apart_nowhere : (x y : List ℕ) → places_apart x y ≤ 0 → (i : ℕ) → i < length x → sign_digit (elem x i) ≡ sign_digit (elem y i)
unfolding places_apart
apart_nowhere x y e i h = let none : differ x y i ≡ 0 = omega (arith, total_at (length x) i (differ x y) h) in equal_digits (sign_digit (elem x i)) (sign_digit (elem y i)) none

-- ---- the theorem

module _ {most capacity limit n : ℕ} {h : Table} {c : ℕ → ℤ} (hall : Hall most capacity limit n h c) (p : List ℕ) (low : (i : ℕ) → i < n → elem p i ≤ 1)
    (k W : ℕ) (some : 1 ≤ W) where
  abbrev t : Table
  t = sign_table n h c

  abbrev start : List ℕ
  start = present_signs n p

  abbrev b : Bounds
  b = bounds n k start

  -- what every choice that is reached keeps
  pub record Reached (x : List ℕ) : Type 0 where
    pub long : length x ≡ suc n
    pub anchor : elem x n ≡ 0
    pub close : places_apart x start ≤ k
    pub binary : Binary x

  start_anchor : elem start n ≡ 0
  start_anchor = start_sign n p n (omega arith) ∙ sign_behind n p n (omega arith)

  start_reached : Reached start
  start_reached = record { long = start_size n p; anchor = start_anchor; close = omega (arith, apart_self start); binary = start_binary n p low }

  reaches : (x : List ℕ) (i : ℕ) → length x ≡ suc n → i < suc n → Reached x → within b x i ≡ true → Reached (flip_sign i x)
  reaches x i l q r w =
      let m = within_means b x i w in
      record { long = flipped_length i x ∙ r.long; anchor = flip_sign_there i x n (λ e. omega arith) ∙ r.anchor; close = m.1; binary = binary_flip i x r.binary }

  abbrev found : Found (List ℕ)
  found = limited_search t (within b) W start

  abbrev answer : List ℕ
  answer = found.answer

  reached : Reached answer
  reached = limited_holds (hall_mirrors hall) start (start_size n p) (within b) Reached reaches start_reached W some

  -- ---- the choice in a slice

  module _ (xs : List ℕ) where
    abbrev choice : List ℕ
    choice = over (choice_of n answer) xs

    byte_is : (j : ℕ) → j < n → elem choice j ≡ elem answer j
    byte_is j q =
        choice_byte n answer xs j q ∙ decoded_digit n answer j reached.anchor ∙ digit_bit (elem answer j) (omega (arith, reached.binary.small j))

    start_digit : (j : ℕ) → j < n → elem start j ≡ elem p j
    start_digit j q = start_sign n p j (omega arith) ∙ sign_there n p j q

    decoded_at : (x : List ℕ) → elem x n ≡ 0 → (j : ℕ) → decoded n x j ≡ pos (sign_digit (elem x j))
    decoded_at x e j = ap pos (decoded_digit n x j e)

    start_cost : objective_in t start ≡ cost_of n h c p
    start_cost =
        signs_cost hall start
        ∙ cost_ext n (value_at h) c (λ j q. decoded_at start start_anchor j ∙ ap (λ (s : ℕ). pos (sign_digit s)) (start_digit j q) ∙ sym (bit_digit (elem p j)))

    falls : (objective_in t answer +ℤ pos (4 * found.rounds)) ≤ℤ objective_in t start
    falls = limited_fall (hall_mirrors hall) start (start_size n p) (within b) Reached reaches start_reached W some

    no_dearer : objective_in t answer ≤ℤ cost_of n h c p
    no_dearer = subst (λ (z : ℤ). objective_in t answer ≤ℤ z) start_cost (omega (arith, ints, falls))

    -- ---- a choice that differs in one wagon

    module _ (b' : List ℕ) (d : DifferInOne n choice b') where
      abbrev other : List ℕ
      other = flip_sign d.wagon answer

      other_at : (j : ℕ) → j < n → decoded n other j ≡ choice_at b' j
      other_at j q =
          decoded_wagon n answer reached.long d.wagon j d.is_one q
          ∙ moved_one n choice b' (decoded n answer) (λ i l. choice_at_lem n answer xs i l) d j q

      other_anchor : elem other n ≡ 0
      other_anchor = flip_sign_there d.wagon answer n (λ e. omega arith) ∙ reached.anchor

      other_digit : (j : ℕ) → j < n → sign_digit (elem other j) ≡ sign_digit (elem b' j)
      other_digit j q = ap nat_abs (sym (decoded_at other other_anchor j) ∙ other_at j q ∙ bit_digit (elem b' j))

      allowed : wagons_moved n b' p ≤ k → within b answer d.wagon ≡ true
      allowed l =
          within_allowed b answer d.wagon d.is_one
          (subst (λ (s : ℕ). s ≤ k)
          (sym (moved_is n other start b' p (flipped_length d.wagon answer ∙ reached.long) other_anchor start_anchor other_digit (λ j q. ap sign_digit (start_digit j q)))) l)

      one_wagon : wagons_moved n b' p ≤ k → objective_in t answer ≤ℤ cost_of n h c b'
      one_wagon l =
          subst (λ (z : ℤ). objective_in t answer ≤ℤ z) (signs_cost hall other ∙ cost_ext n (value_at h) c other_at)
          (limited_no_flip (hall_mirrors hall) start (start_size n p) (within b) Reached reaches start_reached W some d.wagon (omega arith) (allowed l))

    -- ---- no wagon moved

    none_moved : k ≡ 0 → (i : ℕ) → i < n → elem choice i ≡ elem p i
    none_moved z i q =
        byte_is i q ∙ sym (digit_bit (elem answer i) (omega (arith, reached.binary.small i)))
        ∙ same_at z i (omega arith) ∙ digit_bit (elem start i) (omega (arith, (start_binary n p low).small i)) ∙ start_digit i q
      where
        same_at : k ≡ 0 → (i : ℕ) → i < suc n → sign_digit (elem answer i) ≡ sign_digit (elem start i)
        same_at z i l = apart_nowhere answer start (omega (arith, reached.close)) i (omega (arith, reached.long))

    pub near_choice : Near n h c p k choice (objective_in t answer) found.rounds
    near_choice = record {
      bytes = λ j q. omega (arith, byte_is j q, reached.binary.small j);
      within_k =
          subst (λ (d : ℕ). d ≤ k)
          (moved_is n answer start choice p reached.long reached.anchor start_anchor (λ j q. ap sign_digit (sym (byte_is j q))) (λ j q. ap sign_digit (start_digit j q))) reached.close;
      cost_is = signs_cost hall answer ∙ cost_ext n (value_at h) c (λ j q. sym (choice_at_lem n answer xs j q));
      no_dearer = no_dearer;
      one_wagon = λ b' d l. one_wagon b' d l;
      none_moved = none_moved;
      rounds_few = subst (λ (z : ℤ). pos (4 * found.rounds) ≤ℤ (z -ℤ objective_in t answer)) start_cost (fall (objective_in t answer) (objective_in t start) (4 * found.rounds) falls);
    }

  pub near_found : (xs : List ℕ) → Near n h c p k (over (choice_of n (limited_found t n p k W).answer) xs) (objective_in t (limited_found t n p k W).answer) (limited_found t n p k W).rounds
  unfolding limited_found
  near_found xs = near_choice xs
