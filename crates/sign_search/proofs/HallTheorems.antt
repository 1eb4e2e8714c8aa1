-- What the search finds for the quadratic costs H and the linear costs c, said of costs and choices: no choice beside it costs less.
-- Assumes nothing.
use Prim.Native.Nat.{ℕ, zero, suc, ◌≤◌, ◌<◌}
use native.Mathlib.Decide.{ℕ_discrete}
use native.Mathlib.Omega.{arith}
use mathlib.Core.Bool.{cond}
use mathlib.Core.List.{List}
use mathlib.Core.Path.{◌≡◌, refl, sym, subst₂}
use borrow.Author.Tests.{eq-eqb, ne_eqb}
use lib.IntN.{ℤ, pos, ◌-ℤ◌}
use lib.Signed.{◌≤ℤ◌}
use lib.ListN.{length}
use Rattle.laws.specs.Lists.{elem}
use Rattle.tables.specs.Table.{Table, value_at, same_sign}
use Rattle.tables.specs.Cost.{cost_eighths, decoded, decoded_byte}
use Rattle.tables.specs.Check.{Hall}
use Rattle.tables.proofs.Choices.{cost_ext}
use Rattle.sign_table.specs.SignTable.{sign_table}
use Rattle.sign_table.proofs.Theorems.{objective_cost}
use Rattle.sign_table.proofs.Sizes.{sign_range, sign_rising, sign_mirrored}
use Rattle.sign_words.proofs.PackedLaws.{flip_sign_here, flip_sign_there}
use Rattle.local_search.specs.Level.{flip_byte, flip_sign}
use Rattle.sign_search.specs.Search.{objective_in, Mirrors, beam_search}
use Rattle.sign_search.specs.Choices.{one_moved, all_moved}
use Rattle.sign_search.proofs.Theorems.{rising_mirrored, answer_long, no_flip_lowers}

-- ---- what a flipped sign decodes to

moved_left : (a b : ℕ) → pos (cond (same_sign (flip_byte a) b) 0 1) ≡ pos 1 -ℤ pos (cond (same_sign a b) 0 1)
unfolding flip_byte
moved_left zero zero = refl
moved_left zero (suc b) = refl
moved_left (suc a) zero = refl
moved_left (suc a) (suc b) = refl

moved_right : (a b : ℕ) → pos (cond (same_sign a (flip_byte b)) 0 1) ≡ pos 1 -ℤ pos (cond (same_sign a b) 0 1)
unfolding flip_byte
moved_right zero zero = refl
moved_right zero (suc b) = refl
moved_right (suc a) zero = refl
moved_right (suc a) (suc b) = refl

module _ (n : ℕ) (x : List ℕ) (long : length x ≡ suc n) where
  -- a wagon's sign moves the wagon
  pub decoded_wagon : (i j : ℕ) → i < n → j < n → decoded n (flip_sign i x) j ≡ one_moved i (decoded n x) j
  unfolding decoded_byte one_moved
  decoded_wagon i j h k = go (ℕ_discrete i j)
    where
      go : Dec (i ≡ j) → decoded n (flip_sign i x) j ≡ one_moved i (decoded n x) j
      go (yes e) = rw (← e, eq-eqb i i refl, flip_sign_here i x (omega arith), flip_sign_there i x n (λ q. omega arith)) (moved_left (elem x i) (elem x n))
      go (no d) = rw (ne_eqb i j d, flip_sign_there i x j (λ q. d (sym q)), flip_sign_there i x n (λ q. omega arith))

  -- the anchor's moves all
  pub decoded_anchor : (j : ℕ) → j < n → decoded n (flip_sign n x) j ≡ all_moved (decoded n x) j
  unfolding decoded_byte all_moved
  decoded_anchor j k = rw (flip_sign_here n x (omega arith), flip_sign_there n x j (λ q. omega arith)) (moved_right (elem x j) (elem x n))

-- ---- the theorems

module _ {most capacity limit n : ℕ} {h : Table} {c : ℕ → ℤ} (hall : Hall most capacity limit n h c) where
  pub hall_mirrors : Mirrors (suc n) (sign_table n h c)
  hall_mirrors = rising_mirrored (sign_range n h c) (sign_rising n h c) (sign_mirrored n h c hall.rising hall.mirrored)

  -- eight times the cost of a choice
  abbrev cost : (ℕ → ℤ) → ℤ
  cost b = cost_eighths n (value_at h) c b

  -- signs cost what they decode to
  pub signs_cost : (x : List ℕ) → objective_in (sign_table n h c) x ≡ cost (decoded n x)
  unfolding objective_in
  signs_cost x = objective_cost hall x

  module _ (W : ℕ) (start : List ℕ) (some : 1 ≤ W) (long : length start ≡ suc n) where
    abbrev answer : List ℕ
    answer = (beam_search (sign_table n h c) W start).answer

    answer_size : length answer ≡ suc n
    answer_size = answer_long hall_mirrors start long W some

    beside : (i : ℕ) → i < suc n → cost (decoded n answer) ≤ℤ cost (decoded n (flip_sign i answer))
    beside i q = subst₂ ◌≤ℤ◌ (signs_cost answer) (signs_cost (flip_sign i answer)) (no_flip_lowers hall_mirrors start long W some i q)

    -- no choice that differs in one wagon costs less
    pub one_wagon : (i : ℕ) → i < n → cost (decoded n answer) ≤ℤ cost (one_moved i (decoded n answer))
    one_wagon i q =
        subst₂ ◌≤ℤ◌ refl (cost_ext n (value_at h) c (λ j k. decoded_wagon n answer answer_size i j q k)) (beside i (omega arith))

    -- none that differs in all wagons costs less
    pub all_wagons : cost (decoded n answer) ≤ℤ cost (all_moved (decoded n answer))
    all_wagons =
        subst₂ ◌≤ℤ◌ refl (cost_ext n (value_at h) c (λ j k. decoded_anchor n answer answer_size j k)) (beside n (omega arith))
