-- The choice at hand, in bytes and in words, after a flip and at the end of a move. Assumes nothing.
use Prim.Native.Nat.{ℕ, ◌*◌, ◌≤◌, ◌<◌}
use native.Mathlib.Omega.{arith}
use mathlib.Core.List.{List}
use mathlib.Core.Path.{◌≡◌, sym, ap, ◌∙◌}
use lib.IntN.{ℤ}
use lib.ListN.{length}
use Rattle.sign_words.specs.Signs.{flip_sign}
use Rattle.sign_words.specs.Packed.{sign_in, unpacked, flip_in}
use Rattle.sign_words.proofs.PackedLaws.{unpacked_flip, same_signs}
use Rattle.local_search.proofs.LevelLaws.{flipped_length}
use Rattle.tables.specs.Table.{Table}
use Rattle.sign_search.specs.Clauses.{Changes, AtHand}

-- sign i flipped in both
pub hand_flipped : (t : Table) (x x' row row' : List ℕ) (after : List ℤ) (i : ℕ) → i < length x → length x ≤ 64 * length row → unpacked (length x) row ≡ x
    → x' ≡ flip_sign i x → row' ≡ flip_in i row → Changes t x' after → AtHand t x' row' after
hand_flipped t x x' row row' after i h held is e f changes =
    let long : length x' ≡ length x = ap length e ∙ flipped_length i x in
    record {
      changes_are = changes;
      row_is = ap (λ (k : ℕ). unpacked k row') long ∙ ap (unpacked (length x)) f
          ∙ unpacked_flip i row (omega arith) (length x) h ∙ ap (flip_sign i) is ∙ sym e;
    }

-- no sign is left in which it differs from the target
pub hand_moved : (t : Table) (x row target : List ℕ) (changes : List ℤ) (m : ℕ) → length x ≡ m → AtHand t x row changes
    → ((j : ℕ) → j < m → sign_in row j ≡ sign_in target j) → x ≡ unpacked m target
hand_moved t x row target changes m long hand same = sym hand.row_is ∙ ap (λ (k : ℕ). unpacked k row) long ∙ same_signs m row target same
