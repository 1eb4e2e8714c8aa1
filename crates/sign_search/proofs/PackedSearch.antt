-- The packed search equals the byte search: same answer, same objective, same rounds, for every start and width. Assumes nothing.
use Prim.Native.Nat.{ℕ, ◌*◌, ◌≤◌, ◌<◌}
use native.Mathlib.Omega.{arith}
use mathlib.Core.List.{List}
use mathlib.Core.Path.{◌≡◌, refl, ap, ap₂, ◌∙◌, subst}
use lib.ListN.{length}
use Rattle.std.specs.List.{AllZip}
use Rattle.sign_words.specs.Signs.{flip_sign, Binary}
use Rattle.sign_words.specs.Packed.{unpacked, packed, flip_in}
use Rattle.sign_words.proofs.PackedLaws.{unpacked_packed, flip_packed, binary_flip}
use Rattle.local_search.specs.SignSearch.{lower, improving, improves, sign_search}
use Rattle.local_search.proofs.LevelLaws.{flipped_length}
use Rattle.local_search.proofs.Same.{same_searched}
use Rattle.local_search.proofs.SignLaws.{same_improving}
use Rattle.tables.specs.Table.{Table}
use Rattle.sign_search.specs.Search.{objective_in, change_in, height_in, beam_search, packed_search, SameFound}

module _ (t : Table) (n m : ℕ) (room : m ≤ 64 * n) where
  -- w are the words of x
  pub record Holds (w x : List ℕ) : Type 0 where
    pub words : w ≡ packed n x
    pub many : length x ≡ m
    pub binary : Binary x

  out_again : {w x : List ℕ} → Holds w x → unpacked m w ≡ x
  out_again {w} {x} h =
      ap (unpacked m) h.words
      ∙ subst (λ (k : ℕ). unpacked k (packed n x) ≡ x) h.many (unpacked_packed n x (omega arith) h.binary)

  orders : (a b x y : List ℕ) → Holds a x → Holds b y → lower (objective_in t) (unpacked m a) (unpacked m b) ≡ lower (objective_in t) x y
  orders a b x y p q = ap₂ (lower (objective_in t)) (out_again p) (out_again q)

  flips : (w x : List ℕ) (i : ℕ) → i < m → Holds w x → Holds (flip_in i w) (flip_sign i x)
  flips w x i h p = record {
    words = ap (flip_in i) p.words ∙ flip_packed n x i (omega arith) (omega arith);
    many = flipped_length i x ∙ p.many;
    binary = binary_flip i x p.binary;
  }

  kids : (w x : List ℕ) → Holds w x
      → AllZip Holds (improving (λ a i. improves (change_in t) (unpacked m a) i) flip_in m w) (improving (improves (change_in t)) flip_sign m x)
  kids w x p =
      same_improving Holds (λ a i. improves (change_in t) (unpacked m a) i) flip_in (improves (change_in t)) flip_sign w x m
      (λ i h. (ap (λ (y : List ℕ). improves (change_in t) y i) (out_again p), flips w x i h p))

  same : (W : ℕ) (x : List ℕ) → length x ≡ m → Binary x
      → Holds (packed_search t m W (packed n x)).answer (sign_search (objective_in t) (improves (change_in t)) m W (height_in t x) x).answer
      × ((packed_search t m W (packed n x)).rounds ≡ (sign_search (objective_in t) (improves (change_in t)) m W (height_in t x) x).rounds)
  unfolding packed_search sign_search
  same W x many b =
      let start : Holds (packed n x) x = record { words = refl; many = many; binary = b } in
      rw (out_again start)
      (same_searched Holds (λ a b. lower (objective_in t) (unpacked m a) (unpacked m b)) (lower (objective_in t)) (λ a b x y. orders a b x y)
      (improving (λ a i. improves (change_in t) (unpacked m a) i) flip_in m) (improving (improves (change_in t)) flip_sign m) kids W (height_in t x) (packed n x) x start)

pub packed_is_byte : (t : Table) (n W : ℕ) (x : List ℕ) → length x ≤ 64 * n → Binary x → SameFound t n W x
unfolding beam_search
packed_is_byte t n W x room b =
    let s = same t n (length x) room W x refl b in
    record { answer = s.0.words; objective = ap (objective_in t) (out_again t n (length x) room s.0); rounds = s.1 }
