-- A slice written part after part.
--     put_next      one part right after another
--     put_front     what is written from the start on is written over the front
--     put_written   a number written byte by byte, the last first
--     fields_next   numbers one behind the other, with one more
-- Assumes nothing.
use Prim.Native.Nat.{ℕ, zero, suc, ◌+◌, ◌-◌, ◌/◌, ◌%◌, ◌<◌, ◌≤◌}
use mathlib.Core.Path.{◌≡◌, sym, ap, ◌∙◌}
use mathlib.Core.List.{List, [], ◌∷◌, ◌++◌, append_assoc}
use native.Mathlib.Omega.{arith}
use native.Mathlib.Nat.{not-suc-le-zero, zero-add}
use native.Mathlib.Numerals.{add-one}
use lib.ListN.{length, get_or, set, take, drop, length-set, length-append}
use lib.Seq.{length-take-le, take-set-le, drop-set-lt, drop-cons, get_or-set_same, append_snoc, take_at, drop_at, drop-drop, paste-zero, take-suc}
use Rattle.std.proofs.lemmas.List.{flat_map_more}
use Rattle.std.proofs.lemmas.List.Folds.{length-flat_map-take}
use Rattle.laws.specs.Lists.{over}
use Rattle.job_reader.specs.Encode.{bytes_of}
use Rattle.job_reader.proofs.Encode.{length_bytes_of}
use Rattle.answer_record.specs.Put.{put, bytes_in}

module _ (l : List ℕ) {m r : List ℕ} (at next : ℕ) (xs ys : List ℕ) where
  pub put_next : m ≡ put l at xs → r ≡ put m next ys → at ≤ length l → at + length xs ≡ next → r ≡ put l at (xs ++ ys)
  unfolding put
  put_next e f h n =
      let front : length (take at l ++ xs) ≡ next = length-append (take at l) xs ∙ ap (λ (k : ℕ). k + length xs) (length-take-le at l h) ∙ n in
      let rest : List ℕ = drop (at + length xs) l in
      let first : take next m ≡ take at l ++ xs = ap (take next) e ∙ take_at (take at l ++ xs) rest next front in
      let past : drop next m ≡ rest = ap (drop next) e ∙ drop_at (take at l ++ xs) rest next front in
      let total : at + length xs + length ys ≡ at + length (xs ++ ys) = omega (arith, length-append xs ys) in
      let later : drop (next + length ys) m ≡ drop (at + length (xs ++ ys)) l =
      sym (drop-drop (length ys) next m) ∙ ap (drop (length ys)) past ∙ drop-drop (length ys) (at + length xs) l
      ∙ ap (λ (k : ℕ). drop k l) total in
      f ∙ rw (first, later) (ap (λ (r : List ℕ). r ++ drop (at + length (xs ++ ys)) l) (append_assoc (take at l) xs ys))

pub put_front : (l : List ℕ) {r : List ℕ} (xs : List ℕ) → r ≡ put l 0 xs → r ≡ over xs l
unfolding put
put_front l xs e = e ∙ rw (zero-add (length xs))

-- the bytes of a number, stored from the last to the first
unfoldable pub stored : List ℕ → ℕ → ℕ → ℕ → List ℕ
stored s at v zero = s
stored s at v (suc n) = stored (set s (at + n) (v % 256)) at (v / 256) n

-- one turn
pub stored_turn : (s : List ℕ) (at v i : ℕ) → 0 < i → stored (set s (at + (i - 1)) (v % 256)) at (v / 256) (i - 1) ≡ stored s at v i
unfolding stored
stored_turn s at v zero h = absurd (not-suc-le-zero h)
stored_turn s at v (suc n) h = let e : suc n - 1 ≡ n = omega arith in rw e

pub put_written : (n : ℕ) (s : List ℕ) (at v : ℕ) → at + n ≤ length s → stored s at v n ≡ put s at (bytes_of n v)
unfolding stored put bytes_of
put_written zero s at v h = paste-zero s at []
put_written (suc n) s at v h =
    let low = v % 256 in
    let rest : List ℕ = set s (at + n) low in
    let long : at + n ≤ length rest = simp length-set (omega arith) in
    let bytes : List ℕ = bytes_of n (v / 256) in
    let size : length bytes ≡ n = length_bytes_of n (v / 256) in
    let tail : drop (at + n) rest ≡ low ∷ drop (suc (at + n)) s =
    drop-cons rest (at + n) 0 (simp length-set (omega arith)) ∙ rw (get_or-set_same s (at + n) low 0 (omega arith), drop-set-lt (suc (at + n)) s (at + n) low (omega arith)) in
    let more : at + length (bytes ++ (low ∷ [])) ≡ suc (at + n) = simp length-append (omega arith) in
    put_written n rest at (v / 256) long
    ∙ rw (size, take-set-le at s (at + n) low (omega arith), tail, more, ← append_assoc (take at s) bytes (low ∷ []))
    (sym (append_snoc (take at s ++ bytes) low (drop (suc (at + n)) s)))

-- numbers one behind the other: with one more, and that it ends within them all
module _ (fields : List (ℕ × ℕ)) (i : ℕ) (here : i < length fields) where
  pub fields_next : bytes_in (take (i + 1) fields) ≡ bytes_in (take i fields) ++ bytes_of (get_or fields i (0, 0)).0 (get_or fields i (0, 0)).1
  fields_next = rw (add-one, take-suc fields i (0, 0) here) (sym (flat_map_more (λ f. bytes_of f.0 f.1) [] (take i fields) _))

  pub fields_within : length (bytes_in (take i fields)) + (get_or fields i (0, 0)).0 ≤ length (bytes_in fields)
  fields_within = rw length_bytes_of at (length-flat_map-take (λ f. bytes_of f.0 f.1) fields i (0, 0) here)
