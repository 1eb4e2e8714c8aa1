-- The table laid out, entry by entry.
-- Assumes nothing.
use mathlib.Core.Path.{◌≡◌, sym, ap, ap₂, ◌∙◌}
use mathlib.Core.List.{List}
use Prim.Native.Nat.{ℕ, ◌+◌, ◌*◌, ◌<◌, ◌≤◌}
use native.Mathlib.Decide.{ℕ_discrete}
use native.Mathlib.Omega.{arith}
use borrow.Author.Tests.{eq-eqb, ne_eqb}
use lib.IntN.{ℤ, pos, nat_abs, ◌+ℤ◌, +ℤ_idr}
use lib.ListN.{length, set, replicate, length-set, length-replicate, get_or-replicate}
use lib.Seq.{get_or-set_same, get_or-set_other}
use Rattle.std.proofs.lemmas.Nat.{same_from_place}
use mir.Syntax.{w64}
use mir.Val.{SFits}
use Rattle.laws.specs.Sum.{sum, only}
use Rattle.laws.specs.Lists.{elem, elem_z}
use Rattle.std.proofs.lemmas.Int.{fits_signed_from_abs}
use Rattle.laws.proofs.Sums.{sum_bounded, sum_more}
use Rattle.limits.specs.Limits.{most_magnitude}
use Rattle.tables.specs.Table.{Table, table_of, magnitude_of, value_at}
use Rattle.exhaustive.specs.Walk.{LaidOut}

-- what entry k adds at (i, j)
abbrev pub share : Table → ℕ → ℕ → ℕ → ℤ
share t i j k = only (t.row k) i (only (t.column k) j (t.value k))

-- the first k entries stand at their places
pub record Laid (rows cols : List ℕ) (values : List ℤ) (k : ℕ) (grid : List ℤ) : Type 0 where
  pub long : length grid ≡ 256
  pub at : (i j : ℕ) → i < 16 → j < 16 → elem_z grid (i * 16 + j) ≡ sum k (share (table_of 0 rows cols values) i j)

pub none_laid : (rows cols : List ℕ) (values : List ℤ) (grid : List ℤ) → grid ≡ replicate 256 (pos 0) → Laid rows cols values 0 grid
unfolding sum
none_laid rows cols values grid e = record {
  long = rw e (length-replicate 256 (pos 0));
  at = λ i j k l. rw e (get_or-replicate 256 (i * 16 + j) (pos 0) (pos 0) (omega arith));
}

-- one entry more
module _ (rows cols : List ℕ) (values : List ℤ) (k : ℕ) (grid : List ℤ) (p : Laid rows cols values k grid) (a b : ℕ) (v : ℤ)
    (row : a ≡ elem rows k) (column : b ≡ elem cols k) (value : v ≡ elem_z values k) (low : a < 16) (left : b < 16) where
  pub next_laid : Laid rows cols values (k + 1) (set grid (a * 16 + b) (elem_z grid (a * 16 + b) +ℤ v))
  next_laid = record {
    long = length-set grid (a * 16 + b) (elem_z grid (a * 16 + b) +ℤ v) ∙ p.long;
    at = λ i j l m. go i j l m (ℕ_discrete i a) (ℕ_discrete j b) ∙ sym (sum_more k (share (table_of 0 rows cols values) i j));
  }
    where
      other : (i j : ℕ) → i < 16 → j < 16 → ((i * 16 + j ≡ a * 16 + b) → ⊥) → only (elem rows k) i (only (elem cols k) j (elem_z values k)) ≡ pos 0
          → elem_z (set grid (a * 16 + b) (elem_z grid (a * 16 + b) +ℤ v)) (i * 16 + j) ≡ sum k (share (table_of 0 rows cols values) i j) +ℤ only (elem rows k) i (only (elem cols k) j (elem_z values k))
      other i j l m d z =
          get_or-set_other grid (a * 16 + b) (i * 16 + j) (elem_z grid (a * 16 + b) +ℤ v) (pos 0) d ∙ p.at i j l m
          ∙ sym (ap (λ x. sum k (share (table_of 0 rows cols values) i j) +ℤ x) z ∙ +ℤ_idr (sum k (share (table_of 0 rows cols values) i j)))

      go : (i j : ℕ) → i < 16 → j < 16 → Dec (i ≡ a) → Dec (j ≡ b)
          → elem_z (set grid (a * 16 + b) (elem_z grid (a * 16 + b) +ℤ v)) (i * 16 + j) ≡ sum k (share (table_of 0 rows cols values) i j) +ℤ only (elem rows k) i (only (elem cols k) j (elem_z values k))
      go i j l m (yes e) (yes f) =
          ap₂ (λ (x y : ℕ). elem_z (set grid (a * 16 + b) (elem_z grid (a * 16 + b) +ℤ v)) (x * 16 + y)) e f
          ∙ get_or-set_same grid (a * 16 + b) (elem_z grid (a * 16 + b) +ℤ v) (pos 0) (rw p.long (omega arith))
          ∙ ap₂ ◌+ℤ◌ (ap₂ (λ (x y : ℕ). elem_z grid (x * 16 + y)) (sym e) (sym f) ∙ p.at i j l m)
          (rw (eq-eqb (elem rows k) i (sym row ∙ sym e), eq-eqb (elem cols k) j (sym column ∙ sym f)) value)
      go i j l m (yes e) (no f) =
          other i j l m (λ q. f (same_from_place i j a b 16 m left q).1)
          (rw (ne_eqb (elem cols k) j (λ q. f (sym q ∙ sym column))) (grind arith))
      go i j l m (no e) f =
          other i j l m (λ q. e (same_from_place i j a b 16 m left q).0) (rw (ne_eqb (elem rows k) i (λ q. e (sym q ∙ sym row))))

-- a value of the first k entries at a place is at most the magnitude
module _ (count : ℕ) (rows cols : List ℕ) (values : List ℤ) (small : magnitude_of (table_of count rows cols values) ≤ most_magnitude) where
  part_small : (k i j : ℕ) → k ≤ count → nat_abs (sum k (share (table_of 0 rows cols values) i j)) ≤ most_magnitude
  part_small k i j h =
      omega (arith, sum_bounded 1 count k (share (table_of 0 rows cols values) i j) (λ k. nat_abs (elem_z values k)) (λ k. grind arith) h)

  -- the next entry's place holds it
  pub next_fits : (k : ℕ) (grid : List ℤ) → Laid rows cols values k grid → k < count → (a b : ℕ) (v : ℤ) → a ≡ elem rows k → b ≡ elem cols k → v ≡ elem_z values k
      → a < 16 → b < 16 → SFits w64 (elem_z grid (a * 16 + b) +ℤ v)
  next_fits k grid p h a b v row column value low left =
      let q = (next_laid rows cols values k grid p a b v row column value low left).at a b low left in
      let there : elem_z (set grid (a * 16 + b) (elem_z grid (a * 16 + b) +ℤ v)) (a * 16 + b) ≡ elem_z grid (a * 16 + b) +ℤ v =
      get_or-set_same grid (a * 16 + b) (elem_z grid (a * 16 + b) +ℤ v) (pos 0) (rw p.long (omega arith)) in
      fits_signed_from_abs w64 _ (rw (sym there ∙ q) (omega (arith, part_small (k + 1) a b (omega arith))))

  pub all_laid : (k : ℕ) (grid : List ℤ) → Laid rows cols values k grid → k ≤ count → count ≤ k → LaidOut (table_of count rows cols values) grid
  unfolding value_at
  all_laid k grid p up down =
      let e : k ≡ count = omega arith in
      record { value_is = λ i j l m. p.at i j l m ∙ ap (λ (n : ℕ). sum n (share (table_of 0 rows cols values) i j)) e }
