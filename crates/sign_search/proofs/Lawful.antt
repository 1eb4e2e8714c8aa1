-- A symmetric table's objective and changes are lawful: a flip changes the objective by its change, which is a multiple of 4, and the floor
-- stands below every objective. Assumes nothing.
use Prim.Native.Nat.{ℕ, zero, suc, ◌+◌, ◌*◌, ◌^◌, ◌≤◌, ◌<◌}
use native.Mathlib.Decide.{ℕ_discrete}
use native.Mathlib.Nat.{lt_of_le_of_lt}
use native.Mathlib.Omega.{arith}
use mathlib.Core.Bool.{false, cond}
use mathlib.Core.List.{List}
use mathlib.Core.Path.{◌≡◌, refl, sym, ap, ap₂, ◌∙◌}
use borrow.Author.Tests.{eq-eqb, ne_eqb}
use lib.Dec.{eqb}
use lib.IntN.{ℤ, pos, neg_ℤ, nat_abs, ◌+ℤ◌, ◌-ℤ◌, ◌*ℤ◌, +ℤ_comm, -ℤ-+ℤ_cancel}
use lib.Signed.{◌≤ℤ◌, lt_z, pos-nat_abs, yes_non_neg}
use lib.ListN.{length, get_or, set}
use lib.Seq.{get_or-set_same, get_or-set_other}
use mir.Syntax.{w64}
use mir.Val.{SFits}
use Rattle.laws.specs.Sum.{sum}
use Rattle.laws.specs.Lists.{elem}
use Rattle.std.proofs.lemmas.Int.{ints, fits_signed_from_abs}
use Rattle.laws.proofs.Integer.{abs_add, abs_neg}
use Rattle.laws.proofs.Sums.{sum_ext, sum_bounded}
use Rattle.limits.specs.Limits.{most_sign_magnitude}
use Rattle.tables.specs.Table.{Table, magnitude_of, sign, sign_at, share, value_at, objective_term, objective_of, floor_of, floor_term}
use Rattle.tables.specs.Flip.{flipped, flip_change}
use Rattle.tables.proofs.Shares.{abs_share, abs_least, sign_vector}
use Rattle.tables.proofs.Quadratic.{objective_places, floor_below}
use Rattle.tables.proofs.Flips.{flip_change_lem, flip_four}
use Rattle.local_search.specs.Level.{flip_byte, flip_sign}
use Rattle.local_search.specs.SignSearch.{Lawful}
use Rattle.sign_search.specs.Search.{objective_in, change_in, height_in, Mirrors}

-- ---- a flipped byte is a flipped sign

sign_flip : (s : ℕ) → sign (flip_byte s) ≡ neg_ℤ (sign s)
unfolding flip_byte
sign_flip zero = refl
sign_flip (suc s) = refl

pub signs_flip : (x : List ℕ) (i j : ℕ) → i < length x → sign_at (flip_sign i x) j ≡ flipped (sign_at x) i j
unfolding flip_sign flipped
signs_flip x i j h = go (ℕ_discrete i j)
  where
    go : Dec (i ≡ j) → sign (get_or (set x i (flip_byte (get_or x i 0))) j 0) ≡ cond (eqb i j) (neg_ℤ (sign (get_or x j 0))) (sign (get_or x j 0))
    go (yes e) = rw (eq-eqb i j e, ← e, get_or-set_same x i (flip_byte (get_or x i 0)) 0 h) (sign_flip (get_or x i 0))
    go (no d) = rw (ne_eqb i j d, get_or-set_other x i j (flip_byte (get_or x i 0)) 0 (λ e. d (sym e)))

pub objective_ext : (t : Table) (x y : ℕ → ℤ) → ((j : ℕ) → x j ≡ y j) → objective_of t x ≡ objective_of t y
objective_ext t x y h = sum_ext t.count _ _ (λ k l. ap₂ (λ (a b : ℤ). share (t.row k) (t.column k) a b (t.value k)) (h (t.row k)) (h (t.column k)))

-- ---- heights above the floor

above : (f o : ℤ) → f ≤ℤ o → o ≡ f +ℤ pos (nat_abs (o -ℤ f))
above f o h =
    let low : pos 0 ≤ℤ (o -ℤ f) = omega (arith, ints) in
    sym (+ℤ_comm f (o -ℤ f) ∙ -ℤ-+ℤ_cancel o f) ∙ ap (λ (z : ℤ). f +ℤ z) (sym (pos-nat_abs (o -ℤ f) (yes_non_neg low)))

module _ {m : ℕ} {t : Table} (ok : Mirrors m t) where
  pub floor_le : (x : List ℕ) → floor_of t ≤ℤ objective_in t x
  unfolding objective_in
  floor_le x = floor_below ok.in_range (sign_at x) ok.symmetric (sign_vector x)

  flips : (x : List ℕ) (i : ℕ) → length x ≡ m → i < m → objective_in t (flip_sign i x) ≡ objective_in t x +ℤ change_in t x i
  unfolding objective_in change_in
  flips x i p q =
      objective_ext t _ _ (λ j. signs_flip x i j (omega arith))
      ∙ objective_places ok.in_range (flipped (sign_at x) i) ∙ flip_change_lem m (value_at t) (sign_at x) i q ok.symmetric (sign_vector x)
      ∙ ap₂ (λ (o : ℤ) (n : ℕ). o +ℤ flip_change n (value_at t) (sign_at x) i) (sym (objective_places ok.in_range (sign_at x))) (sym p)

  fours : (x : List ℕ) (i : ℕ) → (z : ℤ) × (change_in t x i ≡ pos 4 *ℤ z)
  unfolding change_in
  fours x i = (value_at t i i -ℤ sign_at x i *ℤ sum (length x) (λ j. value_at t i j *ℤ sign_at x j), flip_four (length x) (value_at t) (sign_at x) i)

  -- the table's objective and changes are lawful
  pub lawful : Lawful m (objective_in t) (change_in t) (floor_of t) (height_in t)
  unfolding height_in
  lawful = record {
    above_floor = λ x p. above (floor_of t) (objective_in t x) (floor_le x);
    changes = flips;
    fours = λ x i p q. fours x i;
  }

  -- for a height that falls by d the objective falls by d at least
  pub fallen : (x y : List ℕ) (d : ℕ) → height_in t y + d ≤ height_in t x → (objective_in t y +ℤ pos d) ≤ℤ objective_in t x
  unfolding height_in
  fallen x y d h =
      let f : ℤ = floor_of t in
      let a : objective_in t x ≡ f +ℤ pos (nat_abs (objective_in t x -ℤ f)) = above f (objective_in t x) (floor_le x) in
      let b : objective_in t y ≡ f +ℤ pos (nat_abs (objective_in t y -ℤ f)) = above f (objective_in t y) (floor_le y) in
      omega (arith, ints)

  -- ---- for a magnitude that the code's sums hold

  module _ (small : magnitude_of t ≤ most_sign_magnitude) where
    pub objective_abs : (x : List ℕ) → nat_abs (objective_in t x) ≤ 2 * most_sign_magnitude
    unfolding objective_in
    objective_abs x =
        let b : nat_abs (objective_of t (sign_at x)) ≤ 2 * magnitude_of t =
        sum_bounded 2 t.count t.count (objective_term t (sign_at x)) (λ l. nat_abs (t.value l))
        (λ l. abs_share (t.row l) (t.column l) (elem x (t.row l)) (elem x (t.column l)) (t.value l)) (omega arith) in
        omega arith

    floor_abs : nat_abs (floor_of t) ≤ most_sign_magnitude
    floor_abs =
        let b : nat_abs (floor_of t) ≤ 1 * magnitude_of t =
        sum_bounded 1 t.count t.count (floor_term t) (λ l. nat_abs (t.value l)) (λ l. abs_least (t.row l) (t.column l) (t.value l)) (omega arith) in
        omega arith

    pub objective_fits : (x : List ℕ) → SFits w64 (objective_in t x)
    objective_fits x = fits_signed_from_abs w64 (objective_in t x) (lt_of_le_of_lt (objective_abs x) (omega arith))

    pub height_low : (x : List ℕ) → height_in t x < 2 ^ 64
    unfolding height_in
    height_low x = omega (arith, objective_abs x, floor_abs, abs_add (objective_in t x) (neg_ℤ (floor_of t)), abs_neg (floor_of t))

pub not_below : (a b : ℤ) → lt_z a b ≡ false → b ≤ℤ a
not_below a b e = omega (arith, ints)
