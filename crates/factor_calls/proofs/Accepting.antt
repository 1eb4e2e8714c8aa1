-- What holds where a call is accepted, and how its 31 is put together.
-- Assumes nothing.
use mathlib.Core.Path.{◌≡◌, refl, sym, ap, ◌∙◌}
use mathlib.Core.Bool.{Bool, true, false}
use mathlib.Core.List.{List, [], ◌∷◌}
use Prim.Native.Nat.{ℕ, zero, suc, ◌*◌, ◌≤◌}
use native.Mathlib.Omega.{arith}
use borrow.Author.Tests.{ltb-false, eq-eqb, ne_eqb}
use lib.Dec.{eqb}
use lib.ListN.{length}
use lib.IntN.{ℤ}
use Rattle.std.proofs.lemmas.Bool.{and_right}
use Rattle.laws.specs.Refusal.{◌if◌, first, any_of, short}
use Rattle.laws.proofs.Refusal.{clear, first_head, first_rest}
use Rattle.laws.proofs.Any.{any_head, any_rest, any_not, any_none, any_skip, any_last}
use Rattle.limits.specs.Limits.{most_signs, most_sign_entries, most_sign_magnitude, most_rank, most_draws}
use Rattle.tables.specs.Table.{Lent, table_of}
use Rattle.tables.specs.Check.{Accepted, short_table}
use Rattle.tables.proofs.Checks.{long_enough, table_lent, table_accepted}
use Rattle.run_limits.specs.Rank.{rank_meant}
use Rattle.run_limits.specs.Draws.{bad_draws}
use Rattle.run_limits.proofs.Counts.{draws_some, draws_few}
use Rattle.table_calls.specs.Numbers.{bad_signs, sign_table_number}
use Rattle.table_calls.proofs.Accepting.{signs_passes, signs_parts}
use Rattle.factor_calls.specs.Numbers.{bad_rank, factor_refused, factor_short, draws_refused, draws_short, rounded_short, rounded_number, dual_short, dual_number, bad_given_rank, given_factor_short, divided_short, divided_number, given_rank}

-- what the draws' length rests on, where it isn't refused
pub draws_good : (m rank k : ℕ) → draws_refused m rank k ≡ false → (rank ≡ 0 → m ≤ most_signs) × (rank ≤ most_rank) × (k ≤ most_draws)
unfolding draws_refused
draws_good m rank k e =
    let rest = any_rest _ _ e in (
      λ z. (signs_parts m (rw (eq-eqb rank 0 z) at (any_head _ _ (any_rest _ _ rest)))).1,
      ltb-false most_rank rank (any_head _ _ rest),
      draws_few k (any_head _ _ e),
    )

pub record RoundedUsable (m count : ℕ) (rows cols : List ℕ) (values : List ℤ) (rank factor k draws out : ℕ) : Type 0 where
  pub lent : Lent count rows cols values
  pub judged : sign_table_number m count rows cols values ≡ 0
  pub table : Accepted most_signs most_sign_entries most_sign_magnitude m (table_of count rows cols values)
  pub rank_low : rank ≤ most_rank
  pub some : 1 ≤ k
  pub factor_long : m * rank_meant m rank ≤ factor
  pub draws_long : k * rank_meant m rank ≤ draws
  pub out_long : m ≤ out

-- what `compute_rounded_sol` works on
module _ (m count : ℕ) (rows cols : List ℕ) (values : List ℤ) (rank factor k draws out : ℕ) where
  pub rounded_lent : rounded_short m count (length rows) (length cols) (length values) rank factor k draws out ≡ false → count ≤ most_sign_entries → Lent count rows cols values
  unfolding rounded_short
  rounded_lent s h = table_lent (any_head _ _ s) h

  pub rounded_accepted : rounded_number m count rows cols values rank factor k draws out ≡ 0 → RoundedUsable m count rows cols values rank factor k draws out
  unfolding rounded_number rounded_short factor_short factor_refused draws_short draws_refused
  rounded_accepted ok =
      let later = first_rest _ _ ok in
      let s = clear (rounded_short m count (length rows) (length cols) (length values) rank factor k draws out) 30 (first_head _ _ ok) in
      let t : Accepted most_signs most_sign_entries most_sign_magnitude m (table_of count rows cols values) = table_accepted (first_head _ _ later) in
      let low : bad_rank rank ≡ false = clear (bad_rank rank) 16 (first_head _ _ (first_rest _ _ later)) in
      let many : bad_draws k ≡ false = clear (bad_draws k) 18 (first_head _ _ (first_rest _ _ (first_rest _ _ later))) in
      let signs : bad_signs m ≡ false = signs_passes m t.some t.signs in
      record {
        lent = rounded_lent s t.entries;
        judged = first_head _ _ later;
        table = t;
        rank_low = ltb-false most_rank rank low;
        some = draws_some k many;
        factor_long = long_enough (any_head _ _ (any_rest _ _ s)) (any_not _ _ signs (any_not _ _ low any_none));
        draws_long = long_enough (any_head _ _ (any_rest _ _ (any_rest _ _ s))) (any_not _ _ many (any_not _ _ low (any_not _ _ (and_right (eqb rank 0) (bad_signs m) signs) any_none)));
        out_long = long_enough (any_head _ _ (any_rest _ _ (any_rest _ _ (any_rest _ _ s)))) signs;
      }

pub record DualUsable (m count : ℕ) (rows cols : List ℕ) (values : List ℤ) (rank factor out : ℕ) : Type 0 where
  pub lent : Lent count rows cols values
  pub judged : sign_table_number m count rows cols values ≡ 0
  pub table : Accepted most_signs most_sign_entries most_sign_magnitude m (table_of count rows cols values)
  pub rank_low : rank ≤ most_rank
  pub factor_long : m * rank_meant m rank ≤ factor
  pub out_long : m ≤ out

-- what `dual_variables` works on
module _ (m count : ℕ) (rows cols : List ℕ) (values : List ℤ) (rank factor out : ℕ) where
  pub dual_lent : dual_short m count (length rows) (length cols) (length values) rank factor out ≡ false → count ≤ most_sign_entries → Lent count rows cols values
  unfolding dual_short
  dual_lent s h = table_lent (any_head _ _ s) h

  pub dual_accepted : dual_number m count rows cols values rank factor out ≡ 0 → DualUsable m count rows cols values rank factor out
  unfolding dual_number dual_short factor_short factor_refused
  dual_accepted ok =
      let later = first_rest _ _ ok in
      let s = clear (dual_short m count (length rows) (length cols) (length values) rank factor out) 30 (first_head _ _ ok) in
      let t : Accepted most_signs most_sign_entries most_sign_magnitude m (table_of count rows cols values) = table_accepted (first_head _ _ later) in
      let low : bad_rank rank ≡ false = clear (bad_rank rank) 16 (first_head _ _ (first_rest _ _ later)) in
      let signs : bad_signs m ≡ false = signs_passes m t.some t.signs in
      record {
        lent = dual_lent s t.entries;
        judged = first_head _ _ later;
        table = t;
        rank_low = ltb-false most_rank rank low;
        factor_long = long_enough (any_head _ _ (any_rest _ _ s)) (any_not _ _ signs (any_not _ _ low any_none));
        out_long = long_enough (any_head _ _ (any_rest _ _ (any_rest _ _ s))) signs;
      }

-- `dual_variables_divided` refuses what `dual_variables` refuses, a rank of 0 counted as one above the most
rank_alike : (rank : ℕ) → bad_rank (given_rank rank) ≡ bad_given_rank rank
unfolding given_rank bad_given_rank any_of
rank_alike zero = refl
rank_alike (suc r) = sym (any_skip (eqb (suc r) 0) (bad_rank (suc r) ∷ []) (ne_eqb (suc r) 0 (λ e. absurd (omega arith))) ∙ any_last (bad_rank (suc r)))

untested : (b : Bool) (a c lent : ℕ) → short (any_of (b ∷ true ∷ [])) a lent ≡ short (any_of (b ∷ true ∷ [])) c lent
unfolding short any_of
untested true a c lent = refl
untested false a c lent = refl

factor_alike : (m rank lent : ℕ) → factor_short m (given_rank rank) lent ≡ given_factor_short m rank lent
unfolding given_rank bad_given_rank factor_short factor_refused given_factor_short rank_meant any_of
factor_alike m zero lent = untested (bad_signs m) (m * suc most_rank) (m * zero) lent
factor_alike m (suc r) lent = ap (λ (b : Bool). short (any_of (bad_signs m ∷ b ∷ [])) (m * suc r) lent) (rank_alike (suc r))

module _ (m count : ℕ) (rows cols : List ℕ) (values : List ℤ) (rank factor out : ℕ) where
  pub divided_as_dual : dual_number m count rows cols values (given_rank rank) factor out ≡ divided_number m count rows cols values rank factor out
  unfolding dual_number dual_short divided_number divided_short
  divided_as_dual =
      ap (λ (b : Bool). first (31 if any_of (short_table most_sign_entries count (length rows) (length cols) (length values) ∷ b ∷ short (bad_signs m) m out ∷ []) ∷ sign_table_number m count rows cols values ∷ 17 if bad_rank (given_rank rank) ∷ [])) (factor_alike m rank factor)
      ∙ ap (λ (b : Bool). first (31 if any_of (short_table most_sign_entries count (length rows) (length cols) (length values) ∷ given_factor_short m rank factor ∷ short (bad_signs m) m out ∷ []) ∷ sign_table_number m count rows cols values ∷ 17 if b ∷ [])) (rank_alike rank)

pub given_some : (rank : ℕ) → (rank ≡ 0 → ⊥) → rank ≡ given_rank rank
unfolding given_rank
given_some zero d = absurd (d refl)
given_some (suc r) d = refl

given : (m count : ℕ) (rows cols : List ℕ) (values : List ℤ) (rank factor out : ℕ) → DualUsable m count rows cols values (given_rank rank) factor out
    → DualUsable m count rows cols values rank factor out × (rank_meant m rank ≡ rank)
unfolding given_rank rank_meant
given m count rows cols values zero factor out u = absurd (let low : suc most_rank ≤ most_rank = u.rank_low in omega arith)
given m count rows cols values (suc r) factor out u = (u, refl)

-- what `dual_variables_divided` works on
pub divided_accepted : (m count : ℕ) (rows cols : List ℕ) (values : List ℤ) (rank factor out : ℕ) → divided_number m count rows cols values rank factor out ≡ 0
    → DualUsable m count rows cols values rank factor out × (rank_meant m rank ≡ rank)
divided_accepted m count rows cols values rank factor out ok =
    given m count rows cols values rank factor out (dual_accepted m count rows cols values (given_rank rank) factor out (divided_as_dual m count rows cols values rank factor out ∙ ok))
