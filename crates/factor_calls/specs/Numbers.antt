-- The first numbers of `compute_rounded_sol`, `dual_variables` and `dual_variables_divided` on a sign table given directly (01, "Numbers from the state" and "Numbers from the input"), or 0:
-- 31, 13 to 16, 17, and 19 of the draws. A length that rests on a number which is itself refused isn't tested.
use Rattle.std.specs.Prelude.{Bool, ◌&&◌, List, [], ◌∷◌, ℕ, zero, suc, ◌*◌, ltb, eqb, length, ℤ}
use Rattle.laws.specs.Refusal.{◌if◌, first, any_of, short}
use Rattle.limits.specs.Limits.{most_sign_entries, most_rank}
use Rattle.tables.specs.Check.{short_table}
use Rattle.run_limits.specs.Rank.{rank_meant}
use Rattle.run_limits.specs.Draws.{bad_draws}
use Rattle.table_calls.specs.Numbers.{bad_signs, sign_table_number}

-- 17
abbrev pub bad_rank : ℕ → Bool
bad_rank rank = ltb most_rank rank

-- 31 of a factor of m rows, which rests on m and the rank
unfoldable pub factor_refused : ℕ → ℕ → Bool
factor_refused m rank = any_of (bad_signs m ∷ bad_rank rank ∷ [])

unfoldable pub factor_short : ℕ → ℕ → ℕ → Bool
factor_short m rank lent = short (factor_refused m rank) (m * rank_meant m rank) lent

-- 31 of k draws, which rest on their count and the rank, and on m where the rank is its default
unfoldable pub draws_refused : ℕ → ℕ → ℕ → Bool
draws_refused m rank k = any_of (bad_draws k ∷ bad_rank rank ∷ (eqb rank 0 && bad_signs m) ∷ [])

unfoldable pub draws_short : ℕ → ℕ → ℕ → ℕ → Bool
draws_short m rank k lent = short (draws_refused m rank k) (k * rank_meant m rank) lent

-- lengths: of the table's slices, of factor, draws and the signs to be lent out
unfoldable pub rounded_short : ℕ → ℕ → ℕ → ℕ → ℕ → ℕ → ℕ → ℕ → ℕ → ℕ → Bool
rounded_short m count rows cols values rank factor k draws out =
    any_of
    (short_table most_sign_entries count rows cols values
    ∷ factor_short m rank factor
    ∷ draws_short m rank k draws
    ∷ short (bad_signs m) m out
    ∷ [])

unfoldable pub rounded_number : ℕ → ℕ → List ℕ → List ℕ → List ℤ → ℕ → ℕ → ℕ → ℕ → ℕ → ℕ
rounded_number m count rows cols values rank factor k draws out =
    first
    (31 if rounded_short m count (length rows) (length cols) (length values) rank factor k draws out
    ∷ sign_table_number m count rows cols values
    ∷ 17 if bad_rank rank
    ∷ 19 if bad_draws k
    ∷ [])

-- the same without draws, for `dual_variables`; `out` is for the m multipliers
unfoldable pub dual_short : ℕ → ℕ → ℕ → ℕ → ℕ → ℕ → ℕ → ℕ → Bool
dual_short m count rows cols values rank factor out =
    any_of
    (short_table most_sign_entries count rows cols values
    ∷ factor_short m rank factor
    ∷ short (bad_signs m) m out
    ∷ [])

unfoldable pub dual_number : ℕ → ℕ → List ℕ → List ℕ → List ℤ → ℕ → ℕ → ℕ → ℕ
dual_number m count rows cols values rank factor out =
    first
    (31 if dual_short m count (length rows) (length cols) (length values) rank factor out
    ∷ sign_table_number m count rows cols values
    ∷ 17 if bad_rank rank
    ∷ [])

-- 17 of `dual_variables_divided`, whose rank is given: 0 too
unfoldable pub bad_given_rank : ℕ → Bool
bad_given_rank rank = any_of (eqb rank 0 ∷ bad_rank rank ∷ [])

-- 31 of its factor
unfoldable pub given_factor_short : ℕ → ℕ → ℕ → Bool
given_factor_short m rank lent = short (any_of (bad_signs m ∷ bad_given_rank rank ∷ [])) (m * rank) lent

unfoldable pub divided_short : ℕ → ℕ → ℕ → ℕ → ℕ → ℕ → ℕ → ℕ → Bool
divided_short m count rows cols values rank factor out =
    any_of
    (short_table most_sign_entries count rows cols values
    ∷ given_factor_short m rank factor
    ∷ short (bad_signs m) m out
    ∷ [])

unfoldable pub divided_number : ℕ → ℕ → List ℕ → List ℕ → List ℤ → ℕ → ℕ → ℕ → ℕ
divided_number m count rows cols values rank factor out =
    first
    (31 if divided_short m count (length rows) (length cols) (length values) rank factor out
    ∷ sign_table_number m count rows cols values
    ∷ 17 if bad_given_rank rank
    ∷ [])

-- the rank by which the code looks for that number: 0 is as one above the most
unfoldable pub given_rank : ℕ → ℕ
given_rank zero = suc most_rank
given_rank (suc r) = suc r
