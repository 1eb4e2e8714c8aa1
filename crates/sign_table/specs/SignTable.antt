-- The sign table of (H, c) (01, "Sign table"): n wagons, the quadratic costs H i j, the linear costs c i. Its values are eighths; sign n is
-- the anchor's.
use Rattle.std.specs.Prelude.{List, Bool, true, false, not, cond, ℕ, suc, eqb, ℤ, pos, neg_ℤ, nat_abs, ◌+ℤ◌, ◌*ℤ◌}
use Rattle.laws.specs.Sum.{sum, sum₂, only}
use Rattle.tables.specs.Table.{Table, value_at, stored_at}
unfoldable pub use Rattle.tables.specs.Stored.{row_places, places}
pub use Rattle.tables.specs.Stored.{edge, rows_of, cols_of, values_of, stored_table}

-- `absorb_linear_terms_into_hessian`: 2·c_i is added at (i, i)
unfoldable pub absorbed : (ℕ → ℕ → ℤ) → (ℕ → ℤ) → ℕ → ℕ → ℤ
absorbed H c i j = H i j +ℤ only i j (pos 2 *ℤ c i)

-- `qubo_hessian_to_sign_matrix`, of an absorbed H: H_ij at (i, j); minus row i's sum at (i, n) and (n, i); at (n, n) the sum of all H entries
unfoldable pub sign_value : ℕ → (ℕ → ℕ → ℤ) → ℕ → ℕ → ℤ
sign_value n H i j =
    cond (eqb i n) (cond (eqb j n) (sum₂ n H) (neg_ℤ (sum n (H j)))) (cond (eqb j n) (neg_ℤ (sum n (H i))) (H i j))

abbrev pub is_zero : ℤ → Bool
is_zero z = eqb (nat_abs z) 0

-- what is stored: what H stores, and (i, i) where c_i isn't 0; (i, n) and (n, i) where row i's sum isn't 0; (n, n) always
unfoldable pub sign_kept : ℕ → (ℕ → ℕ → Bool) → (ℕ → ℕ → ℤ) → (ℕ → ℤ) → ℕ → ℕ → Bool
sign_kept n kept H c i j =
    cond (eqb i n) (cond (eqb j n) true (not (is_zero (sum n (absorbed H c j)))))
    (cond (eqb j n) (not (is_zero (sum n (absorbed H c i)))) (cond (kept i j) true (cond (eqb i j) (not (is_zero (c i))) false)))

-- ---- as entries, in rising (row, column) order

-- the sign table of n wagons, of the table h of quadratic costs and the linear costs c
abbrev pub kept_of : ℕ → Table → (ℕ → ℤ) → ℕ → ℕ → Bool
kept_of n h c = sign_kept n (stored_at h) (value_at h) c

abbrev pub sign_of : ℕ → Table → (ℕ → ℤ) → ℕ → ℕ → ℤ
sign_of n h c = sign_value n (absorbed (value_at h) c)

unfoldable pub sign_places : ℕ → Table → (ℕ → ℤ) → List (ℕ × ℕ)
sign_places n h c = places (kept_of n h c) (suc n) (suc n)

abbrev pub sign_table : ℕ → Table → (ℕ → ℤ) → Table
sign_table n h c = stored_table (sign_of n h c) (sign_places n h c)
