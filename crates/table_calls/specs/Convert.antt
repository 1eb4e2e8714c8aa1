-- What `qubo_sign_table` leaves: the entries at the places ps in the first places of the lent slices, whose tails stay; on a refusal the
-- slices as they were.
use Rattle.std.specs.Prelude.{Result}
use Rattle.std.specs.Prelude.{◌≡◌, List, ℕ, length, ℤ}
use Rattle.laws.specs.Lists.{over}
use Rattle.sign_table.specs.SignTable.{rows_of, cols_of, values_of}
use Rattle.table_calls.specs.Answer.{entries_answer, kept_if_refused}

pub record Converts (number : ℕ) (value : ℕ → ℕ → ℤ) (ps : List (ℕ × ℕ)) (rows cols : List ℕ) (values : List ℤ) (answer : Result ℕ ℕ) (rows' cols' : List ℕ) (values' : List ℤ) : Type 0 where
  pub answers : answer ≡ entries_answer number (length ps)
  pub rows_are : rows' ≡ kept_if_refused number rows (over (rows_of ps) rows)
  pub cols_are : cols' ≡ kept_if_refused number cols (over (cols_of ps) cols)
  pub values_are : values' ≡ kept_if_refused number values (over (values_of value ps) values)
