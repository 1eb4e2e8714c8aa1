-- What `limited_search` answers and leaves in the slices lent to it.
use Rattle.std.specs.Prelude.{ℕ, List, ◌≡◌, ℤ, length, drop, Result, Ok, Err}
use Rattle.laws.specs.Lists.{elem_z, over}
use Rattle.limits.specs.Limits.{search_workspace}
use Rattle.tables.specs.Table.{Table, table_of}
use Rattle.sign_table.specs.SignTable.{sign_table}
use Rattle.local_search.specs.LocalSearch.{Found}
use Rattle.sign_search.specs.Search.{objective_in}
use Rattle.finalize.specs.Finalize.{choice_of}
use Rattle.limited_search.specs.Numbers.{limited_number}
use Rattle.limited_search.specs.Search.{limited_found}
use Rattle.limited_search.specs.Near.{Near}

-- 01's number of an answer: 0 where the search was made, else the refusal's
abbrev pub number_of : Result (ℤ × ℕ) ℕ → ℕ
number_of (Ok found) = 0
number_of (Err k) = k

module _ (n count : ℕ) (rows cols : List ℕ) (values c : List ℤ) (present : List ℕ) (k width : ℕ) (choice workspace : List ℕ) where
  -- the number for these arguments
  abbrev pub call_number : ℕ
  call_number = limited_number n count rows cols values c present k width (length choice) (length workspace)

  -- the sign table of (H, c), and the search on it
  abbrev pub call_table : Table
  call_table = sign_table n (table_of count rows cols values) (elem_z c)

  abbrev pub call_found : Found (List ℕ)
  call_found = limited_found call_table n present k width

  -- the contract
  pub record LimitedSearches (choice' workspace' : List ℕ) (r : Result (ℤ × ℕ) ℕ) : Type 0 where
    -- the number is the first that applies
    pub numbered : number_of r ≡ call_number
    -- a refusal leaves every slice as it was
    pub refused : (call_number ≡ 0 → ⊥) → (choice' ≡ choice) × (workspace' ≡ workspace)
    -- where no number applies, the objective and the rounds of the search are answered, and its choice stands in `choice`, whose tail stays
    pub answers : call_number ≡ 0 → r ≡ Ok (objective_in call_table call_found.answer, call_found.rounds)
    pub writes : call_number ≡ 0 → choice' ≡ over (choice_of n call_found.answer) choice
    -- of the workspace no more is written than the call asks
    pub kept : drop search_workspace workspace' ≡ drop search_workspace workspace
    -- and it is what 02 promises
    pub near : call_number ≡ 0 → Near n (table_of count rows cols values) (elem_z c) present k choice' (objective_in call_table call_found.answer) call_found.rounds
