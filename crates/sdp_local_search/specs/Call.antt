-- What `beam_search` answers and leaves in the slices lent to it.
use Rattle.std.specs.Prelude.{ℕ, List, ◌≡◌, ℤ, length, drop, Result, Ok, Err}
use Rattle.laws.specs.Lists.{over}
use Rattle.tables.specs.Table.{table_of}
use Rattle.local_search.specs.LocalSearch.{Found}
use Rattle.sign_search.specs.declared.search.Searched.{Searched}
use Rattle.sign_search.specs.Search.{objective_in, beam_search}
use Rattle.sdp_local_search.specs.BeamSearch.{Limits, search_short, search_refusal, sign_bytes}

-- 01's number of an answer: 0 where the search was made, else the refusal's
abbrev pub number_of : Result Searched ℕ → ℕ
number_of (Ok found) = 0
number_of (Err k) = k

-- what a search answers: its objective, and the rounds
abbrev pub Answer : ℤ → ℕ → Result Searched ℕ
Answer objective rounds = Ok (record { least = objective; rounds = rounds })

module _ (most : Limits) (m count : ℕ) (rows cols : List ℕ) (values : List ℤ) (width : ℕ) (start out workspace : List ℕ) where
  -- the number for these arguments
  abbrev pub call_number : ℕ
  call_number =
      search_refusal most m width (search_short most m count (length rows) (length cols) (length values) (length start) (length out) (length workspace))
      (table_of count rows cols values)

  -- 01's search from the start's signs
  abbrev pub call_found : Found (List ℕ)
  call_found = beam_search (table_of count rows cols values) width (sign_bytes m start)

  -- the contract
  pub record BeamSearches (out' workspace' : List ℕ) (r : Result Searched ℕ) : Type 0 where
    -- the number is the first that applies
    pub numbered : number_of r ≡ call_number
    -- a refusal leaves every slice as it was
    pub refused : (call_number ≡ 0 → ⊥) → (out' ≡ out) × (workspace' ≡ workspace)
    -- where no number applies, the objective and the rounds of the search are answered, and its signs stand in `out`, whose tail stays
    pub answers : call_number ≡ 0 → r ≡ Answer (objective_in (table_of count rows cols values) call_found.answer) call_found.rounds
    pub writes : call_number ≡ 0 → out' ≡ over call_found.answer out
    -- of the workspace no more is written than the call asks
    pub kept : drop most.workspace workspace' ≡ drop most.workspace workspace
