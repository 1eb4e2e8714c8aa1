-- What a caller sees who makes a list of turns on the same runs and tables, each doing anything that its `ensures` allows; the plain runs that
-- share them; and what is claimed of every list. Definitions only.
use Rattle.std.specs.Prelude.{ℕ, ◌+◌, ◌≤◌, ◌<◌, ◌≡◌, cond, List, [], ◌∷◌, ◌++◌, ◌⊎◌, eqb, length, take, drop, Float, Ok}
use Rattle.laws.specs.Lists.{tabulate}
use Rattle.run_record.specs.declared.Stage.TheVariants.{Stopped}
use Rattle.run_record.specs.declared.Run.{Run}
use Rattle.run_sweep.specs.Work.{Work, call_work}
use Rattle.run_contract.specs.Calls.{Settings, Opens, used, Exchanges}
use Rattle.run_contract.specs.PlainRun.{Plain, FinishCall, ExchangeCall, exchange, plain_open, plain_sweeps, plain_after, record_of, finish_of}
use Rattle.run_contract.specs.Chain.{Lends, kept_after}
use Rattle.several_runs.specs.Turn.{Tables, table_at, run_at, factor_at, turn_number, share_of, joined, Turns}

-- a turn's arguments but records, tables and the contents of the factors
pub record TurnCall : Type 0 where
  pub sweeps : ℕ
  pub factors_length : ℕ

-- what is seen of a turn: its number, and the records and factors after it
pub record TurnSeen : Type 0 where
  pub number : ℕ
  pub runs : List Run
  pub factors : List Float

-- of so many runs
abbrev pub seen_of : ℕ → ℕ → (ℕ → Run) → List Float → TurnSeen
seen_of count number at factors = record { number = number; runs = tabulate at count; factors = factors }

-- from records and kept factors, one after another, a list of turns and what is seen after each
pub data TurnChain (count : ℕ) (t : Tables) : List Run → List Float → List TurnCall → List TurnSeen → Type 0 where
  ends : {runs : List Run} {kept : List Float} → TurnChain count t runs kept [] []
  turns : {runs : List Run} {kept : List Float} {call : TurnCall} {calls : List TurnCall} {seen : List TurnSeen}
      (factors : List Float) (number : ℕ) (runs' : List Run) (factors' : List Float)
      → Lends kept call.factors_length factors
      → Turns call.sweeps count runs t factors number runs' factors'
      → TurnChain count t runs' (kept_after kept call.factors_length factors') calls seen
      → TurnChain count t runs kept (call ∷ calls) (seen_of count number (run_at runs') (kept_after kept call.factors_length factors') ∷ seen)

-- records and factors as the last of them left them
abbrev pub runs_left : {count : ℕ} {t : Tables} {runs : List Run} {kept : List Float} {calls : List TurnCall} {seen : List TurnSeen} → TurnChain count t runs kept calls seen → List Run
runs_left (ends {runs = runs}) = runs
runs_left (turns factors number runs' factors' lends says chain) = runs_left chain

abbrev pub factors_left : {count : ℕ} {t : Tables} {runs : List Run} {kept : List Float} {calls : List TurnCall} {seen : List TurnSeen} → TurnChain count t runs kept calls seen → List Float
factors_left (ends {kept = kept}) = kept
factors_left (turns factors number runs' factors' lends says chain) = factors_left chain

-- run i's part of factors that are kept one after another
abbrev pub kept_at : List Run → List Float → ℕ → List Float
kept_at runs kept i = take (used (run_at runs i)) (drop (factor_at (run_at runs) i) kept)

-- runs that were opened, each by an accepted open, and whose factors are kept one after another
pub record OpenedAll (count : ℕ) (o : ℕ → Settings) (runs : List Run) (kept : List Float) : Type 0 where
  pub room : count ≤ length runs
  pub lent : ℕ → List Float
  pub left : ℕ → List Float
  pub opens : (i : ℕ) → i < count → Opens (o i) (lent i) (Ok (run_at runs i)) (left i)
  pub kept_are : kept ≡ joined (λ i. take (used (run_at runs i)) (left i)) count

-- ---- the plain runs

module _ (count : ℕ) (t : Tables) where
  -- the table of plain run i, its diagonal set aside
  abbrev pub work_at : ℕ → Work
  work_at i = call_work (table_at t i)

  -- numbers and shares are judged on their records
  unfoldable pub shared_number : (ℕ → Plain) → TurnCall → ℕ
  shared_number at call = turn_number call.sweeps count (λ i. record_of (at i)) t call.factors_length

  unfoldable pub shared_share : (ℕ → Plain) → TurnCall → ℕ → ℕ
  shared_share at call i = share_of call.sweeps count (λ j. record_of (at j)) i

  -- the sweeps that run i gets of a turn, none of a refused one
  unfoldable pub gets : (ℕ → Plain) → TurnCall → ℕ → ℕ
  gets at call i = cond (eqb (shared_number at call) 0) (shared_share at call i) 0

  -- each makes up to its share; a refused turn moves none
  unfoldable pub shared_after : (ℕ → Plain) → TurnCall → ℕ → Plain
  shared_after at call i = plain_sweeps (gets at call i) (work_at i) (at i)

  abbrev pub shared_seen : ℕ → (ℕ → Plain) → TurnSeen
  shared_seen number at = seen_of count number (λ i. record_of (at i)) (joined (λ i. (at i).factor) count)

  abbrev pub shared_trace : (ℕ → Plain) → List TurnCall → List TurnSeen
  shared_trace at [] = []
  shared_trace at (call ∷ calls) = shared_seen (shared_number at call) (shared_after at call) ∷ shared_trace (shared_after at call) calls

  -- the states after a list; how many of its turns were accepted; how many sweeps run i got in them
  abbrev pub shared_end : (ℕ → Plain) → List TurnCall → ℕ → Plain
  shared_end at [] = at
  shared_end at (call ∷ calls) = shared_end (shared_after at call) calls

  abbrev pub accepted_in : (ℕ → Plain) → List TurnCall → ℕ
  accepted_in at [] = 0
  accepted_in at (call ∷ calls) = cond (eqb (shared_number at call) 0) 1 0 + accepted_in (shared_after at call) calls

  abbrev pub got : (ℕ → Plain) → List TurnCall → ℕ → ℕ
  got at [] i = 0
  got at (call ∷ calls) i = gets at call i + got (shared_after at call) calls i

  -- ---- the claims, of runs that were opened so, after every list of turns

  -- so many more sweeps, or fewer and it has stopped
  abbrev pub Makes : ℕ → Plain → Plain → Type 0
  Makes k p q = (q.sweeps ≡ p.sweeps + k) ⊎ ((q.sweeps < p.sweeps + k) × (q.stage ≡ Stopped))

  -- the run alone, to its most
  abbrev pub alone_at : (ℕ → Settings) → ℕ → Plain
  alone_at o i = plain_sweeps (o i).most (work_at i) (plain_open (o i))

  pub record Shared (o : ℕ → Settings) (calls : List TurnCall) (i : ℕ) : Type 0 where
    -- "each run makes in a turn exactly the sweeps it gets, fewer only where it stops": the turn after this list
    pub exact : (call : TurnCall) → shared_number (shared_end (λ j. plain_open (o j)) calls) call ≡ 0
        → Makes (shared_share (shared_end (λ j. plain_open (o j)) calls) call i) (shared_end (λ j. plain_open (o j)) calls i)
        (shared_end (λ j. plain_open (o j)) (calls ++ (call ∷ [])) i)
    -- "A run with most sweeps K has stopped after at most K turns"
    pub ends : (o i).most ≤ accepted_in (λ j. plain_open (o j)) calls → (shared_end (λ j. plain_open (o j)) calls i).stage ≡ Stopped
    -- up to here it is the run alone after as many sweeps as it got
    pub so_far : shared_end (λ j. plain_open (o j)) calls i ≡ plain_sweeps (got (λ j. plain_open (o j)) calls i) (work_at i) (plain_open (o i))
    -- "its factor, status .. are those of the run alone": the whole state is
    pub alone : (shared_end (λ j. plain_open (o j)) calls i).stage ≡ Stopped → shared_end (λ j. plain_open (o j)) calls i ≡ alone_at o i
    -- "for the same W and draws, choice"
    pub choice : (shared_end (λ j. plain_open (o j)) calls i).stage ≡ Stopped → (f : FinishCall)
        → finish_of (shared_end (λ j. plain_open (o j)) calls i) f ≡ finish_of (alone_at o i) f

  -- the one statement on a list of turns, refused ones included
  pub record OnEveryList (o : ℕ → Settings) (calls : List TurnCall) (seen : List TurnSeen) : Type 0 where
    -- each is seen as plain runs that share it have it: its number, and records and factors after it
    pub seen_so : seen ≡ shared_trace (λ i. plain_open (o i)) calls
    pub each : (i : ℕ) → i < count → Shared o calls i

-- ---- an exchange between turns (02, Note 12)

-- records of which run i's is what an exchange of its rule may leave, the others as they were
pub record OneExchanged (count : ℕ) (runs : List Run) (i : ℕ) (call : ExchangeCall) (number : ℕ) (runs' : List Run) : Type 0 where
  pub within : i < count
  pub room : count ≤ length runs'
  pub says : Exchanges (run_at runs i) call.rule call.number number (run_at runs' i)
  pub others : (j : ℕ) → j < count → (j ≡ i → ⊥) → run_at runs' j ≡ run_at runs j

-- plain runs of which run i takes it, by demand 3's plain run
abbrev pub exchanged_at : (ℕ → Plain) → ℕ → ExchangeCall → ℕ → Plain
exchanged_at at i call j = cond (eqb j i) (plain_after (at j) (exchange call)) (at j)
