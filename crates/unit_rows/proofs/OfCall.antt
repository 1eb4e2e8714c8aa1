-- Note 14 of the call `sweep`: an accepted call under rule 3, from a factor whose numbers are finite and at most 2 in magnitude.
--     how_long_a_row_is   the request, for one sweep: each row that it rewrites has a squared length that differs from 1 by at most 2 ^ -40
--     call_lengths        for up to k: each row that one of them rewrites; the others are as they were; the numbers are finite and at most 2 again
--     call_next           rule, size and rank stay, so that the next call starts from such a factor too, whatever its table
--     length_kept         a row of that length keeps it
--     call_counts         for one sweep: the rows outside are those that Note 2 counts; `left_is` in the words of its pairs
--     all_rows            where a call for one sweep or more leaves the total as it was, every row of the factor has that length
-- By induction on sweeps, over rule3_length. Assumes nothing.
use borrow.Author.Tests.{not-false}
use mathlib.Core.Path.{◌≡◌, refl, sym, ap, ◌∙◌, subst}
use mathlib.Core.Bool.{Bool, true, false, not, cond}
use mathlib.Core.Logic.{⊎_elim}
use mathlib.Core.List.{List}
use Prim.Native.Nat.{ℕ, zero, suc, ◌+◌, ◌*◌, ◌≤◌, ◌<◌}
use native.Mathlib.Numerals.{add-one}
use native.Mathlib.Omega.{arith}
use lib.Ieee.{Float, nan}
use lib.ListN.{length, take, drop, length-append, get_or-append, take-append-drop}
use lib.Seq.{get_or-take, length-take-le, take_at}
use Rattle.limits.specs.Limits.{most_signs, most_sign_entries, most_sign_magnitude, most_rank}
use Rattle.laws.specs.Rows.{row_of}
use Rattle.laws.specs.Lists.{over, only_if, kept}
use Rattle.laws.proofs.Parts.{row_within, row_front, length_row_of}
use Rattle.std.proofs.lemmas.Bool.{cases_lt}
use Rattle.laws.proofs.Refusal.{clear, first_head, first_rest}
use Rattle.ieee.specs.Floats.{at, zero64}
use Rattle.tables.specs.Table.{Table}
use Rattle.tables.specs.Check.{Accepted}
use Rattle.sign_table.proofs.Theorems.{hall_sign_table}
use Rattle.prepared_table.specs.Work.{prepared_rows, prepared_cols, prepared_values, work_starts}
use Rattle.coordinate_sweep.specs.Sweep.{standing_to, norm_at, sweep_to, wrote}
use Rattle.step_rules.specs.Rule.{stepped, standing_in}
use Rattle.step_rules.specs.declared.StepRule.{StepRule}
use Rattle.step_rules.specs.declared.StepRule.TheVariants.{CoordNoStep}
use Rattle.row_length.specs.Length.{AtMostTwo, UnitLength, rewrites}
use Rattle.row_length.proofs.OfTable.{rule3_length, rule3_standing, rule3_size, rule3_low}
use Rattle.run_record.specs.declared.Run.{Run}
use Rattle.run_record.specs.declared.Stage.{Stage}
use Rattle.run_record.specs.declared.Stage.TheVariants.{Open, Stopped}
use Rattle.tables.specs.CostTable.{CostTable}
use Rattle.run_record.specs.Numbers.{is_stopped, sweep_number}
use Rattle.run_sweep.specs.Work.{Work, sign_table_of, work_of, call_work}
use Rattle.run_sweep.specs.Sweep.{State, while_open, swept_once, standing_once, sweeps_up_to, run_after, advanced}
use Rattle.run_sweep.proofs.Loop.{goes}
use Rattle.run_contract.specs.Calls.{Sweeps, used}
use Rattle.run_contract.specs.Log.{Made, is_left}
use Rattle.run_contract.proofs.Accepting.{Sweeping, sweep_accepted}
use Rattle.run_contract.proofs.Counting.{length_only}
use Rattle.unit_rows.specs.UnitRows.{Tame, rewritten_by, if_open_rewritten, ever_rewritten_by, rewritten, ever_rewritten, UnitRows, HowLongARowIs}

-- ---- what the first or the later sweeps rewrite

pub either_new : {U : Type 0} (first later : Bool) → (later ≡ true → U) → (first ≡ true → later ≡ false → U) → cond first true later ≡ true → U
either_new p true h k e = h refl
either_new true false h k e = k refl refl
either_new false false h k e = absurd (cc)

pub neither_new : {U : Type 0} (first later : Bool) → (first ≡ false → later ≡ false → U) → cond first true later ≡ false → U
neither_new true later h e = absurd (cc)
neither_new false later h e = h refl e

-- ---- sweeps over a table

module _ (q : Table) (m rank : ℕ) (table : Accepted most_signs most_sign_entries most_sign_magnitude m q) (thin : rank ≤ most_rank) where
  abbrev w : Work
  w = work_of q m

  abbrev once : List Float → List Float
  once rows = stepped CoordNoStep (prepared_rows q) (prepared_cols q) (prepared_values q) (work_starts q m) m rank rows

  -- a run under rule 3 and m rows of numbers that are finite and at most 2 in magnitude
  record Holds (run : Run) (rows : List Float) : Type 0 where
    size_is : run.size ≡ m
    rank_is : run.rank ≡ rank
    rule_is : run.rule ≡ CoordNoStep
    whole : length rows ≡ m * rank
    low : (k : ℕ) → k < m * rank → AtMostTwo (at rows k)

  module _ (run : Run) (rows : List Float) (h : Holds run rows) where
    small : (k : ℕ) → k < length rows → AtMostTwo (at rows k)
    small k l = h.low k (rw h.whole at l)

    once_is : swept_once w run rows ≡ once rows
    unfolding work_of
    once_is =
        ap (λ (r : StepRule). stepped r (prepared_rows q) (prepared_cols q) (prepared_values q) (work_starts q m) run.size run.rank rows) h.rule_is
        ∙ ap (λ (k : ℕ). stepped CoordNoStep (prepared_rows q) (prepared_cols q) (prepared_values q) (work_starts q m) k run.rank rows) h.size_is
        ∙ ap (λ (k : ℕ). stepped CoordNoStep (prepared_rows q) (prepared_cols q) (prepared_values q) (work_starts q m) m k rows) h.rank_is

    abbrev rows' : List Float
    rows' = swept_once w run rows

    abbrev run' : Run
    run' = run_after run w rows' (standing_once w run rows)

    holds_next : Holds run' rows'
    unfolding run_after advanced
    holds_next = record {
      size_is = h.size_is;
      rank_is = h.rank_is;
      rule_is = h.rule_is;
      whole = ap length once_is ∙ rule3_size q m rank rows table thin h.whole small;
      low = λ k l. subst (λ (f : List Float). AtMostTwo (at f k)) (sym once_is) (rule3_low q m rank rows table thin h.whole small k l);
    }

    rewrites_is : (i : ℕ) → rewritten_by w run rows i ≡ rewrites (prepared_cols q) (prepared_values q) (work_starts q m) rank rows i
    unfolding work_of
    rewrites_is i = ap (λ (k : ℕ). rewrites (prepared_cols q) (prepared_values q) (work_starts q m) k rows i) h.rank_is

    new_row : (i : ℕ) → i < m → rewritten_by w run rows i ≡ true → UnitLength (row_of rank rows' i)
    new_row i l e = subst (λ (f : List Float). UnitLength (row_of rank f i)) (sym once_is) (rule3_length q m rank rows table thin h.whole small i l (sym (rewrites_is i) ∙ e))

    old_row : (i : ℕ) → i < m → rewritten_by w run rows i ≡ false → row_of rank rows' i ≡ row_of rank rows i
    old_row i l e = ap (λ (f : List Float). row_of rank f i) once_is ∙ rule3_standing q m rank rows table thin h.whole small i l (sym (rewrites_is i) ∙ e)

  -- what some sweeps lead to
  record Ended (rows : List Float) (end : State) (new : ℕ → Bool) : Type 0 where
    holds : Holds end.run end.factor
    done : (i : ℕ) → i < m → new i ≡ true → UnitLength (row_of rank end.factor i)
    same : (i : ℕ) → i < m → new i ≡ false → row_of rank end.factor i ≡ row_of rank rows i

  ended_none : (run : Run) (rows : List Float) → Holds run rows → Ended rows (record { run = run; factor = rows }) (λ i. false)
  ended_none run rows h = record { holds = h; done = λ i l e. cc; same = λ i l e. refl }

  ended_more : (run : Run) (rows : List Float) (h : Holds run rows) (end : State) (new : ℕ → Bool) → Ended (swept_once w run rows) end new
      → Ended rows end (λ i. cond (rewritten_by w run rows i) true (new i))
  ended_more run rows h end new e = record {
    holds = e.holds;
    done = λ i l. either_new (rewritten_by w run rows i) (new i) (e.done i l) (λ f g. subst UnitLength (sym (e.same i l g)) (new_row run rows h i l f));
    same = λ i l. neither_new (rewritten_by w run rows i) (new i) (λ f g. e.same i l g ∙ old_row run rows h i l f);
  }

  ended : (k : ℕ) (run : Run) (rows : List Float) → Holds run rows → Ended rows (sweeps_up_to k w run rows) (ever_rewritten_by k w run rows)
  unfolding sweeps_up_to ever_rewritten_by
  ended zero run rows h = ended_none run rows h
  ended (suc k) run rows h =
      let next = run_after run w (swept_once w run rows) (standing_once w run rows) in
      let rest = ended k next (swept_once w run rows) (holds_next run rows h) in
      elim run.stage as (λ stage. Ended rows (while_open stage (sweeps_up_to k w next (swept_once w run rows)) (record { run = run; factor = rows })) (λ i. if_open_rewritten stage (cond (rewritten_by w run rows i) true (ever_rewritten_by k w next (swept_once w run rows) i)))) [
        | Open ↦ ended_more run rows h (sweeps_up_to k w next (swept_once w run rows)) (ever_rewritten_by k w next (swept_once w run rows)) rest
        | Stopped ↦ ended_none run rows h
      ]

-- ---- a call

open_run_lem : (run : Run) (t : CostTable) (lent : ℕ) → sweep_number run t lent ≡ 0 → is_stopped run.stage ≡ false
unfolding sweep_number
open_run_lem run t lent ok = clear (is_stopped run.stage) 31 (first_head _ _ (first_rest _ _ ok))

module _ (run : Run) (t : CostTable) (k : ℕ) (factor : List Float) (number : ℕ) (run' : Run) (factor' : List Float) (call : Sweeps run t k factor number run' factor') (ok : number ≡ 0)
    (rule : run.rule ≡ CoordNoStep) (tame : Tame run factor) where
  abbrev rows : List Float
  rows = take (used run) factor

  numbered : sweep_number run t (length factor) ≡ 0
  numbered = sym call.numbered ∙ ok

  s : Sweeping run t (length factor)
  s = sweep_accepted run t (length factor) numbered

  table : Accepted most_signs most_sign_entries most_sign_magnitude run.size (sign_table_of t)
  table = subst (λ (m : ℕ). Accepted most_signs most_sign_entries most_sign_magnitude m (sign_table_of t)) (sym (s.size_is ∙ add-one t.n)) (hall_sign_table s.hall)

  rows_whole : length rows ≡ used run
  rows_whole = length-take-le (used run) factor s.factor_room

  starts_so : Holds (sign_table_of t) run.size run.rank table s.rank_few run rows
  starts_so = record {
    size_is = refl;
    rank_is = refl;
    rule_is = rule;
    whole = rows_whole;
    low = λ j l. subst AtMostTwo (sym (get_or-take (used run) factor j nan l)) (tame j l);
  }

  work_is : work_of (sign_table_of t) run.size ≡ call_work t
  unfolding call_work
  work_is = ap (work_of (sign_table_of t)) s.size_is

  abbrev end : State
  end = sweeps_up_to k (call_work t) run rows

  ends : Ended (sign_table_of t) run.size run.rank table s.rank_few rows end (ever_rewritten_by k (call_work t) run rows)
  ends =
      subst (λ (w : Work). Ended (sign_table_of t) run.size run.rank table s.rank_few rows (sweeps_up_to k w run rows) (ever_rewritten_by k w run rows)) work_is
      (ended (sign_table_of t) run.size run.rank table s.rank_few k run rows starts_so)

  left : factor' ≡ over end.factor factor
  left = (call.accepted ok).1

  end_row : (i : ℕ) → i < run.size → row_of run.rank factor' i ≡ row_of run.rank end.factor i
  end_row i l =
      ap (λ (f : List Float). row_of run.rank f i) left
      ∙ row_front run.rank end.factor (drop (length end.factor) factor) i (rw ends.holds.whole (row_within i run.size run.rank l))

  entry_row : (i : ℕ) → i < run.size → row_of run.rank rows i ≡ row_of run.rank factor i
  entry_row i l =
      sym (row_front run.rank rows (drop (used run) factor) i (rw rows_whole (row_within i run.size run.rank l)))
      ∙ ap (λ (f : List Float). row_of run.rank f i) (take-append-drop (used run) factor)

  pub call_lengths : UnitRows (ever_rewritten run t k factor) run factor factor'
  call_lengths = record {
    rewritten_rows = λ i l e. subst UnitLength (sym (end_row i l)) (ends.done i l e);
    standing_rows = λ i l e. end_row i l ∙ ends.same i l e ∙ entry_row i l;
    whole_rows = λ i l. ap length (end_row i l) ∙ length_row_of run.rank i end.factor (rw ends.holds.whole (row_within i run.size run.rank l));
    tame = λ j l. subst AtMostTwo (sym (ap (λ (f : List Float). at f j) left ∙ get_or-append end.factor (drop (length end.factor) factor) nan j (rw ends.holds.whole l))) (ends.holds.low j l);
  }

  -- the same of the run's rows alone, without what lies behind them in the slice
  front_is : take (used run) factor' ≡ end.factor
  front_is = ap (take (used run)) left ∙ take_at end.factor (drop (length end.factor) factor) (used run) ends.holds.whole

  front_row : (i : ℕ) → i < run.size → row_of run.rank (take (used run) factor') i ≡ row_of run.rank factor' i
  front_row i l = ap (λ (f : List Float). row_of run.rank f i) front_is ∙ sym (end_row i l)

  pub rows_kept : length (take (used run) factor') ≡ used run
  rows_kept = ap length front_is ∙ ends.holds.whole

  pub call_rows : UnitRows (ever_rewritten run t k factor) run (take (used run) factor) (take (used run) factor')
  call_rows = record {
    rewritten_rows = λ i l e. subst UnitLength (sym (front_row i l)) (call_lengths.rewritten_rows i l e);
    standing_rows = λ i l e. front_row i l ∙ call_lengths.standing_rows i l e ∙ sym (entry_row i l);
    whole_rows = λ i l. ap length (front_row i l) ∙ call_lengths.whole_rows i l;
    tame = λ j l. subst AtMostTwo (sym (get_or-take (used run) factor' j nan l)) (call_lengths.tame j l);
  }

  -- a row of that length keeps it, whether it is rewritten or not
  pub length_kept : (i : ℕ) → i < run.size → UnitLength (row_of run.rank factor i) → UnitLength (row_of run.rank factor' i)
  length_kept i l u = by (ever_rewritten run t k factor i) refl
    where
      by : (b : Bool) → ever_rewritten run t k factor i ≡ b → UnitLength (row_of run.rank factor' i)
      by true e = call_lengths.rewritten_rows i l e
      by false e = subst UnitLength (sym (call_lengths.standing_rows i l e)) u

  exit_run : run' ≡ end.run
  exit_run = (call.accepted ok).0

  pub size_kept : run'.size ≡ run.size
  size_kept = ap (λ (r : Run). r.size) exit_run ∙ ends.holds.size_is

  pub rank_kept : run'.rank ≡ run.rank
  rank_kept = ap (λ (r : Run). r.rank) exit_run ∙ ends.holds.rank_is

  -- what the next call starts from
  pub call_next : (run'.rule ≡ CoordNoStep) × Tame run' factor'
  call_next = (
    ap (λ (r : Run). r.rule) exit_run ∙ ends.holds.rule_is,
    subst (λ (n : ℕ). (j : ℕ) → j < n → AtMostTwo (at factor' j)) (sym (ap (λ (m : ℕ). m * run'.rank) size_kept ∙ ap (λ (r : ℕ). run.size * r) rank_kept)) call_lengths.tame,
  )

-- ---- one sweep

open_once : (stage : Stage) (a : Bool) → is_stopped stage ≡ false → if_open_rewritten stage (cond a true false) ≡ a
open_once Open true e = refl
open_once Open false e = refl
open_once Stopped a e = cc

ever_once : (w : Work) (run : Run) (rows : List Float) (i : ℕ) → is_stopped run.stage ≡ false → ever_rewritten_by 1 w run rows i ≡ rewritten_by w run rows i
unfolding ever_rewritten_by
ever_once w run rows i e = open_once run.stage (rewritten_by w run rows i) e

one_standing : (w : Work) (run : Run) (rows : List Float) → is_stopped run.stage ≡ false → (sweeps_up_to 1 w run rows).run.standing ≡ run.standing + standing_once w run rows
unfolding sweeps_up_to run_after advanced
one_standing w run _ e = ap (λ (s : State). s.run.standing) (goes run.stage _ _ e)

counted : (cols : List ℕ) (values : List Float) (starts : List ℕ) (rank : ℕ) (rows : List Float) (n : ℕ)
    → standing_to cols values starts rank zero64 rows n ≡ length (kept (λ i. not (rewrites cols values starts rank rows i)) (λ i. i) n)
unfolding standing_to kept rewrites
counted cols values starts rank rows zero = refl
counted cols values starts rank rows (suc n) =
    sym (rw (length-append, sym (counted cols values starts rank rows n), length_only (wrote (norm_at cols values starts rank (sweep_to cols values starts rank zero64 rows n) n)) n) refl)

once_counted : (w : Work) (run : Run) (rows : List Float) → run.rule ≡ CoordNoStep → standing_once w run rows ≡ length (kept (λ i. not (rewritten_by w run rows i)) (λ i. i) run.size)
unfolding standing_in
once_counted w run rows rule =
    ap (λ (r : StepRule). standing_in r w.cols w.values w.starts run.size run.rank rows) rule
    ∙ counted w.cols w.values w.starts run.rank rows run.size

-- Note 2's word for it, of a sweep of the log
pub left_is : (s : Made) (i : ℕ) → is_left s zero64 i ≡ not (rewrites s.work.cols s.work.values s.work.starts s.rank s.factor i)
unfolding rewrites
left_is s i = refl

module _ (run : Run) (t : CostTable) (factor : List Float) (number : ℕ) (run' : Run) (factor' : List Float) (call : Sweeps run t 1 factor number run' factor') (ok : number ≡ 0)
    (rule : run.rule ≡ CoordNoStep) where
  opened : is_stopped run.stage ≡ false
  opened = open_run_lem run t (length factor) (sym call.numbered ∙ ok)

  same_rows : (i : ℕ) → ever_rewritten run t 1 factor i ≡ rewritten run t factor i
  same_rows i = ever_once (call_work t) run (take (used run) factor) i opened

  pub call_length : Tame run factor → UnitRows (rewritten run t factor) run factor factor'
  call_length tame =
      let u = call_lengths run t 1 factor number run' factor' call ok rule tame in
      record {
        rewritten_rows = λ i l e. u.rewritten_rows i l (same_rows i ∙ e);
        standing_rows = λ i l e. u.standing_rows i l (same_rows i ∙ e);
        whole_rows = u.whole_rows;
        tame = u.tame;
      }

  -- the rows that it leaves standing are as many as Note 2's total grows by
  pub call_counts : run'.standing ≡ run.standing + length (kept (λ i. not (rewritten run t factor i)) (λ i. i) run.size)
  call_counts =
      ap (λ (r : Run). r.standing) (call.accepted ok).0
      ∙ one_standing (call_work t) run (take (used run) factor) opened
      ∙ ap (λ (c : ℕ). run.standing + c) (once_counted (call_work t) run (take (used run) factor) rule)

-- the request
pub how_long_a_row_is : HowLongARowIs
how_long_a_row_is run t factor number run' factor' one = call_length run t factor number run' factor' one.says one.accepted one.rule_3 one.from_tame

-- ---- a total that stays

next_standing : (w : Work) (run : Run) (rows : List Float) → (run_after run w (swept_once w run rows) (standing_once w run rows)).standing ≡ run.standing + standing_once w run rows
unfolding run_after advanced
next_standing w run _ = refl

never_falls : (k : ℕ) (w : Work) (run : Run) (rows : List Float) → run.standing ≤ (sweeps_up_to k w run rows).run.standing
unfolding sweeps_up_to
never_falls zero w run rows = omega arith
never_falls (suc k) w run rows =
    let next = run_after run w (swept_once w run rows) (standing_once w run rows) in
    let rest = never_falls k w next (swept_once w run rows) in
    let grown = next_standing w run rows in
    elim run.stage as (λ stage. run.standing ≤ (while_open stage (sweeps_up_to k w next (swept_once w run rows)) (record { run = run; factor = rows })).run.standing) [
      | Open ↦ omega (arith, rest, grown)
      | Stopped ↦ omega arith
    ]

first_left : (k : ℕ) (w : Work) (run : Run) (rows : List Float) → is_stopped run.stage ≡ false → run.standing + standing_once w run rows ≤ (sweeps_up_to (suc k) w run rows).run.standing
unfolding sweeps_up_to
first_left k w run rows e =
    let next = run_after run w (swept_once w run rows) (standing_once w run rows) in
    let rest = never_falls k w next (swept_once w run rows) in
    let grown = next_standing w run rows in
    let picked = ap (λ (s : State). s.run.standing) (goes run.stage (sweeps_up_to k w next (swept_once w run rows)) (record { run = run; factor = rows }) e) in
    omega (arith, rest, grown, picked)

only_none : (b : Bool) (i : ℕ) → length (only_if b i) ≡ 0 → b ≡ false
only_none true i e = absurd (omega (arith, e))
only_none false i e = refl

none_kept : (keep : ℕ → Bool) (n i : ℕ) → length (kept keep (λ j. j) n) ≡ 0 → i < n → keep i ≡ false
unfolding kept
none_kept keep zero i e l = absurd (omega arith)
none_kept keep (suc n) i e l =
    let parts = length-append (kept keep (λ j. j) n) (only_if (keep n) n) in
    let below : length (kept keep (λ j. j) n) ≡ 0 = omega (arith, e, parts) in
    let last : length (only_if (keep n) n) ≡ 0 = omega (arith, e, parts) in
    ⊎_elim (λ b. none_kept keep n i below b) (λ b. let z : n ≡ i = omega (arith, b, l) in subst (λ (j : ℕ). keep j ≡ false) z (only_none (keep n) n last)) (cases_lt i n)

open_true : (stage : Stage) (a b : Bool) → is_stopped stage ≡ false → a ≡ true → if_open_rewritten stage (cond a true b) ≡ true
open_true Open true b o e = refl
open_true Open false b o e = cc
open_true Stopped a b o e = cc

ever_first : (k : ℕ) (w : Work) (run : Run) (rows : List Float) (i : ℕ) → is_stopped run.stage ≡ false → rewritten_by w run rows i ≡ true → ever_rewritten_by (suc k) w run rows i ≡ true
unfolding ever_rewritten_by
ever_first k w run rows i o e = open_true run.stage (rewritten_by w run rows i) _ o e

module _ (run : Run) (t : CostTable) (k : ℕ) (factor : List Float) (number : ℕ) (run' : Run) (factor' : List Float) (call : Sweeps run t (suc k) factor number run' factor') (ok : number ≡ 0)
    (rule : run.rule ≡ CoordNoStep) (tame : Tame run factor) (same : run'.standing ≡ run.standing) where
  pub all_rows : (i : ℕ) → i < run.size → UnitLength (row_of run.rank factor' i)
  all_rows i l =
      let opened_then = open_run_lem run t (length factor) (sym call.numbered ∙ ok) in
      let grew = first_left k (call_work t) run (take (used run) factor) opened_then in
      let ended_so = ap (λ (r : Run). r.standing) (call.accepted ok).0 in
      let count = once_counted (call_work t) run (take (used run) factor) rule in
      let none_left : length (kept (λ j. not (rewritten run t factor j)) (λ j. j) run.size) ≡ 0 = omega (arith, grew, ended_so, same, count) in
      (call_lengths run t (suc k) factor number run' factor' call ok rule tame).rewritten_rows i l
      (ever_first k (call_work t) run (take (used run) factor) i opened_then
      (not-false (rewritten run t factor i) (none_kept (λ j. not (rewritten run t factor j)) run.size i none_left l)))
