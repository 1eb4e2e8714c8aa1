-- Note 14 of every later sweep of rule 3, one statement on any number of calls: from m rows of numbers that are finite and at most 2 in magnitude, each
-- row that one of the sweeps rewrites has at the end a squared length that differs from 1 by at most 2 ^ -40, and each other row is as it was.
-- By induction on the calls, over call_rows. Assumes nothing.
use mathlib.Core.Path.{◌≡◌, refl, sym, ap, ◌∙◌, subst}
use mathlib.Core.Bool.{Bool, true, false, cond}
use mathlib.Core.List.{List}
use Prim.Native.Nat.{ℕ, zero, suc, ◌*◌, ◌<◌}
use native.Mathlib.Omega.{arith}
use lib.Ieee.{Float, nan}
use lib.ListN.{length, take}
use lib.Seq.{get_or-take}
use Rattle.laws.specs.Rows.{row_of}
use Rattle.laws.proofs.Parts.{row_within, length_row_of}
use Rattle.step_rules.specs.declared.StepRule.TheVariants.{CoordNoStep}
use Rattle.row_length.specs.Length.{AtMostTwo, UnitLength}
use Rattle.run_record.specs.declared.Run.{Run}
use Rattle.tables.specs.CostTable.{CostTable}
use Rattle.run_contract.specs.Calls.{Sweeps, used}
use Rattle.unit_rows.specs.UnitRows.{Tame, ever_rewritten, UnitRows, if_accepted, Calls, ends, sweeps, others, rewritten_in, EveryLaterSweep}
use Rattle.unit_rows.proofs.OfCall.{either_new, neither_new, call_rows, rows_kept, size_kept, rank_kept}

-- ---- the same size and rank

used_same : (run run' : Run) → run'.size ≡ run.size → run'.rank ≡ run.rank → used run' ≡ used run
used_same run run' s r = ap (λ (m : ℕ). m * run'.rank) s ∙ ap (λ (k : ℕ). run.size * k) r

same_tame : (run run' : Run) (rows : List Float) → run'.size ≡ run.size → run'.rank ≡ run.rank → Tame run rows → Tame run' rows
same_tame run run' rows s r tame = λ j l. tame j (subst (λ (n : ℕ). j < n) (used_same run run' s r) l)

same_rows : (new : ℕ → Bool) (run run' : Run) (rows rows' : List Float) → run'.size ≡ run.size → run'.rank ≡ run.rank → UnitRows new run' rows rows' → UnitRows new run rows rows'
same_rows new run run' rows rows' s r u = record {
  rewritten_rows = λ i l e. subst (λ (k : ℕ). UnitLength (row_of k rows' i)) r (u.rewritten_rows i (within i l) e);
  standing_rows = λ i l e. subst (λ (k : ℕ). row_of k rows' i ≡ row_of k rows i) r (u.standing_rows i (within i l) e);
  whole_rows = λ i l. subst (λ (k : ℕ). length (row_of k rows' i) ≡ k) r (u.whole_rows i (within i l));
  tame = same_tame run' run rows' (sym s) (sym r) u.tame;
}
  where
    within : (i : ℕ) → i < run.size → i < run'.size
    within i l = subst (λ (m : ℕ). i < m) (sym s) l

-- ---- no call, and one after another

none_new : (run : Run) (rows : List Float) → length rows ≡ used run → Tame run rows → UnitRows (λ i. false) run rows rows
none_new run rows whole tame = record {
  rewritten_rows = λ i l e. cc;
  standing_rows = λ i l e. refl;
  whole_rows = λ i l. length_row_of run.rank i rows (rw whole (row_within i run.size run.rank l));
  tame = tame;
}

join : (first later : ℕ → Bool) (run : Run) (rows between rows' : List Float) → UnitRows first run rows between → UnitRows later run between rows'
    → UnitRows (λ i. cond (first i) true (later i)) run rows rows'
join first later run rows between rows' a b = record {
  rewritten_rows = λ i l. either_new (first i) (later i) (b.rewritten_rows i l) (λ f g. subst UnitLength (sym (b.standing_rows i l g)) (a.rewritten_rows i l f));
  standing_rows = λ i l. neither_new (first i) (later i) (λ f g. b.standing_rows i l g ∙ a.standing_rows i l f);
  whole_rows = b.whole_rows;
  tame = b.tame;
}

-- ---- a call of sweeps, accepted or not

-- what it leaves
record Leaves (run : Run) (rows : List Float) (new : ℕ → Bool) (run' : Run) (rows' : List Float) : Type 0 where
  made : UnitRows new run rows rows'
  whole : length rows' ≡ used run
  size_is : run'.size ≡ run.size
  rank_is : run'.rank ≡ run.rank

module _ (run : Run) (t : CostTable) (k : ℕ) (factor : List Float) (run' : Run) (factor' : List Float) (rule : run.rule ≡ CoordNoStep)
    (whole : length (take (used run) factor) ≡ used run) (tame : Tame run (take (used run) factor)) where
  lent_tame : Tame run factor
  lent_tame j l = subst AtMostTwo (get_or-take (used run) factor j nan l) (tame j l)

  leaves : (number : ℕ) → Sweeps run t k factor number run' factor'
      → Leaves run (take (used run) factor) (λ i. if_accepted number (ever_rewritten run t k factor i)) run' (take (used run) factor')
  leaves zero says = record {
    made = call_rows run t k factor 0 run' factor' says refl rule lent_tame;
    whole = rows_kept run t k factor 0 run' factor' says refl rule lent_tame;
    size_is = size_kept run t k factor 0 run' factor' says refl rule lent_tame;
    rank_is = rank_kept run t k factor 0 run' factor' says refl rule lent_tame;
  }
  leaves (suc number) says =
      let same = says.refused (λ z. omega arith) in
      let stays : take (used run) factor ≡ take (used run) factor' = ap (take (used run)) (sym same.1) in
      record {
        made = subst (λ (rows : List Float). UnitRows (λ i. false) run (take (used run) factor) rows) stays (none_new run (take (used run) factor) whole tame);
        whole = ap length (sym stays) ∙ whole;
        size_is = ap (λ (r : Run). r.size) same.0;
        rank_is = ap (λ (r : Run). r.rank) same.0;
      }

-- ---- any number of calls

module _ (run : Run) (rows : List Float) (new : ℕ → Bool) (run' : Run) (between : List Float) (a : Leaves run rows new run' between) where
  next_whole : length between ≡ used run'
  next_whole = a.whole ∙ sym (used_same run run' a.size_is a.rank_is)

  next_tame : Tame run' between
  next_tame = same_tame run run' between a.size_is a.rank_is a.made.tame

  then : (later : ℕ → Bool) (rows' : List Float) → UnitRows later run' between rows' → UnitRows (λ i. cond (new i) true (later i)) run rows rows'
  then later rows' b = join new later run rows between rows' a.made (same_rows later run run' between rows' a.size_is a.rank_is b)

by_calls : {run : Run} {rows : List Float} {run' : Run} {rows' : List Float} (calls : Calls run rows run' rows') → length rows ≡ used run → Tame run rows
    → UnitRows (rewritten_in calls) run rows rows'
unfolding rewritten_in
by_calls (ends {run = run} {rows = rows}) whole tame = none_new run rows whole tame
by_calls (sweeps {run = run} {rows = rows} {rows'' = rows''} t k factor number run' factor' rule front says rest) whole tame =
    let a = leaves run t k factor run' factor' rule (ap length front ∙ whole) (subst (Tame run) (sym front) tame) number says in
    let b = by_calls rest (next_whole run _ _ run' _ a) (next_tame run _ _ run' _ a) in
    subst (λ (v : List Float). UnitRows (λ i. cond (if_accepted number (ever_rewritten run t k factor i)) true (rewritten_in rest i)) run v rows'') front (then run _ _ run' _ a (rewritten_in rest) rows'' b)
by_calls (others {run = run} {rows = rows} {rows'' = rows''} run' size rank rest) whole tame =
    same_rows (rewritten_in rest) run run' rows rows'' size rank
    (by_calls rest (whole ∙ sym (used_same run run' size rank)) (same_tame run run' rows size rank tame))

pub every_later_sweep : EveryLaterSweep
every_later_sweep run rows run' rows' calls whole tame = by_calls calls whole tame
