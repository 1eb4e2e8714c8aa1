-- What reading accepts, the run's calls accept: after it open, sweep and finish refuse nothing. Assumes nothing.
--     opens       the job's open
--     sweeps      a sweep of the record just opened, where its most is above 0
--     stops       the record after the sweeps, or just opened where the most is 0, is stopped
--     finishes    its finish
use Prim.Native.Nat.{ℕ, zero, suc, ◌+◌, ◌*◌, ◌≤◌, ◌<◌}
use mathlib.Core.Path.{◌≡◌, refl, sym, ap, subst, ◌∙◌}
use mathlib.Core.Bool.{true, false, cond}
use mathlib.Core.List.{List}
use native.Mathlib.Omega.{arith}
use lib.Dec.{ltb}
use lib.ListN.{length}
use borrow.Author.Tests.{lt-ltb, ne_eqb}
use Rattle.laws.specs.Lists.{tabulate}
use Rattle.laws.proofs.Made.{length_tabulate}
use Rattle.limits.specs.Limits.{most_wagons, most_rank, search_workspace}
use Rattle.run_record.specs.declared.Run.{Run}
use Rattle.run_limits.specs.Rank.{rank_meant}
use Rattle.run_limits.specs.Momentum.{is_momentum}
use Rattle.run_limits.specs.Start.{start_length}
use Rattle.run_record.specs.Numbers.{is_stopped, bad_momentum, sweep_number, FinishLengths, width_refused, finish_number, open_rank_refused}
use Rattle.run_limits.proofs.Ranks.{meant_low, meant_some}
use Rattle.run_sweep.specs.Work.{Work, call_work}
use Rattle.run_sweep.specs.Sweep.{State, sweeps_up_to}
use Rattle.run_sweep.specs.Running.{Running}
use Rattle.step_rules.specs.Rule.{rule_of}
use Rattle.run_contract.specs.Calls.{Settings, first_stage, open_size, open_rank, open_run, start_factor, open_number_of, used}
use Rattle.job_record.specs.Number.{job_number}
use Rattle.job_record.specs.Values.{job_by, job_of, job_rank, job_start_count, job_start, job_drawn}
use Rattle.job_record.proofs.Accepted.{fields}
use Rattle.record_call.specs.Record.{run_costs, job_settings, opened, stopped}
use Rattle.run_contract.specs.PlainRun.{Plain, plain_open, plain_sweeps, record_of}
use Rattle.run_contract.proofs.Follows.{state_of, sweeps_follow}
use Rattle.run_contract.proofs.Tails.{start_long, length_sweeps}
use Rattle.record_call.proofs.Stopping.{Sound, Ended, ends}
use Rattle.record_call.proofs.Freed.{costs_there, costs_pass, run_n, run_hall}
use Rattle.record_call.proofs.Unrefused.{rule_passes, momentum_passes, rank_passes, open_passes, stopped_record, open_record, sweep_passes, width_passes, finish_passes}

is_open : (most : ℕ) → 0 < most → is_stopped (first_stage most) ≡ false
unfolding first_stage
is_open most h = rw (ne_eqb most 0 (λ z. omega (arith, z)))

-- no sweep up to a most of 0
none : (most : ℕ) (w : Work) (p : Plain) → cond (ltb 0 most) (plain_sweeps most w p) p ≡ plain_sweeps most w p
unfolding plain_sweeps
none zero w p = refl
none (suc most) w p = rw (lt-ltb 0 (suc most) (omega arith))

-- the calls' sweeps of a run just opened are the plain run's
opened_follows : (o : Settings) (k : ℕ) (w : Work) → state_of (plain_sweeps k w (plain_open o)) ≡ sweeps_up_to k w (open_run o) (start_factor o)
unfolding open_run first_stage plain_open record_of
opened_follows o k w = sym (sweeps_follow k w (plain_open o))

-- an open record has a sweep left
some_left : (most : ℕ) → is_stopped (first_stage most) ≡ false → 0 < most
unfolding first_stage
some_left zero e = absurd (let z : ◌≡◌ {A = ℕ} 0 1 = cc in omega arith)
some_left (suc most) e = omega arith

module _ (s : List ℕ) (e : job_number s ≡ 0) where
  -- ---- open

  rank_passed : open_rank_refused (job_of s).rank (job_of s).start ≡ false
  unfolding job_by
  rank_passed = let f = fields s e in rank_passes _ _ f.settings.rank f.settings.given

  rank_low : (job_of s).rank ≤ most_rank
  unfolding job_by
  rank_low = (fields s e).settings.rank

  pub few : (run_costs s).n ≤ most_wagons
  few = (run_hall s e).wagons

  pub rank_some : 1 ≤ open_rank (job_settings (run_costs s) s)
  unfolding job_settings
  rank_some = meant_some ((run_costs s).n + 1) (job_of s).rank

  pub rank_few : open_rank (job_settings (run_costs s) s) ≤ most_rank
  unfolding job_settings
  rank_few = meant_low ((run_costs s).n + 1) (job_of s).rank (omega (arith, few)) rank_low

  -- the rank that is meant, and the start's numbers, as the record's reader counts them
  pub rank_is : open_rank (job_settings (run_costs s) s) ≡ job_rank s
  unfolding job_settings job_by
  rank_is = ap (λ (n : ℕ). rank_meant (n + 1) (job_of s).rank) (run_n s e)

  pub start_is : start_length (job_of s).start ((run_costs s).n + 1) (open_rank (job_settings (run_costs s) s)) (job_of s).most ≡ job_start_count s
  unfolding job_settings job_by
  start_is = ap (λ (n : ℕ). start_length (job_of s).start (n + 1) (rank_meant (n + 1) (job_of s).rank) (job_of s).most) (run_n s e)

  start_there : start_length (job_of s).start ((run_costs s).n + 1) (open_rank (job_settings (run_costs s) s)) (job_of s).most ≤ length (tabulate (job_start s) (job_start_count s))
  start_there = let l = length_tabulate (job_start s) (job_start_count s) in omega (arith, start_is, l)

  kind_few : (job_of s).start ≤ 2
  unfolding job_by
  kind_few = (fields s e).settings.start

  rule_passed : ((job_of s).rule ≤ 4) × ((job_of s).rule ≡ 4 → is_momentum (job_of s).rule_number ≡ true)
  unfolding job_by
  rule_passed = let f = fields s e in (f.settings.rule, f.settings.momentum)

  pub opens : (factor : ℕ) → open_size (job_settings (run_costs s) s) * open_rank (job_settings (run_costs s) s) ≤ factor → open_number_of (job_settings (run_costs s) s) factor ≡ 0
  unfolding job_settings
  opens factor room =
      open_passes (run_costs s) (job_of s).rank (job_of s).rule (job_of s).rule_number (job_of s).most (job_of s).start _ factor (costs_there s) (costs_pass s e) start_there room
      rank_passed (rule_passes (job_of s).rule (job_of s).rule_number rule_passed.0 rule_passed.1) kind_few

  -- the start's factor has m rows of the rank that is meant
  pub start_whole : length (start_factor (job_settings (run_costs s) s)) ≡ open_size (job_settings (run_costs s) s) * open_rank (job_settings (run_costs s) s)
  start_whole = let o = job_settings (run_costs s) s in start_long o (open_size o * open_rank o) (opens (open_size o * open_rank o) (omega arith))

  -- ---- the record

  just_opened : Sound (open_size (job_settings (run_costs s) s)) (open_rank (job_settings (run_costs s) s)) (rule_of (job_of s).rule (job_of s).rule_number) (job_of s).most (open_run (job_settings (run_costs s) s))
  unfolding open_run job_settings
  just_opened = record { size_is = refl; rank_is = refl; rule_is = refl; most_is = refl; sweeps_few = omega arith; status_few = omega arith }

  pub rule_good : (run : Run) → run.rule ≡ rule_of (job_of s).rule (job_of s).rule_number → bad_momentum run.rule ≡ false
  rule_good run is = rw is (momentum_passes (job_of s).rule (job_of s).rule_number rule_passed.0 rule_passed.1)

  pub sweeps : 0 < (job_of s).most → (factor : ℕ) → used (open_run (job_settings (run_costs s) s)) ≤ factor → sweep_number (open_run (job_settings (run_costs s) s)) (run_costs s) factor ≡ 0
  unfolding open_run job_settings
  sweeps some factor room =
      sweep_passes (open_run (job_settings (run_costs s) s)) (run_costs s) factor (costs_there s) room (is_open (job_of s).most some)
      (open_record (open_run (job_settings (run_costs s) s)) (run_costs s).n refl rank_some rank_few some refl (omega arith)) (costs_pass s e) (rule_good (open_run (job_settings (run_costs s) s)) refl)

  -- the plain run's state is what open and sweep leave; where the most is 0 no sweep is made, and none is left
  pub stopped_is : state_of (stopped (run_costs s) s) ≡ sweeps_up_to (job_of s).most (call_work (run_costs s)) (open_run (job_settings (run_costs s) s)) (start_factor (job_settings (run_costs s) s))
  unfolding stopped opened
  stopped_is =
      ap state_of (none (job_of s).most (call_work (run_costs s)) (plain_open (job_settings (run_costs s) s))) ∙ opened_follows (job_settings (run_costs s) s) (job_of s).most (call_work (run_costs s))

  left : Running (open_run (job_settings (run_costs s) s))
  unfolding open_run job_settings
  left = record { sweep_left = some_left (job_of s).most; standing_few = omega arith }

  enough : (open_run (job_settings (run_costs s) s)).most ≤ (open_run (job_settings (run_costs s) s)).sweeps + (job_of s).most
  unfolding open_run job_settings
  enough = omega arith

  pub stops : Ended (open_size (job_settings (run_costs s) s)) (open_rank (job_settings (run_costs s) s)) (rule_of (job_of s).rule (job_of s).rule_number) (job_of s).most (record_of (stopped (run_costs s) s))
  unfolding state_of
  stops = subst (Ended _ _ _ _) (sym (ap (λ (x : State). x.run) stopped_is)) (ends (job_of s).most _ _ _ just_opened left enough)

  -- the factor keeps its m rows
  pub factor_whole : length (stopped (run_costs s) s).factor ≡ open_size (job_settings (run_costs s) s) * open_rank (job_settings (run_costs s) s)
  unfolding state_of
  factor_whole = ap (λ (x : State). length x.factor) stopped_is ∙ length_sweeps (job_of s).most _ _ _ ∙ start_whole

  -- ---- finish

  draws_fit : (rank lent : ℕ) → rank ≡ job_rank s → job_drawn s ≤ lent → (job_of s).draw_count * rank ≤ lent
  unfolding job_by
  draws_fit rank lent is h = rw is h

  settings_pass : width_refused (job_of s).width (job_of s).draw_count ≡ false
  unfolding job_by
  settings_pass = let f = fields s e in width_passes _ _ f.settings.width f.draws.some f.draws.few

  pub size_is : open_size (job_settings (run_costs s) s) ≡ (run_costs s).n + 1
  unfolding job_settings
  size_is = refl

  pub finishes : (lent : FinishLengths) → job_drawn s ≤ lent.draws → open_size (job_settings (run_costs s) s) * open_rank (job_settings (run_costs s) s) ≤ lent.factor → (run_costs s).n ≤ lent.b
      → (run_costs s).n + 1 ≤ lent.dual → search_workspace ≤ lent.workspace
      → finish_number (record_of (stopped (run_costs s) s)) (run_costs s) (job_of s).width (job_of s).draw_count lent ≡ 0
  finishes lent ds fs bs ms ws =
      let run = record_of (stopped (run_costs s) s) in
      let sound = stops.sound in
      finish_passes run (run_costs s) (job_of s).width (job_of s).draw_count lent (costs_there s) (draws_fit run.rank lent.draws (sound.rank_is ∙ rank_is) ds)
      (rw (sound.size_is, sound.rank_is) fs) bs ms ws stops.is_stopped_lem
      (stopped_record run (run_costs s).n (sound.size_is ∙ size_is) (rw sound.rank_is rank_some) (rw sound.rank_is rank_few) stops.is_stopped_lem
      (rw sound.most_is sound.sweeps_few) sound.status_few stops.total_few)
      (costs_pass s e) (rule_good run sound.rule_is) settings_pass
