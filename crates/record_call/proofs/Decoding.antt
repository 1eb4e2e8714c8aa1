-- From what the calls of a run promise to what an accepted job's run is. Assumes nothing.
--     at_fronts, cut    H and c, stored at the fronts of slices, and lent on from there
--     reduced_run, unpinned_run    the (H, c) of the run
--     run_fields, lifted_choice    the answer
--     opened_run, swept_run, unswept_run, finished    open, sweep and finish of a decoded job
use Rattle.std.specs.Prelude.{Result, Ok}
use Prim.Native.Nat.{ℕ, ◌+◌, ◌*◌, ◌≤◌, ◌<◌}
use mathlib.Core.Path.{◌≡◌, refl, sym, ap, subst, ◌∙◌}
use mathlib.Core.List.{List}
use native.Mathlib.Nat.{mul-le-mul}
use native.Mathlib.Omega.{arith}
use lib.ListN.{length, take, drop}
use lib.Seq.{length-take-le, get_or-take, take_all, take_at}
use lib.IntN.{ℤ, pos}
use lib.Ieee.{Float}
use mir.Syntax.{w64}
use mir.Val.{to_z, of_z}
use Rattle.laws.specs.Lists.{over, fill, tabulate, elem_z}
use Rattle.laws.proofs.MapFirst.{length_fill}
use Rattle.laws.proofs.Made.{length_tabulate, tabulate_get_d, over_all}
use Rattle.ieee.specs.Floats.{zero64}
use Rattle.limits.specs.Limits.{most_wagons, most_entries, most_magnitude, most_signs, most_rank, most_factor, most_start, most_drawn, search_workspace}
use Rattle.run_record.specs.declared.Run.{Run}
use Rattle.tables.specs.Stored.{Room}
use Rattle.tables.specs.Check.{Hall}
use Rattle.pinned.specs.Pinned.{free_of, free_table, lifted, Reducing, Shrinks}
use Rattle.pinned.specs.declared.reduce.Shrunk.{Shrunk}
use Rattle.pinned.proofs.Free as Free
use Rattle.pinned.proofs.Halls.{reduce_hall}
use Rattle.pinned.proofs.Steps.{constant_held, rows_front, cols_front, values_front, costs_front}
use Rattle.pinned_demand.proofs.Pinned.{lifted_same}
use Rattle.tables.specs.CostTable.{CostTable, cost_table, quadratic, linear}
use Rattle.tables.specs.Entries.{listed}
use Rattle.tables.specs.Judged.{JudgedOf}
use Rattle.tables.specs.Lent.{costs_of}
use Rattle.tables.specs.declared.judged.JudgedHall.{JudgedHall}
use Rattle.tables.specs.declared.lent.LentHall.{LentHall}
use Rattle.run_sweep.specs.Work.{call_work}
use Rattle.run_sweep.specs.Sweep.{State, sweeps_up_to}
use Rattle.run_sweep.proofs.Loop.{sweeps_none}
use Rattle.run_contract.specs.PlainRun.{record_of}
use Rattle.run_contract.proofs.Accepting.{Sweeping, sweep_accepted}
use Rattle.run_contract.proofs.Follows.{state_of}
use Rattle.run_contract.specs.declared.FinishResult.{FinishResult}
use Rattle.run_contract.specs.Calls as Calls
use Rattle.run_record.specs.Numbers.{sweep_number, finish_number}
use Rattle.run_contract.specs.Calls.{Settings, open_number_of, open_rank, open_run, start_factor, used, Opens, Finishes}
use Rattle.answer_record.specs.declared.answer.Answer.{Answer}
use Rattle.job_record.specs.Fields.{wagons, entry_count, row, column, value}
use Rattle.job_record.specs.Number.{job_number}
use Rattle.job_record.specs.Values.{pin_count, free_wagons, job_states, JobValues, values_in, job_by, job_of, job_cost, job_rank, job_start_count, job_start, job_drawn, job_draw, TableRoom, Stored}
use Rattle.job_record.specs.Kinds.{rule_code, start_code}
use Rattle.job_record.specs.declared.job.Job.{Job}
use Rattle.job_record.proofs.Same.{filled}
use Rattle.job_record.proofs.Accepted.{fields, start_fits, drawn_fits}
use Rattle.record_call.specs.Record.{job_costs, reduced_costs, run_costs, pinned_cost, job_settings, job_draws, stopped, job_result, job_choice, fields_of, job_fields, whole_choice}
use Rattle.record_call.specs.Decoded.{Decoded, AtFronts, OwnCosts, factor_size, FiguresFit}
use Rattle.record_call.proofs.Freed.{same_costs, rows_long, cols_long, values_long, costs_long, choice_long, states_whole, job_hall, many_free, run_n, run_hall, no_pins, constant_none, whole_none}
use Rattle.record_call.proofs.Figures.{rank_low, figures_fit}
use Rattle.record_call.proofs.Accepted.{opens, sweeps, start_whole, stopped_is, stops, factor_whole, finishes, few, rank_is, rank_few, size_is}

-- (H, c) reduced into slices, whose fronts hold that of the run; and the constant
pub record ReducedRun (s : List ℕ) (most : ℕ) (t : Shrunk) (rows cols : List ℕ) (values c : List ℤ) : Type 0 where
  pub many : t.free ≡ length (free_of (job_costs s).n (job_states s))
  pub few : t.count ≤ most
  pub costs_are : cost_table t.free t.count (take t.count rows) (take t.count cols) (take t.count values) (take t.free c) ≡ run_costs s
  pub constant_is : t.constant ≡ pinned_cost s

-- ---- reading

-- the front that was filled
front : {A : Type 0} (f : ℕ → A) (l : List A) (d : A) (n : ℕ) → n ≤ length l → take n (fill f n l) ≡ tabulate f n
front f l d n h =
    tabulate_get_d (take n (fill f n l)) n d f (length-take-le n (fill f n l) (rw (length_fill f l n) h)) (λ j k. get_or-take n (fill f n l) j d k ∙ filled f l d n h j k)

module _ (s : List ℕ) (e : job_number s ≡ 0) where
  table_sizes : (j : Job) → values_in j ≡ job_of s → (j.n ≡ wagons s) × (j.count ≡ entry_count s)
  unfolding job_by
  table_sizes j is = (ap (λ (x : JobValues). x.n) is, ap (λ (x : JobValues). x.count) is)

  -- H and c at the fronts of slices that they were stored into
  pub at_fronts : {rows₀ cols₀ : List ℕ} {values₀ c₀ : List ℤ} {rows cols : List ℕ} {values c : List ℤ} → Stored s rows₀ cols₀ values₀ c₀ rows cols values c → TableRoom rows₀ cols₀ values₀ c₀ → AtFronts s rows cols values c
  unfolding job_costs
  at_fronts {rows₀} {cols₀} {values₀} {c₀} stored room =
      let f = fields s e in
      record {
        accepted = e;
        room =
            record {
              rows_room = rw (stored.in_rows, length_fill (row s) rows₀ (entry_count s)) room.rows_room;
              cols_room = rw (stored.in_cols, length_fill (column s) cols₀ (entry_count s)) room.cols_room;
              values_room = rw (stored.in_values, length_fill (value s) values₀ (entry_count s)) room.values_room;
              c_room = rw (stored.in_c, length_fill (job_cost s) c₀ (wagons s)) room.c_room;
            };
        costs_are =
            same_costs refl refl (rw stored.in_rows (front (row s) rows₀ 0 (entry_count s) (omega (arith, f.short, room.rows_room))))
            (rw stored.in_cols (front (column s) cols₀ 0 (entry_count s) (omega (arith, f.short, room.cols_room))))
            (rw stored.in_values (front (value s) values₀ (pos 0) (entry_count s) (omega (arith, f.short, room.values_room))))
            (rw stored.in_c (front (job_cost s) c₀ (pos 0) (wagons s) (omega (arith, f.few, room.c_room))));
      }

  -- and cut from there
  pub cut : {rows cols : List ℕ} {values c : List ℤ} → AtFronts s rows cols values c → (j : Job) → values_in j ≡ job_of s → OwnCosts s j (cost_table j.n j.count (take j.count rows) (take j.count cols) (take j.count values) (take j.n c))
  cut {rows} {cols} {values} {c} a j is =
      let (n, count) = table_sizes j is in
      record {
        accepted = e;
        job_is = is;
        costs_are = same_costs n count (ap (λ (k : ℕ). take k rows) count) (ap (λ (k : ℕ). take k cols) count) (ap (λ (k : ℕ). take k values) count) (ap (λ (k : ℕ). take k c) n) ∙ a.costs_are;
      }

  pub start_read : (numbers : ℕ) (start₀ start : List Float) → numbers ≡ job_start_count s → start ≡ fill (job_start s) (job_start_count s) start₀ → most_start ≤ length start₀ → take numbers start ≡ tabulate (job_start s) (job_start_count s)
  start_read numbers start₀ start count_is stored fs = rw (count_is, stored) (front (job_start s) start₀ zero64 (job_start_count s) (omega (arith, start_fits s e)))

  pub draws_read : (drawn : ℕ) (draws₀ draws : List Float) → drawn ≡ job_drawn s → draws ≡ fill (job_draw s) (job_drawn s) draws₀ → most_drawn ≤ length draws₀ → take drawn draws ≡ job_draws s
  unfolding job_draws
  draws_read drawn draws₀ draws is stored fd = rw (is, stored) (front (job_draw s) draws₀ zero64 (job_drawn s) (omega (arith, drawn_fits s e)))

  -- what is lent on has room in the lists
  pub fronts_fit : (j : Job) → values_in j ≡ job_of s → (j.count ≤ most_entries) × (j.n ≤ most_wagons)
  fronts_fit j is =
      let f = fields s e in
      let (n, count) = table_sizes j is in
      (omega (arith, f.short), omega (arith, f.few))

  pub drawn_is : (count rank : ℕ) → count ≡ (job_of s).draw_count → rank ≡ job_rank s → (count * rank ≡ job_drawn s) × (count * rank ≤ most_drawn)
  unfolding job_by
  drawn_is count rank c r = let is : count * rank ≡ job_drawn s = rw (c, r) in (is, rw is (drawn_fits s e))

  pub job_n : (j : Job) → values_in j ≡ job_of s → j.n ≡ (job_costs s).n
  unfolding job_costs
  job_n j is = (table_sizes j is).0

  -- the states, cut from the front of the slice
  pub states_cut : (n : ℕ) (states states₀ : List ℕ) → n ≡ (job_costs s).n → states ≡ over (job_states s) states₀ → take n states ≡ job_states s
  states_cut n states states₀ is e = rw e (take_at (job_states s) _ n (states_whole s ∙ sym is))

  -- ---- the (H, c) of the run

  free_of_lem : (job_of s).free ≡ free_wagons s
  unfolding job_by
  free_of_lem = refl

  pub job_free : (j : Job) → values_in j ≡ job_of s → j.free ≡ length (free_of (job_costs s).n (job_states s))
  job_free j is = ap (λ (x : JobValues). x.free) is ∙ free_of_lem ∙ sym (many_free s e)

  job_reducing : Reducing (job_costs s).n (job_costs s).count (job_costs s).rows (job_costs s).cols (job_costs s).values (job_costs s).c (job_states s)
  job_reducing =
      record {
        lent = record { rows_there = omega (arith, rows_long s); cols_there = omega (arith, cols_long s); values_there = omega (arith, values_long s) };
        costs_there = omega (arith, costs_long s);
        states_there = omega (arith, states_whole s);
        hall = job_hall s e;
      }

  -- H and c in other lists
  module _ {own : CostTable} (same : own ≡ job_costs s) {states : List ℕ} (is : states ≡ job_states s) where
    pub own_reducing : Reducing own.n own.count own.rows own.cols own.values own.c states
    own_reducing = rw (same, is) job_reducing

    pub own_wagons : (free free' : List ℕ) → free' ≡ over (free_of own.n states) free → free' ≡ over (free_of (job_costs s).n (job_states s)) free
    own_wagons free free' made = made ∙ rw (same, is)

    -- reduced
    module _ {rows cols : List ℕ} {values c : List ℤ} {rows' cols' : List ℕ} {values' c' : List ℤ} (t : Shrunk) (many : t.free ≡ length (free_of own.n states))
        (made : Shrinks own.n (quadratic own) (linear own) states rows cols values c rows' cols' values' c' t.count t.constant) (r : Room 0 own.count rows cols values) where
      -- the same table, of so many entries at most as it has
      own_hall : Hall most_wagons own.count most_magnitude own.n (quadratic own) (linear own)
      own_hall =
          let h = own_reducing.hall in
          record { wagons = h.wagons; entries = omega arith; in_range = h.in_range; rising = h.rising; mirrored = h.mirrored; magnitude = h.magnitude }

      count_less : t.count ≤ own.count
      unfolding free_table
      count_less = omega (arith, made.many, (reduce_hall own_hall states).entries)

      room : Room 0 t.count rows cols values
      room = record { rows_room = omega (arith, count_less, r.rows_room); cols_room = omega (arith, count_less, r.cols_room); values_room = omega (arith, count_less, r.values_room) }

      run_is : reduced_costs own states ≡ run_costs s
      unfolding run_costs
      run_is = rw (is, same)

      pub reduced_run : ReducedRun s own.count t rows' cols' values' c'
      unfolding reduced_costs pinned_cost
      reduced_run =
          record {
            many = many ∙ rw (same, is);
            few = count_less;
            costs_are = same_costs many made.many (rows_front made room) (cols_front made room) (values_front made room) (rw many (costs_front made)) ∙ run_is;
            constant_is = made.constant_is ∙ rw (same, is);
          }

  -- as they are, where no wagon is pinned
  module _ {j : Job} {t : CostTable} (o : OwnCosts s j t) (none : j.pins ≡ 0) where
    no_pin_lem : pin_count s ≡ 0
    unfolding job_by
    no_pin_lem = sym (ap (λ (x : JobValues). x.pins) o.job_is) ∙ none

    pub unpinned_run : t ≡ run_costs s
    unpinned_run = o.costs_are ∙ sym (no_pins s e no_pin_lem)

    pub unpinned_figures : {x : FinishResult} → x ≡ job_result (run_costs s) s → (j.n < 256) × (x.rank < 256) × FiguresFit (pos 0) x
    unpinned_figures q =
        rw (job_n j o.job_is, q)
        (omega (arith, (job_hall s e).wagons), omega (arith, rank_low s e), subst (λ (k : ℤ). FiguresFit k (job_result (run_costs s) s)) (constant_none s e no_pin_lem) (figures_fit s e))

    pub unpinned_fields : {x : FinishResult} {a : Answer} → x ≡ job_result (run_costs s) s → a ≡ fields_of j.n (pos 0) x → a ≡ job_fields s
    unfolding job_fields
    unpinned_fields q f = f ∙ rw (job_n j o.job_is, q, constant_none s e no_pin_lem)

    pub unpinned_choice : (b b' : List ℕ) → b' ≡ over (job_choice (run_costs s) s) b → b' ≡ over (whole_choice s) b
    unpinned_choice b b' made = made ∙ ap (λ (x : List ℕ). over x b) (sym (whole_none s e no_pin_lem))

  -- ---- the answer

  -- the free wagons, cut from the front of the slice
  pub free_fits : (j : Job) → values_in j ≡ job_of s → j.free ≤ most_wagons
  free_fits j is = omega (arith, job_free j is, Free.free_few (job_costs s).n (job_states s), (job_hall s e).wagons)

  pub free_cut : (j : Job) → values_in j ≡ job_of s → (free free' : List ℕ) → free' ≡ over (free_of (job_costs s).n (job_states s)) free → take j.free free' ≡ free_of (job_costs s).n (job_states s)
  free_cut j is free free' made = rw made (take_at (free_of (job_costs s).n (job_states s)) _ j.free (sym (job_free j is)))

  module _ {rows cols : List ℕ} {values c : List ℤ} {most : ℕ} {t : Shrunk} (r : ReducedRun s most t rows cols values c) where
    pub run_few : t.free ≤ most_wagons
    unfolding run_costs reduced_costs
    run_few = omega (arith, r.many, (run_hall s e).wagons)

    -- an i64 holds the constant
    run_held : to_z w64 (of_z w64 t.constant) ≡ t.constant
    unfolding pinned_cost
    run_held = constant_held (job_hall s e) (omega arith) (job_states s) r.constant_is

    constant_read : to_z w64 (of_z w64 t.constant) ≡ pinned_cost s
    constant_read = run_held ∙ r.constant_is

    pub run_figures : {n : ℕ} {x : FinishResult} → n ≡ (job_costs s).n → x ≡ job_result (run_costs s) s → (n < 256) × (x.rank < 256) × FiguresFit (to_z w64 (of_z w64 t.constant)) x
    run_figures p q = rw (p, q, constant_read) (omega (arith, (job_hall s e).wagons), omega (arith, rank_low s e), figures_fit s e)

    pub run_fields : {n : ℕ} {x : FinishResult} {a : Answer} → n ≡ (job_costs s).n → x ≡ job_result (run_costs s) s → a ≡ fields_of n (to_z w64 (of_z w64 t.constant)) x → a ≡ job_fields s
    unfolding job_fields
    run_fields p q f = f ∙ rw (p, q, constant_read)

  pub lift_asks : (n : ℕ) {states free : List ℕ} → n ≡ (job_costs s).n → states ≡ job_states s → free ≡ free_of (job_costs s).n (job_states s)
      → (n ≤ length states) × (free ≡ free_of n states) × (length free ≤ most_wagons) × (n ≤ most_wagons)
  lift_asks n p is q =
      let f : length (free_of (job_costs s).n (job_states s)) ≤ most_wagons = omega (arith, Free.free_few (job_costs s).n (job_states s), (job_hall s e).wagons) in
      (rw is (omega (arith, states_whole s)), q ∙ rw (p, is), rw q f, omega (arith, (job_hall s e).wagons))

  -- the choice of the free wagons, at the front of a slice, over all wagons
  pub lifted_choice : (n : ℕ) (states chosen chosen₀ b b' : List ℕ) → n ≡ (job_costs s).n → states ≡ job_states s → chosen ≡ over (job_choice (run_costs s) s) chosen₀ → b' ≡ over (lifted n states chosen) b
      → b' ≡ over (whole_choice s) b
  unfolding whole_choice
  lifted_choice n states chosen chosen₀ b b' p is q f =
      let choice = job_choice (run_costs s) s in
      let k = length (free_of (job_costs s).n (job_states s)) in
      let size : length choice ≡ k = choice_long s ∙ run_n s e ∙ sym (many_free s e) in
      let front : take k chosen ≡ choice = rw q (take_at choice (drop (length choice) chosen₀) k size) in
      f ∙ rw (p, is, lifted_same (job_costs s).n (job_states s) chosen, front)

-- of a job with H and c as it has them
module _ {s : List ℕ} {j : Job} {t : CostTable} (o : OwnCosts s j t) where
  pub own_n : j.n ≡ (job_costs s).n
  own_n = job_n s o.accepted j o.job_is

  pub own_few : j.n ≤ most_wagons
  own_few = (fronts_fit s o.accepted j o.job_is).1

  pub own_states : (states states₀ : List ℕ) → states ≡ over (job_states s) states₀ → take j.n states ≡ job_states s
  own_states states states₀ = states_cut s o.accepted j.n states states₀ own_n

-- reduced into slices, by what `reduce` says of (H, c) as it was handed to it
module _ {s : List ℕ} {j : Job} (l : LentHall) (o : OwnCosts s j (costs_of l)) {states : List ℕ} (is : states ≡ job_states s) (h : JudgedHall) (of : JudgedOf l h) where
  pub judged_wagons : (free free' : List ℕ) → free' ≡ over (free_of h.n states) free → free' ≡ over (free_of (job_costs s).n (job_states s)) free
  judged_wagons free free' made = own_wagons s o.accepted o.costs_are is free free' (rw of.0 at made)

  pub judged_reduced : {rows cols : List ℕ} {values c : List ℤ} {rows' cols' : List ℕ} {values' c' : List ℤ} {t : Shrunk} → t.free ≡ length (free_of h.n states)
      → Shrinks h.n (listed h.table) (elem_z h.c.now) states rows cols values c rows' cols' values' c' t.count t.constant → Room 0 l.table.count rows cols values → ReducedRun s l.table.count t rows' cols' values' c'
  judged_reduced {rows} {cols} {values} {c} {rows'} {cols'} {values'} {c'} {t} many made r =
      reduced_run s o.accepted o.costs_are is t (rw of.0 at many) (rw (of.0, of.1, of.2) at made) r

-- ---- the calls of a decoded job

same_settings : {t t' : CostTable} {j j' : JobValues} {start start' : List Float} → t ≡ t' → j ≡ j' → start ≡ start'
    → Calls.settings_of t j.rank j.rule j.rule_number j.most j.minimum j.objective_tolerance j.stationarity_tolerance j.start start
    ≡ Calls.settings_of t' j'.rank j'.rule j'.rule_number j'.most j'.minimum j'.objective_tolerance j'.stationarity_tolerance j'.start start'
same_settings p q r = rw (p, q, r)

module _ {s : List ℕ} {j : Job} {costs : CostTable} {start : List Float} (d : Decoded s j costs start) where
  -- what an open is asked for, by the codes that it is handed
  abbrev asked : ℕ → ℕ → Settings
  asked rule kind = Calls.settings_of costs j.rank rule j.rule_number j.most j.minimum j.objective_tolerance j.stationarity_tolerance kind start

  asked_is : {rule kind : ℕ} → rule ≡ rule_code j.rule → kind ≡ start_code j.start → asked rule kind ≡ job_settings (run_costs s) s
  unfolding job_settings
  asked_is p q = rw (p, q) (same_settings d.costs_are d.job_is d.start_is)

  pub opened_run : {rule kind : ℕ} → rule ≡ rule_code j.rule → kind ≡ start_code j.start → {answer : Result Run ℕ} {factor factor' : List Float} → length factor ≡ factor_size s → Opens (asked rule kind) factor answer factor'
      → (answer ≡ Ok (open_run (job_settings (run_costs s) s))) × (factor' ≡ start_factor (job_settings (run_costs s) s))
  opened_run p q {answer} {factor} {factor'} whole o =
      let o' : Opens (job_settings (run_costs s) s) factor answer factor' = subst (λ (x : Settings). Opens x factor answer factor') (asked_is p q) o in
      let (is, made) = o'.accepted (o'.numbered ∙ opens s d.accepted (length factor) (omega (arith, whole))) in
      (is, made ∙ over_all (start_factor (job_settings (run_costs s) s)) factor (whole ∙ sym (start_whole s d.accepted)))

  most_is : j.most ≡ (job_of s).most
  most_is = ap (λ (x : JobValues). x.most) d.job_is

  opened_used : used (open_run (job_settings (run_costs s) s)) ≡ length (start_factor (job_settings (run_costs s) s))
  unfolding open_run
  opened_used = sym (start_whole s d.accepted)

  stopped_used : used (record_of (stopped (run_costs s) s)) ≡ length (stopped (run_costs s) s).factor
  stopped_used =
      let sound = (stops s d.accepted).sound in
      rw (sound.size_is, sound.rank_is) (sym (factor_whole s d.accepted))

  pub unswept_run : j.most ≡ 0 → (open_run (job_settings (run_costs s) s) ≡ record_of (stopped (run_costs s) s)) × (start_factor (job_settings (run_costs s) s) ≡ (stopped (run_costs s) s).factor)
  unfolding state_of
  unswept_run none =
      let run = open_run (job_settings (run_costs s) s) in
      let factor = start_factor (job_settings (run_costs s) s) in
      let w = call_work (run_costs s) in
      let e : state_of (stopped (run_costs s) s) ≡ record { run = run; factor = factor } =
      stopped_is s d.accepted ∙ ap (λ (k : ℕ). sweeps_up_to k w run factor) (sym most_is ∙ none) ∙ sweeps_none w run factor in
      (sym (ap (λ (x : State). x.run) e), sym (ap (λ (x : State). x.factor) e))

  -- nothing refuses the open
  pub opens_now : {rule kind : ℕ} → rule ≡ rule_code j.rule → kind ≡ start_code j.start → (factor : List Float) → length factor ≡ factor_size s → open_number_of (asked rule kind) (length factor) ≡ 0
  opens_now p q factor whole = subst (λ (x : Settings). open_number_of x (length factor) ≡ 0) (sym (asked_is p q)) (opens s d.accepted (length factor) (omega (arith, whole)))

  -- nor the sweep
  pub sweeps_now : {run : Run} {factor : List Float} → 0 < j.most → run ≡ open_run (job_settings (run_costs s) s) → factor ≡ start_factor (job_settings (run_costs s) s)
      → Sweeping run costs (length factor) × (length factor ≡ used run)
  sweeps_now {run} {factor} some is made =
      let run₀ = open_run (job_settings (run_costs s) s) in
      let factor₀ = start_factor (job_settings (run_costs s) s) in
      let none : sweep_number run₀ costs (length factor₀) ≡ 0 =
      subst (λ (x : CostTable). sweep_number run₀ x (length factor₀) ≡ 0) (sym d.costs_are) (sweeps s d.accepted (omega (arith, most_is)) (length factor₀) (omega (arith, opened_used))) in
      let at : Sweeping run₀ costs (length factor₀) × (length factor₀ ≡ used run₀) = (sweep_accepted run₀ costs (length factor₀) none, sym opened_used) in
      subst (λ (x : Run). Sweeping x costs (length factor) × (length factor ≡ used x)) (sym is)
      (subst (λ (x : List Float). Sweeping run₀ costs (length x) × (length x ≡ used run₀)) (sym made) at)

  pub swept_run : {run run' : Run} {factor factor' : List Float} → run ≡ open_run (job_settings (run_costs s) s) → factor ≡ start_factor (job_settings (run_costs s) s)
      → run' ≡ (sweeps_up_to j.most (call_work costs) run factor).run → factor' ≡ (sweeps_up_to j.most (call_work costs) run factor).factor
      → (run' ≡ record_of (stopped (run_costs s) s)) × (factor' ≡ (stopped (run_costs s) s).factor)
  unfolding state_of
  swept_run {run} {run'} {factor} {factor'} is made after left =
      let run₀ = open_run (job_settings (run_costs s) s) in
      let e : sweeps_up_to j.most (call_work costs) run factor ≡ state_of (stopped (run_costs s) s) =
      ap (λ (x : Run). sweeps_up_to j.most (call_work costs) x factor) is
      ∙ ap (λ (x : List Float). sweeps_up_to j.most (call_work costs) run₀ x) made
      ∙ ap (λ (x : CostTable). sweeps_up_to j.most (call_work x) run₀ (start_factor (job_settings (run_costs s) s))) d.costs_are
      ∙ ap (λ (x : ℕ). sweeps_up_to x (call_work (run_costs s)) run₀ (start_factor (job_settings (run_costs s) s))) most_is
      ∙ sym (stopped_is s d.accepted) in
      (after ∙ ap (λ (x : State). x.run) e, left ∙ ap (λ (x : State). x.factor) e)

  drawn_long : length (job_draws s) ≡ job_drawn s
  unfolding job_draws
  drawn_long = length_tabulate (job_draw s) (job_drawn s)

  -- nor the finish
  pub finishes_now : {run : Run} {draws factor : List Float} (b : List ℕ) (dual : List Float) (workspace : List ℕ) → run ≡ record_of (stopped (run_costs s) s) → draws ≡ job_draws s → factor ≡ (stopped (run_costs s) s).factor
      → most_wagons ≤ length b → most_signs ≤ length dual → search_workspace ≤ length workspace
      → finish_number run costs j.width j.draw_count (Calls.finish_lengths draws factor b dual workspace) ≡ 0
  finishes_now b dual workspace is ds made br dr wr =
      let n = few s d.accepted in
      let lengths = Calls.finish_lengths (job_draws s) (stopped (run_costs s) s).factor b dual workspace in
      let none = finishes s d.accepted lengths (omega (arith, drawn_long)) (omega (arith, factor_whole s d.accepted)) (omega arith) (omega arith) wr in
      rw (is, ds, made, d.costs_are, ap (λ (x : JobValues). x.width) d.job_is, ap (λ (x : JobValues). x.draw_count) d.job_is) none

  pub finished : {run : Run} {draws factor : List Float} {b b' : List ℕ} {dual dual' : List Float} {workspace workspace' : List ℕ} {answer : Result FinishResult ℕ} → run ≡ record_of (stopped (run_costs s) s) → draws ≡ job_draws s → factor ≡ (stopped (run_costs s) s).factor
      → most_wagons ≤ length b → most_signs ≤ length dual → search_workspace ≤ length workspace
      → Finishes run costs j.width j.draw_count draws factor b dual workspace answer b' dual' workspace'
      → (answer ≡ Ok (job_result (run_costs s) s)) × (b' ≡ over (job_choice (run_costs s) s) b)
  unfolding job_result job_choice
  finished {draws = draws} {factor} {b} {b'} {dual} {workspace = workspace} is ds made br dr wr f =
      let factor₀ = (stopped (run_costs s) s).factor in
      let whole : take (used (record_of (stopped (run_costs s) s))) factor₀ ≡ factor₀ = take_all _ factor₀ (omega (arith, stopped_used)) in
      let (given, chosen, _) =
      rw (is, d.costs_are, ap (λ (x : JobValues). x.width) d.job_is, ap (λ (x : JobValues). x.draw_count) d.job_is, ds, made, whole) at (f.accepted (f.numbered ∙ finishes_now b dual workspace is ds made br dr wr)) in
      (given, chosen)

  -- the size of the factor
  pub sizes : (rank : ℕ) → rank ≡ job_rank s → (j.free ≤ most_wagons) × ((j.free + 1) * rank ≤ most_factor) × ((j.free + 1) * rank ≡ factor_size s)
  sizes rank is =
      let n : j.free ≡ (run_costs s).n = job_free s d.accepted j d.job_is ∙ many_free s d.accepted ∙ sym (run_n s d.accepted) in
      let low = few s d.accepted in
      let r : rank ≡ open_rank (job_settings (run_costs s) s) = is ∙ sym (rank_is s d.accepted) in
      let within : (j.free + 1) * rank ≤ most_factor = mul-le-mul {n₁ = j.free + 1} {m₁ = rank} {n₂ = most_signs} {m₂ = most_rank} (omega arith) (rw r (rank_few s d.accepted)) in
      (omega arith, omega (arith, within), rw (r, n, ← (size_is s d.accepted)))
