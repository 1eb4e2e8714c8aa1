-- The (H, c) of an accepted job's run. Assumes nothing.
--     job_hall, run_hall    H and c are accepted, and so are those of the free wagons
--     run_n                 how many wagons are free
--     no_pins               where no wagon is pinned, the run's (H, c) is the job's, the constant 0, and b the finish's
use Prim.Native.Nat.{ℕ, ◌+◌, ◌<◌, ◌≤◌}
use mathlib.Core.Path.{◌≡◌, sym, ap, ◌∙◌}
use mathlib.Core.Bool.{true, false}
use mathlib.Core.List.{List}
use native.Mathlib.Nat.{le_of_eq}
use native.Mathlib.Omega.{arith}
use lib.ListN.{length, replicate, length-map}
use lib.IntN.{ℤ, pos}
use Rattle.laws.specs.Turns.{up_to}
use Rattle.laws.specs.Lists.{elem, elem_z, tabulate}
use Rattle.laws.proofs.Made.{length_tabulate, get_d_tabulate, tabulate_whole, tabulate_replicate}
use Rattle.limits.specs.Limits.{most_wagons, most_entries, most_magnitude}
use Rattle.tables.specs.Table.{table_of}
use Rattle.tables.specs.Check.{hall_number, Hall}
use Rattle.tables.proofs.Checks.{hall_accepted, hall_passes}
use Rattle.reduced.specs.Submatrix.{value_in, reduced_places}
use Rattle.pinned.specs.Pinned.{is_free, free_of, free_table, free_costs}
use Rattle.pinned.proofs.Halls.{reduce_hall}
use Rattle.pinned.proofs.AllFree.{many_all, count_all, rows_all, cols_all, values_all, costs_all, constant_all, lifted_all}
use Rattle.tables.specs.CostTable.{CostTable, cost_table, quadratic, linear}
use Rattle.run_record.specs.Numbers.{table_short, cost_table_number}
use Rattle.run_contract.specs.PlainRun.{record_of}
use Rattle.run_contract.proofs.Lengths.{length_choice}
use Rattle.job_record.specs.Fields.{wagons, entry_count, row, column, value, free_state, pins_place}
use Rattle.job_record.specs.Number.{job_number}
use Rattle.job_record.specs.Values.{pin_count, free_wagons, states_of, job_states, job_of, job_cost}
use Rattle.job_record.proofs.Same.{order_same, mirror_same, magnitude_same}
use Rattle.job_record.proofs.Pinning.{length_states}
use Rattle.job_record.proofs.Accepted.{states_free}
use Rattle.job_record.proofs.Halls.{hall}
use Rattle.record_call.specs.Record.{job_costs, reduced_costs, run_costs, pinned_cost, job_draws, stopped, job_result, job_choice, fields_of, job_fields, whole_choice}
use Rattle.record_call.proofs.Unrefused.{table_there}

-- (H, c) in lists that hold it and no more
listed : (n count : ℕ) (row column : ℕ → ℕ) (value c : ℕ → ℤ)
    → hall_number most_wagons most_entries most_magnitude n (table_of count (tabulate row count) (tabulate column count) (tabulate value count)) (elem_z (tabulate c n))
    ≡ hall_number most_wagons most_entries most_magnitude n (record { count = count; row = row; column = column; value = value }) c
unfolding hall_number
listed n count row column value c =
    let r : (i : ℕ) → i < count → elem (tabulate row count) i ≡ row i = λ i l. get_d_tabulate row count i 0 l in
    let k : (i : ℕ) → i < count → elem (tabulate column count) i ≡ column i = λ i l. get_d_tabulate column count i 0 l in
    let v : (i : ℕ) → i < count → elem_z (tabulate value count) i ≡ value i = λ i l. get_d_tabulate value count i (pos 0) l in
    let d : (i : ℕ) → i < n → elem_z (tabulate c n) i ≡ c i = λ i l. get_d_tabulate c n i (pos 0) l in
    rw (
      order_same (elem (tabulate row count)) (elem (tabulate column count)) row column count r k n,
      mirror_same (elem (tabulate row count)) (elem (tabulate column count)) row column count r k v,
      magnitude_same n count v d,
    )

pub same_costs : {n n' count count' : ℕ} {rows rows' cols cols' : List ℕ} {values values' c c' : List ℤ} → n ≡ n' → count ≡ count' → rows ≡ rows' → cols ≡ cols' → values ≡ values' → c ≡ c'
    → cost_table n count rows cols values c ≡ cost_table n' count' rows' cols' values' c'
same_costs p q r k v l = rw (p, q, r, k, v, l)

-- ---- the lists

module _ (s : List ℕ) where
  pub rows_long : length (job_costs s).rows ≡ (job_costs s).count
  unfolding job_costs
  rows_long = length_tabulate (row s) (entry_count s)

  pub cols_long : length (job_costs s).cols ≡ (job_costs s).count
  unfolding job_costs
  cols_long = length_tabulate (column s) (entry_count s)

  pub values_long : length (job_costs s).values ≡ (job_costs s).count
  unfolding job_costs
  values_long = length_tabulate (value s) (entry_count s)

  pub costs_long : length (job_costs s).c ≡ (job_costs s).n
  unfolding job_costs
  costs_long = length_tabulate (job_cost s) (wagons s)

-- the run's are there
pub costs_there : (s : List ℕ) → table_short (run_costs s) ≡ false
unfolding run_costs reduced_costs free_costs
costs_there s =
    let t = job_costs s in
    let free = free_of t.n (job_states s) in
    let ps = reduced_places (quadratic t) free in
    table_there (run_costs s) (le_of_eq (sym (length-map ps (λ p. p.0)))) (le_of_eq (sym (length-map ps (λ p. p.1))))
    (le_of_eq (sym (length-map ps (λ p. value_in (quadratic t) free p.0 p.1)))) (le_of_eq (sym (length_tabulate _ (length free))))

pub choice_long : (s : List ℕ) → length (job_choice (run_costs s) s) ≡ (run_costs s).n
unfolding job_choice record_of
choice_long s =
    let t = run_costs s in
    length_choice t.n (quadratic t) (linear t) (stopped t s).rank (stopped t s).factor (job_draws s) (job_of s).draw_count (job_of s).width

pub states_whole : (s : List ℕ) → length (job_states s) ≡ (job_costs s).n
unfolding job_states job_costs
states_whole s = length_states s (wagons s) (pins_place s + 1) (pin_count s)

module _ (s : List ℕ) (e : job_number s ≡ 0) where
  -- ---- of all wagons

  full_pass : cost_table_number (job_costs s) ≡ 0
  unfolding job_costs
  full_pass = listed (wagons s) (entry_count s) (row s) (column s) (value s) (job_cost s) ∙ hall s e

  pub job_hall : Hall most_wagons most_entries most_magnitude (job_costs s).n (quadratic (job_costs s)) (linear (job_costs s))
  job_hall = hall_accepted full_pass

  -- ---- of the free ones

  pub many_free : length (free_of (job_costs s).n (job_states s)) ≡ free_wagons s
  unfolding free_of job_costs
  many_free = states_free s e

  pub run_n : (run_costs s).n ≡ free_wagons s
  unfolding run_costs reduced_costs
  run_n = many_free

  pub run_hall : Hall most_wagons most_entries most_magnitude (run_costs s).n (quadratic (run_costs s)) (linear (run_costs s))
  unfolding run_costs reduced_costs free_table
  run_hall = reduce_hall job_hall (job_states s)

  pub costs_pass : cost_table_number (run_costs s) ≡ 0
  costs_pass = hall_passes run_hall

  -- ---- where no wagon is pinned

  module _ (none : pin_count s ≡ 0) where
    states_are : job_states s ≡ replicate (job_costs s).n free_state
    unfolding job_states states_of job_costs up_to
    states_are = rw none

    all_free : (i : ℕ) → i < (job_costs s).n → is_free (job_states s) i ≡ true
    all_free i l =
        rw (states_are, ap (λ (xs : List ℕ). elem xs i) (tabulate_replicate free_state (job_costs s).n) ∙ get_d_tabulate (λ j. free_state) (job_costs s).n i 0 l)

    small : (job_costs s).n ≤ 65536
    small = omega (arith, job_hall.wagons)

    pub no_pins : run_costs s ≡ job_costs s
    unfolding run_costs reduced_costs
    no_pins =
        let t = job_costs s in
        let h = job_hall in
        same_costs (many_all t.n (job_states s) all_free) (count_all t.n (job_states s) all_free small h.in_range h.rising)
        (rows_all t.n (job_states s) all_free small h.in_range h.rising ∙ tabulate_whole t.rows t.count 0 (rows_long s))
        (cols_all t.n (job_states s) all_free small h.in_range h.rising ∙ tabulate_whole t.cols t.count 0 (cols_long s))
        (values_all t.n (job_states s) all_free small h.in_range h.rising ∙ tabulate_whole t.values t.count (pos 0) (values_long s))
        (costs_all t.n (job_states s) all_free (quadratic t) (linear t) ∙ tabulate_whole t.c t.n (pos 0) (costs_long s))

    pub constant_none : pinned_cost s ≡ pos 0
    unfolding pinned_cost
    constant_none = constant_all (job_costs s).n (job_states s) all_free (quadratic (job_costs s)) (linear (job_costs s))

    pub whole_none : whole_choice s ≡ job_choice (run_costs s) s
    unfolding whole_choice
    whole_none =
        lifted_all (job_costs s).n (job_states s) all_free (job_choice (run_costs s) s) (le_of_eq (sym (states_whole s))) (choice_long s ∙ ap (λ (t : CostTable). t.n) no_pins)

    pub own_result : job_result (run_costs s) s ≡ job_result (job_costs s) s
    own_result = ap (λ (t : CostTable). job_result t s) no_pins

    pub own_choice : whole_choice s ≡ job_choice (job_costs s) s
    own_choice = whole_none ∙ ap (λ (t : CostTable). job_choice t s) no_pins

    pub own_fields : job_fields s ≡ fields_of (job_costs s).n (pos 0) (job_result (job_costs s) s)
    unfolding job_fields
    own_fields = rw (constant_none, own_result)
