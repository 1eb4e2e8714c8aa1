-- Every field of an accepted job's answer fits its bytes. Assumes nothing.
--     demanded       demand 3 of what a finish finds
--     run_finish     what the finish of a job's run finds, as that of the reduced (H, c)
--     figures_fit    with the constant, too, an i64 holds the figures
--     held           the fields of a job's answer
use Prim.Native.Nat.{ℕ, zero, suc, ◌+◌, ◌*◌, ◌^◌, ◌≤◌, ◌<◌}
use native.Mathlib.Nat.{lt_of_le_of_lt}
use native.Mathlib.Omega.{arith}
use mathlib.Core.Path.{◌≡◌, refl}
use mathlib.Core.List.{List}
use lib.Dec.{T}
use lib.ListN.{get_or}
use lib.IntN.{ℤ, pos, nat_abs, ◌-ℤ◌}
use lib.Ieee.{Float, binary64, fits}
use lib.Ieee.Fits.{add-fits, sub-fits}
use lib.Signed.{◌≤ℤ◌}
use Rattle.std.proofs.lemmas.Int.{ints}
use Rattle.laws.proofs.Made.{over_all}
use Rattle.tables.specs.Table.{Table, magnitude_of}
use Rattle.tables.specs.Bound.{entrywise}
use Rattle.tables.specs.Check.{Hall}
use Rattle.limits.specs.Limits.{most_wagons, most_entries, most_magnitude, most_sign_magnitude, most_rank}
use Rattle.sign_table.specs.SignTable.{sign_table}
use Rattle.sign_table.proofs.Theorems.{hall_sign_table}
use Rattle.sign_search.proofs.Lawful.{objective_abs}
use Rattle.sign_search.proofs.HallTheorems.{hall_mirrors}
use Rattle.finalize.specs.Finalize.{diagonal_total, float_bound, floor_eighths, multipliers_of, rounded_signs, rounded_cost, search_result, searched_choice, searched_cost, searched_rounds}
use Rattle.finalize.specs.Demand3.{Demand3}
use Rattle.finalize.specs.Clauses.{Finalizes}
use Rattle.finalize.proofs.Demand3.{demand3, unsearched}
use Rattle.pinned.specs.Pinned.{free_table, free_cost}
use Rattle.pinned_demand.specs.PinnedDemand3.{free_count}
use Rattle.pinned_demand.proofs.Figures.{figures_within, fits_within}
use Rattle.tables.specs.CostTable.{quadratic, linear}
use Rattle.run_contract.specs.Calls.{finish_result, finish_multipliers}
use Rattle.run_contract.specs.PlainRun.{record_of}
use Rattle.run_contract.proofs.Finalized.{finalized}
use Rattle.job_record.specs.Number.{job_number}
use Rattle.job_record.proofs.FieldByField.{number_below}
use Rattle.job_record.specs.Values.{settings_place, job_states, job_by, job_of}
use Rattle.answer_record.specs.Answer.{Held}
use Rattle.record_call.specs.Record.{job_costs, reduced_costs, run_costs, pinned_cost, job_draws, stopped, job_result, job_choice, job_fields}
use Rattle.record_call.specs.Decoded.{FiguresFit}
use Rattle.record_call.proofs.Freed.{job_hall, run_hall}
use Rattle.record_call.proofs.Accepted.{stops, rank_few}

-- ---- what a finish finds, of any hall

module _ {n : ℕ} {h : Table} {c : ℕ → ℤ} (hall : Hall most_wagons most_entries most_magnitude n h c) (rank : ℕ) (factor draws : List Float) (draw_count width : ℕ) where
  small : magnitude_of (sign_table n h c) ≤ most_sign_magnitude
  small = (hall_sign_table hall).magnitude

  rounded_low : nat_abs (rounded_cost n h c rank factor draws draw_count) ≤ 2 * most_sign_magnitude
  unfolding rounded_cost
  rounded_low = objective_abs (hall_mirrors hall) small (rounded_signs n h c rank factor draws draw_count)

  cost_low : nat_abs (searched_cost n h c rank factor draws draw_count width) ≤ 2 * most_sign_magnitude
  unfolding searched_cost
  cost_low = objective_abs (hall_mirrors hall) small (search_result n h c rank factor draws draw_count width).answer

  found : Finalizes n h c rank width draw_count draws factor (searched_choice n h c rank factor draws draw_count width) (searched_choice n h c rank factor draws draw_count width)
      (multipliers_of n h c rank factor) (multipliers_of n h c rank factor) (diagonal_total n h c) (float_bound n h c) (floor_eighths n h c)
      (rounded_cost n h c rank factor draws draw_count) (searched_cost n h c rank factor draws draw_count width) (searched_rounds n h c rank factor draws draw_count width)
  found =
      let choice = searched_choice n h c rank factor draws draw_count width in
      let multipliers = multipliers_of n h c rank factor in
      rw (over_all choice choice refl, over_all multipliers multipliers refl) at (finalized n h c rank factor draws draw_count width choice multipliers)

  module _ (some : 1 ≤ width) where
    pub demanded : Demand3 n h c rank factor draws draw_count width (searched_choice n h c rank factor draws draw_count width) (floor_eighths n h c)
        (rounded_cost n h c rank factor draws draw_count) (searched_cost n h c rank factor draws draw_count width) (searched_rounds n h c rank factor draws draw_count width)
    demanded = demand3 hall rank factor draws draw_count width some found

    rounds_some : searched_rounds n h c rank factor draws draw_count width < 2 ^ 64
    rounds_some =
        few (searched_rounds n h c rank factor draws draw_count width) (rounded_cost n h c rank factor draws draw_count) (searched_cost n h c rank factor draws draw_count width)
        demanded.rounds_few rounded_low cost_low
      where
        few : (rounds : ℕ) (a b : ℤ) → pos (4 * rounds) ≤ℤ (a -ℤ b) → nat_abs a ≤ 2 * most_sign_magnitude → nat_abs b ≤ 2 * most_sign_magnitude → rounds < 2 ^ 64
        few rounds a b d x y = omega (arith, ints)

rounds_low : {n : ℕ} {h : Table} {c : ℕ → ℤ} → Hall most_wagons most_entries most_magnitude n h c → (rank : ℕ) (factor draws : List Float) (draw_count width : ℕ)
    → searched_rounds n h c rank factor draws draw_count width < 2 ^ 64
rounds_low hall rank factor draws draw_count zero = rw (unsearched hall rank factor draws draw_count).2 (omega arith)
rounds_low hall rank factor draws draw_count (suc width) = rounds_some hall rank factor draws draw_count (suc width) (omega arith)

-- ---- an accepted job

module _ (s : List ℕ) (e : job_number s ≡ 0) where
  pub rank_low : (job_result (run_costs s) s).rank ≤ most_rank
  unfolding job_result finish_result
  rank_low = rw (stops s e).sound.rank_is (rank_few s e)

  status_low : (job_result (run_costs s) s).status ≤ 2
  unfolding job_result finish_result
  status_low = (stops s e).sound.status_few

  sweeps_low : (job_result (run_costs s) s).sweeps ≤ (job_of s).most
  unfolding job_result finish_result
  sweeps_low = (stops s e).sound.sweeps_few

  most_low : ((i : ℕ) → get_or s i 0 < 256) → (job_of s).most < 2 ^ 32
  unfolding job_by
  most_low bytes = number_below s (settings_place s + 10) 4 bytes

  -- each double is a sum or a difference, rounded
  relaxed_fits : T (fits binary64 (job_result (run_costs s) s).relaxed_objective)
  unfolding job_result finish_result
  relaxed_fits = add-fits binary64 _ _

  bound_fits : T (fits binary64 (job_result (run_costs s) s).float_bound)
  unfolding job_result finish_result float_bound entrywise
  bound_fits = sub-fits binary64 _ _

  rounds_fit : (job_result (run_costs s) s).rounds < 2 ^ 64
  unfolding job_result finish_result record_of
  rounds_fit = rounds_low (run_hall s e) (stopped (run_costs s) s).rank (stopped (run_costs s) s).factor (job_draws s) (job_of s).draw_count (job_of s).width

  -- what the finish of the run finds
  abbrev H : Table
  H = quadratic (job_costs s)

  abbrev free : List ℕ
  free = job_states s

  pub run_finish : Finalizes (free_count (job_costs s).n free) (free_table (job_costs s).n H free) (free_cost (job_costs s).n H (linear (job_costs s)) free) (stopped (run_costs s) s).rank (job_of s).width
      (job_of s).draw_count (job_draws s) (stopped (run_costs s) s).factor (job_choice (run_costs s) s) (job_choice (run_costs s) s)
      (finish_multipliers (record_of (stopped (run_costs s) s)) (run_costs s) (stopped (run_costs s) s).factor) (finish_multipliers (record_of (stopped (run_costs s) s)) (run_costs s) (stopped (run_costs s) s).factor)
      (diagonal_total (run_costs s).n (quadratic (run_costs s)) (linear (run_costs s))) (job_result (run_costs s) s).float_bound
      (job_result (run_costs s) s).floor (job_result (run_costs s) s).rounded_cost (job_result (run_costs s) s).cost (job_result (run_costs s) s).rounds
  unfolding job_result finish_result job_choice record_of run_costs reduced_costs free_table
  run_finish =
      found (run_hall s e) (stopped (run_costs s) s).rank (stopped (run_costs s) s).factor (job_draws s) (job_of s).draw_count (job_of s).width

  pub figures_fit : FiguresFit (pinned_cost s) (job_result (run_costs s) s)
  unfolding pinned_cost
  figures_fit =
      let w = figures_within (job_hall s e) free run_finish in
      record { floor = fits_within _ most_magnitude (omega arith) w.0; rounded = fits_within _ most_magnitude (omega arith) w.1; cost = fits_within _ most_magnitude (omega arith) w.2 }

  -- of a job that is made of bytes
  pub held : ((i : ℕ) → get_or s i 0 < 256) → Held (job_fields s)
  unfolding job_fields
  held bytes =
      record {
        status = omega (arith, status_low);
        rank = omega (arith, rank_low);
        n = omega (arith, (job_hall s e).wagons);
        sweeps = lt_of_le_of_lt sweeps_low (most_low bytes);
        relaxed = relaxed_fits;
        bound = bound_fits;
        floor = figures_fit.floor;
        rounded = figures_fit.rounded;
        cost = figures_fit.cost;
        rounds = rounds_fit;
      }
