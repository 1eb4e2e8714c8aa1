-- What the bytes of an accepted job's answer hold, for a reader of answers. Assumes nothing.
--     fields_read_lem, choice_read_lem    the fields of the result, and its choice
--     pins_promise                with W ≥ 1 demand 3 among the choices that keep the pins: the controller's promise
--     promise                     where no wagon is pinned, demand 3 as it stands
use Prim.Native.Nat.{ℕ, ◌≤◌, ◌<◌}
use native.Mathlib.Omega.{arith}
use mathlib.Core.Path.{◌≡◌, refl, ap, ◌∙◌}
use mathlib.Core.List.{List}
use lib.ListN.{length, get_or, take}
use lib.Seq.{take_all}
use lib.IntN.{ℤ, pos, ◌+ℤ◌, +ℤ_idr}
use Rattle.laws.specs.Lists.{over}
use Rattle.laws.proofs.Sums.{sum_ext}
use Rattle.laws.proofs.Made.{get_d_tabulate}
use Rattle.tables.specs.Table.{value_at}
use Rattle.finalize.specs.Demand3.{Demand3}
use Rattle.pinned.specs.Pinned.{lifted}
use Rattle.pinned.proofs.Lifting.{length_lifted}
use Rattle.pinned_demand.specs.PinnedDemand3.{PinnedDemand3}
use Rattle.pinned_demand.proofs.Pinned.{pinned_finish}
use Rattle.tables.specs.CostTable.{CostTable, quadratic, linear}
use Rattle.run_contract.specs.Calls.{finish_result}
use Rattle.run_contract.specs.PlainRun.{record_of}
use Rattle.job_record.specs.Number.{job_number}
use Rattle.job_record.specs.Fields.{wagons, entry_count, row, column, value}
use Rattle.job_record.specs.Values.{pin_count, job_states, job_of, job_table, job_cost}
use Rattle.answer_record.specs.Answer as Read
use Rattle.answer_record.specs.Answer.{answer_bytes}
use Rattle.answer_record.specs.declared.answer.Answer.{Answer}
use Rattle.answer_record.proofs.RoundTrip.{answer_back, choice_back}
use Rattle.record_call.specs.Record.{job_costs, run_costs, pinned_cost, job_draws, stopped, job_result, job_choice, fields_of, job_fields, whole_choice, answer_of}
use Rattle.record_call.specs.Promise.{PinsPromised, Promised}
use Rattle.record_call.proofs.Freed.{job_hall, states_whole, own_choice, own_fields}
use Rattle.record_call.proofs.Figures.{demanded, run_finish, held}

-- ---- H and c of the promise are the record's

module _ (s : List ℕ) where
  pub same_values : (i j : ℕ) → value_at (quadratic (job_costs s)) i j ≡ value_at (job_table s) i j
  unfolding job_costs value_at
  same_values i j =
      sum_ext (entry_count s) _ _
      (λ k l. rw (get_d_tabulate (row s) (entry_count s) k 0 l, get_d_tabulate (column s) (entry_count s) k 0 l, get_d_tabulate (value s) (entry_count s) k (pos 0) l))

  pub same_linear : (i : ℕ) → i < wagons s → linear (job_costs s) i ≡ job_cost s i
  unfolding job_costs
  same_linear i l = get_d_tabulate (job_cost s) (wagons s) i (pos 0) l

-- ---- the answer of a job

-- a demand of choice and figures, of others that are the same
moved : (demand : List ℕ → ℤ → ℤ → ℤ → ℕ → Type 0) {b b' : List ℕ} {floor floor' rounded rounded' cost cost' : ℤ} {rounds rounds' : ℕ} → b' ≡ b → floor' ≡ floor → rounded' ≡ rounded → cost' ≡ cost → rounds' ≡ rounds
    → demand b floor rounded cost rounds → demand b' floor' rounded' cost' rounds'
moved demand p q r s t d = rw (p, q, r, s, t) d

module _ (s : List ℕ) (e : job_number s ≡ 0) where
  own_demand : 1 ≤ (job_of s).width → Demand3 (job_costs s).n (quadratic (job_costs s)) (linear (job_costs s)) (stopped (job_costs s) s).rank (stopped (job_costs s) s).factor (job_draws s) (job_of s).draw_count (job_of s).width
      (job_choice (job_costs s) s) (job_result (job_costs s) s).floor (job_result (job_costs s) s).rounded_cost (job_result (job_costs s) s).cost (job_result (job_costs s) s).rounds
  unfolding job_result finish_result job_choice record_of
  own_demand some =
      demanded (job_hall s e) (stopped (job_costs s) s).rank (stopped (job_costs s) s).factor (job_draws s) (job_of s).draw_count (job_of s).width some

  whole_front : take (job_costs s).n (whole_choice s) ≡ lifted (job_costs s).n (job_states s) (job_choice (run_costs s) s)
  unfolding whole_choice
  whole_front =
      take_all (job_costs s).n _ (omega (arith, length_lifted (job_costs s).n (job_states s) (job_choice (run_costs s) s) (omega (arith, states_whole s))))

  -- the answer's bytes
  pub accepted_bytes : (answer_of s).bytes ≡ answer_bytes (job_fields s) (whole_choice s)
  unfolding answer_of
  accepted_bytes = rw e

  pub n_is : (job_fields s).n ≡ (job_costs s).n
  unfolding job_fields
  n_is = refl

  pub choice_size : length (whole_choice s) ≡ (job_costs s).n
  unfolding whole_choice
  choice_size = length_lifted (job_costs s).n (job_states s) (job_choice (run_costs s) s) (omega (arith, states_whole s))

  -- over the front of any slice
  module _ (bytes : (i : ℕ) → get_or s i 0 < 256) (out : List ℕ) where
    abbrev left : List ℕ
    left = over (answer_bytes (job_fields s) (whole_choice s)) out

    pub fields_read_lem : Read.fields_read left ≡ job_fields s
    fields_read_lem = answer_back (job_fields s) (whole_choice s) out (held s e bytes)

    pub choice_read_lem : Read.choice_read left ≡ whole_choice s
    choice_read_lem =
        choice_back (job_fields s) (whole_choice s) out (held s e bytes) (omega (arith, n_is, choice_size))
        ∙ take_all (job_fields s).n (whole_choice s) (omega (arith, n_is, choice_size))

    pub pins_promise : 1 ≤ (job_of s).width → PinsPromised s left
    unfolding job_fields pinned_cost
    pins_promise some =
        moved (PinnedDemand3 _ _ _ _ _ _ _ _ _) choice_read_lem (ap (λ (a : Answer). a.floor) fields_read_lem) (ap (λ (a : Answer). a.rounded_cost) fields_read_lem) (ap (λ (a : Answer). a.cost) fields_read_lem)
        (ap (λ (a : Answer). a.rounds) fields_read_lem)
        (pinned_finish (job_hall s e) (job_states s) (omega (arith, states_whole s)) (stopped (run_costs s) s).rank (stopped (run_costs s) s).factor (job_draws s) (job_of s).draw_count (job_of s).width some
        (run_finish s e) (whole_choice s) whole_front)

    -- where no wagon is pinned
    module _ (none : pin_count s ≡ 0) where
      abbrev own : CostTable
      own = job_costs s

      field : (f : Answer → ℤ) (w : ℤ) → f (fields_of own.n (pos 0) (job_result own s)) ≡ w +ℤ pos 0 → f (Read.fields_read left) ≡ w
      field f w q = ap f (fields_read_lem ∙ own_fields s e none) ∙ q ∙ +ℤ_idr w

      pub promise : 1 ≤ (job_of s).width → Promised s left
      promise some =
          moved (Demand3 _ _ _ _ _ _ _ _) (choice_read_lem ∙ own_choice s e none) (field (λ a. a.floor) (job_result own s).floor refl) (field (λ a. a.rounded_cost) (job_result own s).rounded_cost refl)
          (field (λ a. a.cost) (job_result own s).cost refl) (ap (λ (a : Answer). a.rounds) (fields_read_lem ∙ own_fields s e none)) (own_demand some)
