-- A job of version 1, and any that isn't of version 2 or 3, is answered as before there were pins; and one of version 1 or 2, and any that isn't of
-- version 3, as before there were larger houses. Assumes nothing.
--     as_before, as_two    the whole answer: number and bytes
use Prim.Native.Nat.{ℕ, zero, suc}
use mathlib.Core.Path.{◌≡◌, refl, sym, ap, ap₂, ◌∙◌}
use mathlib.Core.List.{List}
use lib.IntN.{pos, +ℤ_idr}
use Rattle.run_contract.specs.declared.FinishResult.{FinishResult}
use Rattle.run_contract.specs.Calls.{finish_result}
use Rattle.answer_record.specs.Answer.{answer_bytes}
use Rattle.job_record.specs.Versions.{one_version, two_versions}
use Rattle.job_record.specs.Fields.{version}
use Rattle.job_record.specs.Number.{number_by, job_number}
use Rattle.job_record.specs.Values.{job_by}
use Rattle.job_record.specs.Base.{base_number, AsTwo}
use Rattle.job_record.proofs.Before as Job
use Rattle.record_call.specs.Record.{job_costs, run_costs, pinned_cost, job_settings, job_draws, opened, stopped, job_result, job_choice, fields_of, job_fields, whole_choice, bytes_by, answer_of, JobAnswer}
use Rattle.record_call.specs.Base.{base_open, base_drawn, base_stopped, base_result, base_choice, base_fields, base_bytes, base_answer, two_costs, two_states, two_open, two_drawn, two_stopped, two_result, two_choice, two_fields, two_whole, two_bytes, two_answer}
use Rattle.record_call.proofs.Freed.{own_choice, own_fields}

-- ---- the number

module _ (s : List ℕ) (two : version s ≡ 2 → ⊥) (three : version s ≡ 3 → ⊥) where
  one_same : job_number s ≡ number_by one_version s
  one_same = (Job.as_two s three).number ∙ Job.not_two s two

  number_same : job_number s ≡ base_number s
  number_same = one_same ∙ Job.one_version_lem s

  -- where it is accepted, it is of version 1
  is_one : job_number s ≡ 0 → version s ≡ 1
  is_one e = Job.one_accepted s (sym one_same ∙ e)

-- ---- the answer of an accepted one

module _ (s : List ℕ) (one : version s ≡ 1) where
  open_same : job_settings (job_costs s) s ≡ base_open s
  unfolding job_settings job_by base_open
  open_same = rw ((Job.as_before s one).settings, (Job.as_before s one).free)

  draws_same : job_draws s ≡ base_drawn s
  unfolding job_draws base_drawn
  draws_same = rw ((Job.as_before s one).draws, (Job.as_before s one).settings, (Job.as_before s one).free)

  stopped_same : stopped (job_costs s) s ≡ base_stopped s
  unfolding stopped opened job_by base_stopped
  stopped_same = rw (open_same, (Job.as_before s one).settings)

  result_same : job_result (job_costs s) s ≡ base_result s
  unfolding job_result job_by base_result
  result_same = rw (stopped_same, draws_same, (Job.as_before s one).settings, (Job.as_before s one).draws)

  choice_same : job_choice (job_costs s) s ≡ base_choice s
  unfolding job_choice job_by base_choice
  choice_same = rw (stopped_same, draws_same, (Job.as_before s one).settings, (Job.as_before s one).draws)

  n_same : (base_result s).n ≡ (job_costs s).n
  unfolding base_result finish_result
  n_same = refl

  no_constant : (n : ℕ) (x : FinishResult) → x.n ≡ n → fields_of n (pos 0) x ≡ base_fields x
  no_constant n x e = rw (e, +ℤ_idr x.floor, +ℤ_idr x.rounded_cost, +ℤ_idr x.cost)

  accepted_same : job_number s ≡ 0 → answer_bytes (job_fields s) (whole_choice s) ≡ answer_bytes (base_fields (base_result s)) (base_choice s)
  accepted_same e =
      let none = (Job.as_before s one).pins in
      ap₂ answer_bytes (own_fields s e none ∙ ap (fields_of (job_costs s).n (pos 0)) result_same ∙ no_constant (job_costs s).n (base_result s) n_same) (own_choice s e none ∙ choice_same)

-- ---- by the table with versions 1 and 2, part for part

module _ (s : List ℕ) (a : AsTwo s) where
  two_costs_lem : run_costs s ≡ two_costs s
  unfolding run_costs two_costs two_states
  two_costs_lem = rw a.states

  two_open_lem : job_settings (run_costs s) s ≡ two_open s
  unfolding job_settings two_open
  two_open_lem = rw (two_costs_lem, a.job, a.start, a.start_count)

  two_draws : job_draws s ≡ two_drawn s
  unfolding job_draws two_drawn
  two_draws = rw (a.draw, a.drawn)

  two_stopped_lem : stopped (run_costs s) s ≡ two_stopped s
  unfolding stopped opened two_stopped
  two_stopped_lem = rw (two_open_lem, two_costs_lem, a.job)

  two_fields_lem : job_fields s ≡ two_fields s
  unfolding job_fields pinned_cost job_result two_fields two_result two_states
  two_fields_lem = rw (two_stopped_lem, two_draws, two_costs_lem, a.states, a.job)

  two_whole_lem : whole_choice s ≡ two_whole s
  unfolding whole_choice job_choice two_whole two_choice two_states
  two_whole_lem = rw (two_stopped_lem, two_draws, two_costs_lem, a.states, a.job)

  two_bytes_lem : (k : ℕ) → bytes_by k s ≡ two_bytes k s
  two_bytes_lem zero = ap₂ answer_bytes two_fields_lem two_whole_lem
  two_bytes_lem (suc k) = refl

-- ---- the theorems

pub as_before : (s : List ℕ) → (version s ≡ 2 → ⊥) → (version s ≡ 3 → ⊥) → answer_of s ≡ base_answer s
unfolding answer_of base_answer
as_before s two three = rw (← (number_same s two three)) (same_bytes (go (job_number s) refl))
  where
    same_bytes : {b b' : List ℕ} → b ≡ b' → ◌≡◌ {A = JobAnswer} (record { number = job_number s; bytes = b }) (record { number = job_number s; bytes = b' })
    same_bytes e = rw e

    go : (k : ℕ) → job_number s ≡ k → bytes_by k s ≡ base_bytes k s
    go zero e = accepted_same s (is_one s two three e) e
    go (suc k) e = refl

pub as_two : (s : List ℕ) → (version s ≡ 3 → ⊥) → answer_of s ≡ two_answer s
unfolding answer_of two_answer
as_two s three =
    let a = Job.as_two s three in
    ap (λ (k : ℕ). record { number = k; bytes = bytes_by k s }) a.number ∙ ap (λ (b : List ℕ). record { number = number_by two_versions s; bytes = b }) (two_bytes_lem s a (number_by two_versions s))
