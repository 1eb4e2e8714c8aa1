use mathlib.Core.Path.{refl, sym, ◌∙◌}
use native.Mathlib.Omega.{arith}
use Prim.Native.Nat.{◌+◌}
use Rattle.laws.proofs.Refusal.{stop, pass}
use Rattle.laws.proofs.Following.{first_append}
use Rattle.job_record.specs.Number.{run_numbers, settings_numbers, draws_numbers}
use Rattle.job_record.specs.Fields.{rank_of, draws_after}
use Rattle.job_record.proofs.FieldByField.{settings_number_is, settings_read, number_below}
use Rattle.refusal.proofs.Passed.{passed}
use Rattle.job_record.proofs.Handed.{handed, refused}
use Rattle.job_record.proofs.settings.run_number.Goals as goal

pub returns-in_err-settings_number : goal.returns-in_err-settings_number
unfolding run_numbers
returns-in_err-settings_number c = let a = c.args in let p = passed c.from_residual.ensures.1 in stop _ _ (settings_number_is _ _ c.read_settings-f.ensures (handed p c.in_err-settings_number.ensures)) (refused p) ∙ sym (first_append (settings_numbers a.job.now a.at) (draws_numbers a.job.now (draws_after a.job.now a.n a.at) (rank_of a.job.now a.n a.at)))

pub rank_meant-rank-requires : goal.rank_meant-rank-requires
rank_meant-rank-requires c = (λ _. omega arith, omega (arith, settings_read _ _ c.read_settings-f.ensures c.in_ok-settings_number.ensures c.settings_values-v.ensures))

pub overflow_cast-v : goal.overflow_cast-v
overflow_cast-v c = omega (arith, settings_read _ _ c.read_settings-f.ensures c.in_ok-settings_number.ensures c.settings_values-v.ensures)

pub overflow_cast-v-2 : goal.overflow_cast-v-2
overflow_cast-v-2 c = omega (arith, settings_read _ _ c.read_settings-f.ensures c.in_ok-settings_number.ensures c.settings_values-v.ensures, number_below c.args.job.now (c.args.at + 10) 4 (λ i. omega (arith, c.type_inv.job i)))

pub overflow_add-v : goal.overflow_add-v
overflow_add-v c = omega (arith, settings_read _ _ c.read_settings-f.ensures c.in_ok-settings_number.ensures c.settings_values-v.ensures)

pub draws_number-requires : goal.draws_number-requires
draws_number-requires c = omega (arith, settings_read _ _ c.read_settings-f.ensures c.in_ok-settings_number.ensures c.settings_values-v.ensures)

pub returns : goal.returns
unfolding run_numbers
returns c = let t = settings_read _ _ c.read_settings-f.ensures c.in_ok-settings_number.ensures c.settings_values-v.ensures in let a = c.args in
    pass _ _ (settings_number_is _ _ c.read_settings-f.ensures c.in_ok-settings_number.ensures) refl (c.draws_number.ensures ∙ simp (c.start_length-count.ensures.0, c.rank_meant-rank.ensures.0, t.1.most, t.1.start, t.1.rank, t.1.next))
    ∙ sym (first_append (settings_numbers a.job.now a.at) (draws_numbers a.job.now (draws_after a.job.now a.n a.at) (rank_of a.job.now a.n a.at)))
