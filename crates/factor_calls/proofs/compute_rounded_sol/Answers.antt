-- `factor_calls::compute_rounded_sol` meets its contract. By the number. Assumes nothing.
use Rattle.std.specs.Prelude.{Ok}
use mathlib.Core.Path.{refl, sym, ap, ◌∙◌}
use Rattle.laws.proofs.Integer.{held}
use Rattle.refusal.proofs.Passed.{passed, some_number}
use Rattle.refusal.specs.Number.{in_numbers}
use Rattle.table_calls.proofs.Accepting.{refused_is, accepted_is}
use Rattle.factor_calls.proofs.Accepting.{rounded_accepted}
use Rattle.factor_calls.proofs.compute_rounded_sol.Goals as goal

pub returns-in_err-entries : goal.returns-in_err-entries
returns-in_err-entries c = record { answers = ap in_numbers (passed c.from_residual.ensures.1) ∙ refused_is _ _ _ c.in_err-entries.ensures.number (some_number _); signs_are = refused_is _ _ _ c.in_err-entries.ensures.number (some_number _) }

pub rank_meant-meant-requires : goal.rank_meant-meant-requires
rank_meant-meant-requires c = let u = rounded_accepted _ _ _ _ _ _ _ _ _ _ (sym c.in_ok-entries.ensures.number) in (λ e. u.table.signs, u.rank_low)

pub invariant_of-qv : goal.invariant_of-qv
invariant_of-qv c = let u = rounded_accepted _ _ _ _ _ _ _ _ _ _ (sym c.in_ok-entries.ensures.number) in
    record { judged = rw c.in_ok-entries.ensures.entries u.judged; rank_few = c.rank_meant-meant.ensures.1; rows_there = rw c.rank_meant-meant.ensures.0 u.factor_long }

pub round-objective-requires : goal.round-objective-requires
round-objective-requires c = let u = rounded_accepted _ _ _ _ _ _ _ _ _ _ (sym c.in_ok-entries.ensures.number) in
    (rw c.rank_meant-meant.ensures.0 u.draws_long, u.some, u.out_long)

pub returns : goal.returns
returns c = record { answers = ap Ok (held c.round-objective.result c.round-objective.type_inv ∙ (rw (c.rank_meant-meant.ensures.0, c.in_ok-entries.ensures.entries) at c.round-objective.ensures.value)) ∙ accepted_is _ _ _ c.in_ok-entries.ensures.number refl; signs_are = (rw (c.rank_meant-meant.ensures.0, c.in_ok-entries.ensures.entries) at c.round-objective.ensures.out_after) ∙ accepted_is _ _ _ c.in_ok-entries.ensures.number refl }
