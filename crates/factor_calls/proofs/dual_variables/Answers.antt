-- `factor_calls::dual_variables` meets its contract. By the number. Assumes nothing.
use mathlib.Core.Path.{refl, sym, ap, ◌∙◌}
use Rattle.refusal.proofs.Passed.{passed, some_number}
use Rattle.refusal.specs.Number.{numbered}
use Rattle.table_calls.proofs.Accepting.{refused_is, accepted_is}
use Rattle.factor_calls.proofs.Accepting.{dual_accepted}
use Rattle.factor_calls.proofs.Quotients.{by_numerators}
use Rattle.factor_calls.proofs.dual_variables.Goals as goal

pub returns-in_err-entries : goal.returns-in_err-entries
returns-in_err-entries c = record { answers = ap numbered (passed c.from_residual.ensures.1) ∙ c.in_err-entries.ensures.number; multipliers_are = refused_is _ _ _ c.in_err-entries.ensures.number (some_number _) }

pub rank_meant-meant-requires : goal.rank_meant-meant-requires
rank_meant-meant-requires c = let u = dual_accepted _ _ _ _ _ _ _ _ (sym c.in_ok-entries.ensures.number) in (λ e. u.table.signs, u.rank_low)

pub invariant_of-qv : goal.invariant_of-qv
invariant_of-qv c = let u = dual_accepted _ _ _ _ _ _ _ _ (sym c.in_ok-entries.ensures.number) in
    record { judged = rw c.in_ok-entries.ensures.entries u.judged; rank_few = c.rank_meant-meant.ensures.1; rows_there = rw c.rank_meant-meant.ensures.0 u.factor_long }

pub returns : goal.returns
returns c = record {
  answers = c.in_ok-entries.ensures.number;
  multipliers_are = (rw (c.rank_meant-meant.ensures.0, by_numerators, c.in_ok-entries.ensures.entries) at c.multiply.ensures) ∙ accepted_is _ _ _ c.in_ok-entries.ensures.number refl;
}
