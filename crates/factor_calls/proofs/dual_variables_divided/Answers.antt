-- `factor_calls::dual_variables_divided` meets its contract. By the number, and by what `multiply` ensures. Assumes nothing.
use mathlib.Core.Path.{refl, sym, ap, subst, ◌∙◌}
use Prim.Native.Nat.{ℕ, ◌*◌, ◌≤◌}
use lib.ListN.{length}
use Rattle.refusal.proofs.Passed.{passed, some_number}
use Rattle.refusal.specs.Number.{numbered}
use Rattle.table_calls.proofs.Accepting.{refused_is, accepted_is}
use Rattle.factor_calls.proofs.Accepting.{divided_accepted}
use Rattle.factor_calls.proofs.Quotients.{by_quotients}
use Rattle.factor_calls.proofs.dual_variables_divided.Goals as goal

pub returns-in_err-entries : goal.returns-in_err-entries
returns-in_err-entries c = record { answers = ap numbered (passed c.from_residual.ensures.1) ∙ c.in_err-entries.ensures.number; multipliers_are = refused_is _ _ _ c.in_err-entries.ensures.number (some_number _) }

pub invariant_of-qv : goal.invariant_of-qv
invariant_of-qv c = let a = c.args in
    let u = divided_accepted _ _ _ _ _ _ _ _ (sym c.in_ok-entries.ensures.number) in
    let long : a.table.size * a.rank ≤ length a.factor.now = subst (λ (r : ℕ). a.table.size * r ≤ length a.factor.now) u.1 u.0.factor_long in
    record { judged = rw c.in_ok-entries.ensures.entries u.0.judged; rank_few = u.0.rank_low; rows_there = long }

pub returns : goal.returns
returns c = record {
  answers = c.in_ok-entries.ensures.number;
  multipliers_are = (rw (by_quotients, c.in_ok-entries.ensures.entries) at c.multiply.ensures) ∙ accepted_is _ _ _ c.in_ok-entries.ensures.number refl;
}
