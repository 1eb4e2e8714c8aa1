-- `finalize::choice::search_from` meets its contract. By what its callees ensure. Assumes nothing.
use mathlib.Core.Path.{◌≡◌, ◌∙◌}
use Prim.Native.Nat.{suc, ◌+◌}
use native.Mathlib.Numerals.{add-one}
use native.Mathlib.Omega.{arith}
use lib.ListN.{length}
use Rattle.laws.proofs.Integer.{held}
use Rattle.tables.proofs.Checks.{table_accepted}
use Rattle.tables.specs.Entries.{listed}
use Rattle.finalize.proofs.Assembled.{chooses, sound, room, objective_held, rounded_binary}
use Rattle.finalize.proofs.choice.search_from.Goals as goal

pub compute_rounded_sol-rounded_cost-requires : goal.compute_rounded_sol-rounded_cost-requires
compute_rounded_sol-rounded_cost-requires c = let f = c.args.finish in
    let t = table_accepted f.judged in
    rw (add-one f.n)
    (record { table_in_bounds = (t.in_range, t.magnitude); rank_in_bounds = (omega (arith, f.rows_are), f.draws_there, f.draws_some, c.requires.2, c.requires.3, c.requires.4) })

pub search_signs-found-requires : goal.search_signs-found-requires
search_signs-found-requires c =
    let f = c.args.finish in
    let rounded-long : length c.compute_rounded_sol-rounded_cost.new.best ≡ suc f.n =
    c.compute_rounded_sol-rounded_cost.auto.best ∙ c.requires.4 in (
      room (table_accepted f.judged) (rounded-long) f.width_few c.requires.1,
      rw c.compute_rounded_sol-rounded_cost.ensures.best_after
          (rounded_binary f.factor.now f.rank (f.n + 1) f.draws.numbers.now (listed f.table) f.draws.count),
      sound (table_accepted f.judged) (rounded-long),
    )

pub returns : goal.returns
returns c = let f = c.args.finish in
    chooses (listed f.table) f.n f.rank f.width f.draws.count f.draws.numbers.now f.factor.now c.args.b.now _ _ _ _ c.search_signs-found.result.least _ _
    c.compute_rounded_sol-rounded_cost.ensures.best_after (held c.compute_rounded_sol-rounded_cost.result c.compute_rounded_sol-rounded_cost.type_inv ∙ c.compute_rounded_sol-rounded_cost.ensures.value) c.search_signs-found.ensures (objective_held (table_accepted f.judged) _ c.search_signs-found.ensures.least_is)
    c.qubo_binary_from_sign_solution.ensures c.requires.0
