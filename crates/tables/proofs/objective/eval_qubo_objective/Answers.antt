-- `tables::objective::eval_qubo_objective` meets its contract.
use Rattle.tables.proofs.Choices.{costs_small, four_fits, eight_fits, cost_fits, cost_entries}
use Rattle.tables.specs.Cost.{choice_at}
use Rattle.laws.proofs.Integer.{held}
use Rattle.laws.specs.Lists.{elem_z}
use mir.Facts.{to_z-of_z}
use mathlib.Core.Path.{◌∙◌}
use Rattle.tables.specs.Entries.{listed}
use Rattle.tables.proofs.objective.eval_qubo_objective.Goals as goal

pub overflow_mul-result : goal.overflow_mul-result
overflow_mul-result c = let a = c.args in
    let q = c.quadratic_cost-quadratic in
    let l = c.linear_cost-linear in
    rw (held q.result q.type_inv) (four_fits q.result l.result (costs_small a.n (listed a.table) (elem_z a.c.now) a.b.now q.ensures l.ensures c.requires.3))

pub overflow_mul-result-2 : goal.overflow_mul-result-2
overflow_mul-result-2 c = let a = c.args in
    let q = c.quadratic_cost-quadratic in
    let l = c.linear_cost-linear in
    rw (held l.result l.type_inv) (eight_fits q.result l.result (costs_small a.n (listed a.table) (elem_z a.c.now) a.b.now q.ensures l.ensures c.requires.3))

pub overflow_add-result : goal.overflow_add-result
overflow_add-result c = let a = c.args in
    let q = c.quadratic_cost-quadratic in
    let l = c.linear_cost-linear in
    let small = costs_small a.n (listed a.table) (elem_z a.c.now) a.b.now q.ensures l.ensures c.requires.3 in
    rw (held q.result q.type_inv, held l.result l.type_inv, to_z-of_z (four_fits q.result l.result small), to_z-of_z (eight_fits q.result l.result small)) (cost_fits q.result l.result small)

pub returns : goal.returns
returns c = let a = c.args in
    let q = c.quadratic_cost-quadratic in
    let l = c.linear_cost-linear in
    let small = costs_small a.n (listed a.table) (elem_z a.c.now) a.b.now q.ensures l.ensures c.requires.3 in
    rw (held q.result q.type_inv, held l.result l.type_inv, to_z-of_z (four_fits q.result l.result small), to_z-of_z (eight_fits q.result l.result small))
    (to_z-of_z (cost_fits q.result l.result small) ∙ rw (q.ensures, l.ensures) (cost_entries c.requires.2 (elem_z a.c.now) (choice_at a.b.now)))
