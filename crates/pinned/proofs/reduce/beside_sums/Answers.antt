use Rattle.pinned.proofs.Steps.{sums_none, row_fits, sums_next}
use Rattle.limits.specs.Limits.{most_wagons}
use Rattle.tables.specs.Entries.{listed}
use Rattle.laws.proofs.Integer.{held}
use Rattle.laws.specs.Lists.{elem_z}
use mir.Facts.{to_z-of_z}
use Rattle.pinned.proofs.reduce.beside_sums.Goals as goal

pub loop-l-init : goal.loop-l-init
loop-l-init c = sums_none (listed c.args.table) c.args.held.now most_wagons

pub overflow_add-sums : goal.overflow_add-sums
overflow_add-sums c = rw (held (elem_z c.loop-l.sums c.from-i.result) c.sums-1.given, held c.entry_term.result c.entry_term.type_inv, c.entry_term.ensures, c.from-i.ensures) (row_fits (listed c.args.table) c.args.held.now c.loop-l.l c.loop-l.invariant (c.requires.0.rows_in c.loop-l.l c.loop-l-test.true) c.loop-l-test.true c.requires.1)

pub loop-l-preserved : goal.loop-l-preserved
loop-l-preserved c = rw (held (elem_z c.loop-l.sums c.from-i.result) c.sums-1.given, held c.entry_term.result c.entry_term.type_inv, c.entry_term.ensures, c.from-i.ensures, to_z-of_z (row_fits (listed c.args.table) c.args.held.now c.loop-l.l c.loop-l.invariant (c.requires.0.rows_in c.loop-l.l c.loop-l-test.true) c.loop-l-test.true c.requires.1)) (sums_next (listed c.args.table) c.args.held.now c.loop-l.l c.loop-l.invariant (c.requires.0.rows_in c.loop-l.l c.loop-l-test.true))
