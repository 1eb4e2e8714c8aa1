use Rattle.pinned.proofs.Walk.{entry_held, entry_column, put_none, put_here}
use Rattle.laws.proofs.Integer.{held}
use Rattle.laws.specs.Lists.{next_if}
use mathlib.Core.Path.{refl, sym, ◌∙◌, ap}
use Rattle.pinned.proofs.entries.put_entry.Goals as goal

pub returns-then-from-row-ge-HELD : goal.returns-then-from-row-ge-HELD
returns-then-from-row-ge-HELD c = let e = entry_held _ _ _ _ (rw c.from-row.ensures at c.if-from-row-ge-HELD.true) in (put_none _ _ _ e, put_none _ _ _ e, put_none _ _ _ e, rw e refl)

pub returns : goal.returns
returns c = (rw c.from-row.ensures (put_here _ _ _ _), rw c.from-column.ensures (put_here _ _ _ _), rw (held _ c.to_values-1.given) (put_here _ _ _ _), (rw c.from-column.ensures at c.after.ensures) ∙ ap (λ t. next_if t c.args.at) (sym (entry_column _ _ _ _ (rw c.from-row.ensures at c.if-from-row-ge-HELD.false))))
