use mathlib.Core.Path.{ap, ◌∙◌}
use mathlib.Core.Bool.{not}
use native.Mathlib.Omega.{arith}
use Rattle.job_record.proofs.Accepted.{unpinned, pins_read, costs_place, version_pinned, free_is}
use Rattle.job_record.proofs.pins.behind_pins.Goals as goal

pub returns-then-not-carries_pins : goal.returns-then-not-carries_pins
returns-then-not-carries_pins c = let s = c.args.head.bytes.now in let h = c.args.head.there in let u = unpinned s (version_pinned s h c.carries_pins.ensures (ap not c.if-not-carries_pins.true)) in
    (u.0, h.n ∙ u.1, costs_place s h c.costs_end-at.ensures ∙ u.2)

pub overflow_sub-result : goal.overflow_sub-result
overflow_sub-result c = omega (arith, pins_read _ c.args.head.there c.requires c.carries_pins.ensures (ap not c.if-not-carries_pins.false) c.costs_end-at.ensures c.field_at.ensures c.unwrap_or-pins.ensures)

pub overflow_mul-result : goal.overflow_mul-result
overflow_mul-result c = record { fits = omega (arith, pins_read _ c.args.head.there c.requires c.carries_pins.ensures (ap not c.if-not-carries_pins.false) c.costs_end-at.ensures c.field_at.ensures c.unwrap_or-pins.ensures) }

pub overflow_add-result-2 : goal.overflow_add-result-2
overflow_add-result-2 c = record { fits = omega (arith, pins_read _ c.args.head.there c.requires c.carries_pins.ensures (ap not c.if-not-carries_pins.false) c.costs_end-at.ensures c.field_at.ensures c.unwrap_or-pins.ensures) }

pub returns : goal.returns
returns c = let p = pins_read _ c.args.head.there c.requires c.carries_pins.ensures (ap not c.if-not-carries_pins.false) c.costs_end-at.ensures c.field_at.ensures c.unwrap_or-pins.ensures in (p.0, free_is _ c.args.head.there.n p.0, p.1)
