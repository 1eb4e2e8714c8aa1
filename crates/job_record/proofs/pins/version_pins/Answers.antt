use native.Mathlib.Omega.{arith}
use mathlib.Core.Path.{ap, ◌∙◌}
use mathlib.Core.Bool.{not}
use Prim.Native.Nat.{ℕ}
use Rattle.limits.specs.Limits.{most_wagons}
use Rattle.job_record.specs.Fields.{wagons, free_state}
use Rattle.std.proofs.lemmas.List.{take-replicate}
use Rattle.laws.specs.Refusal.{first}
use Rattle.job_record.specs.Number.{pins_numbers}
use Rattle.job_record.proofs.Accepted.{costs_place, version_pinned, version_some}
use Rattle.job_record.proofs.pins.version_pins.Goals as goal

pub pins_number-requires : goal.pins_number-requires
pins_number-requires c = take-replicate c.args.head.values.n most_wagons free_state (omega arith)

pub returns : goal.returns
returns c = let s = c.args.head.bytes.now in let h = c.args.head.there in
    c.pins_number.ensures.0 ∙ ap (λ (n : ℕ). first (pins_numbers s n c.costs_end.result)) h.n ∙ ap (λ (at : ℕ). first (pins_numbers s (wagons s) at)) (costs_place s h c.costs_end.ensures)
    ∙ version_some s (version_pinned s h c.carries_pins.ensures (ap not c.if-not-carries_pins.false))
