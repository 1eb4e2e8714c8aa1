use Prim.Native.Nat.{ℕ}
use mathlib.Core.Path.{ap, ◌∙◌}
use native.Mathlib.Omega.{arith}
use Rattle.laws.specs.Lists.{fill}
use Rattle.job_record.specs.Fields.{signed_from}
use Rattle.job_record.proofs.Entries.{costs_judged}
use Rattle.job_record.proofs.number.costs_number.Goals as goal

pub returns-then-hall_too_large : goal.returns-then-hall_too_large
returns-then-hall_too_large c = let a = c.args in let s = a.head.bytes.now in let n = a.head.values.n in
    let read = c.read_stored.ensures ∙ ap (λ (p : ℕ). fill (signed_from s p) n a.c.now) c.entry_at.ensures in
    (costs_judged s n _ a.c.now a.values.now read c.requires.1 c.requires.2 (omega arith) c.hall_too_large.ensures c.if-hall_too_large.true, λ z. absurd (omega arith))

pub returns : goal.returns
returns c = let a = c.args in let s = a.head.bytes.now in let n = a.head.values.n in
    let read = c.read_stored.ensures ∙ ap (λ (p : ℕ). fill (signed_from s p) n a.c.now) c.entry_at.ensures in
    (costs_judged s n _ a.c.now a.values.now read c.requires.1 c.requires.2 (omega arith) c.hall_too_large.ensures c.if-hall_too_large.false, λ z. read)
