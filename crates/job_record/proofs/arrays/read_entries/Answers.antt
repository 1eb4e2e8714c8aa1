use Prim.Native.Nat.{ℕ, ◌+◌}
use mathlib.Core.Path.{ap, ◌∙◌}
use mir.Syntax.{w64}
use mir.ValLaws.{to_z-of_z}
use Rattle.job_reader.specs.Bytes.{big_endian, signed_at}
use Rattle.laws.proofs.MapFirst.{fill_more}
use Rattle.job_record.proofs.arrays.read_entries.Goals as goal

pub loop-i-preserved : goal.loop-i-preserved
loop-i-preserved c = let inv = c.loop-i.invariant in let job = c.args.job.now in (
  fill_more _ _ _ inv.0 (c.big_endian.ensures.0 ∙ ap (λ (p : ℕ). big_endian job p 1) c.entry_at-at.ensures),
  fill_more _ _ _ inv.1 (c.big_endian-in-loop-i.ensures.0 ∙ ap (λ (p : ℕ). big_endian job (p + 1) 1) c.entry_at-at.ensures),
  fill_more _ _ _ inv.2 (to_z-of_z w64 _ (record { sfits = c.stored_at.type_inv }) ∙ c.stored_at.ensures ∙ ap (λ (p : ℕ). signed_at job (p + 2)) c.entry_at-at.ensures),
)
