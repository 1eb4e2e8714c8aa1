-- `finalize::finalize` meets its contract: the figures of the sign table are those of (H, c). Assumes nothing.
use Prim.Native.Nat.{suc, ◌+◌, ◌*◌}
use mathlib.Core.Path.{◌≡◌, ◌∙◌, ap}
use native.Mathlib.Numerals.{add-one}
use native.Mathlib.Omega.{arith}
use lib.ListN.{length, take}
use lib.Seq.{length-take-le}
use Rattle.laws.specs.Lists.{elem_z}
use Rattle.tables.specs.Entries.{listed}
use Rattle.tables.proofs.Checks.{hall_accepted, table_passes}
use Rattle.sign_table.proofs.MadeTables.{made_accepted}
use Rattle.finalize.proofs.Assembled.{finalizes}
use Rattle.finalize.proofs.finalize.Goals as goal

pub invariant_of-finish : goal.invariant_of-finish
invariant_of-finish c = let a = c.args in
    let e : (a.hall.n + 1) * a.rank ≡ suc a.hall.n * a.rank = ap (λ k. k * a.rank) (add-one a.hall.n) in
    let long : length (take ((a.hall.n + 1) * a.rank) a.factor.now) ≡ suc a.hall.n * a.rank = length-take-le _ _ (omega (arith, e, c.requires.factor_room)) ∙ e in
    record {
      judged = rw c.entries.ensures (table_passes (made_accepted c.make.ensures (hall_accepted a.hall.judged)));
      rank_few = c.requires.rank_few;
      width_few = c.requires.width_few;
      draws_some = c.requires.draws_some;
      draws_there = c.requires.draws_room;
      rows_are = long;
    }

pub returns : goal.returns
returns c =
    let a = c.args in
    finalizes a.hall.n (listed a.hall.table) (elem_z a.hall.c.now) a.rank a.width a.draws.count a.draws.numbers.now _
    (c.entries.ensures ∙ c.make.ensures.is) (rw (add-one a.hall.n) at c.finalize_signs.ensures)
