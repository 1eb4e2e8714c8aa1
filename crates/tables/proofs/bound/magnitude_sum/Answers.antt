-- `tables::bound::magnitude_sum` meets its contract.
use mathlib.Core.List.{[]}
use native.Mathlib.Omega.{arith}
use lib.IntN.{neg_ℤ}
use Rattle.laws.specs.Lists.{elem_z}
use mir.Syntax.{w64}
use Rattle.std.proofs.lemmas.Int.{fits_signed_from_abs}
use Rattle.laws.proofs.Integer.{held, abs_neg}
use Rattle.tables.specs.Table.{table_of}
use Rattle.tables.proofs.Shares.{value_small}
use Rattle.tables.proofs.bound.magnitude_sum.Goals as goal

pub abs-requires : goal.abs-requires
abs-requires c = let a = c.args in
    let value = elem_z a.values.now c.loop-k.k in
    rw (held value c.abs-arg-1.given) (fits_signed_from_abs w64 (neg_ℤ value) (omega (arith, abs_neg value, value_small (table_of a.count [] [] a.values.now) c.requires.1 c.loop-k.k c.loop-k-test.true)))
