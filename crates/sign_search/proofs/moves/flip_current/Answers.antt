use Rattle.limits.specs.Limits.{most_sign_magnitude}
use Prim.Native.Nat.{◌*◌, ◌≤◌}
use native.Mathlib.Omega.{arith}
use mathlib.Core.Path.{ap, ◌∙◌}
use lib.IntN.{ℤ, pos, neg_ℤ, nat_abs, ◌-ℤ◌, +ℤ_idl}
use lib.ListN.{get_or}
use mir.Syntax.{w64}
use mir.Val.{SFits, to_z, of_z}
use mir.Facts.{to_z-of_z}
use Rattle.std.proofs.lemmas.Int.{ints}
use Rattle.laws.proofs.Integer.{held}
use Rattle.tables.specs.Entries.{listed}
use Rattle.sign_search.proofs.TurnLaws.{usable_of, change_abs, changes_flipped}
use Rattle.sign_search.proofs.moves.flip_current.Goals as goal

pub overflow_sub-changes : goal.overflow_sub-changes
overflow_sub-changes c = let a = c.args in
    let small : nat_abs (get_or a.changes.now a.i (pos 0)) ≤ 4 * most_sign_magnitude = rw (c.requires.2.are a.i c.requires.1) (change_abs a.current.now (usable_of c.requires.0) a.i c.requires.1) in
    rw (held (get_or a.changes.now a.i (pos 0)) c.own-1.given) (omega (arith, ints, small))

pub returns : goal.returns
returns c = let a = c.args in
    let v = get_or a.changes.now a.i (pos 0) in
    let small : nat_abs v ≤ 4 * most_sign_magnitude = rw (c.requires.2.are a.i c.requires.1) (change_abs a.current.now (usable_of c.requires.0) a.i c.requires.1) in
    let fits : SFits w64 (pos 0 -ℤ to_z w64 (of_z w64 v)) = rw (held v c.own-1.given) (omega (arith, ints, small)) in (
      c.flip_sign.ensures,
      rw c.flip_sign.ensures
          (changes_flipped (listed a.table) a.current.now a.i a.changes.now c.turn_entries.new.changes _ c.requires.0.mirrors c.requires.1 c.requires.2 c.turn_entries.ensures
          (to_z-of_z fits ∙ ap (λ (u : ℤ). pos 0 -ℤ u) (held v c.own-1.given) ∙ +ℤ_idl (neg_ℤ v))),
    )
