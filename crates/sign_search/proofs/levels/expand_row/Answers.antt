use Prim.Native.Nat.{ℕ}
use native.Mathlib.Omega.{arith}
use mathlib.Core.List.{List}
use mathlib.Core.Path.{subst}
use lib.ListN.{length}
use mir.Facts.{to_z-of_z}
use Rattle.sign_words.proofs.PackedLaws.{length_unpacked}
use Rattle.tables.specs.Entries.{listed}
use Rattle.sign_search.specs.Clauses.{Changes}
use Rattle.sign_search.proofs.ExpandLaws.{row_kept, row_tidy}
use Prim.Native.Nat.{ℕ, ◌*◌, ◌≤◌}
use Rattle.sign_search.proofs.levels.expand_row.Goals as goal

pub move_to-requires : goal.move_to-requires
move_to-requires c = let a = c.args in
    let long = length_unpacked (length a.current.now) a.parent.now in (rw long at c.requires.0.table, record { signs_held = omega arith; words_few = omega arith; as_long = c.requires.1 }, c.requires.2)

pub returns : goal.returns
returns c = let e = c.expand_near in
    let k = c.move_to in
    let a = c.args in
    let m = length a.current.now in
    let is = subst (λ (x : List ℕ). Changes (listed a.table) x k.new.changes) k.ensures.current_after k.ensures.at_hand.changes_are in
    let held : m ≤ 64 * length a.parent.now = omega (arith, length_unpacked m a.parent.now) in
    let taken = rw (to_z-of_z c.ranges.objective, k.ensures.current_after, length_unpacked m a.parent.now) at e.ensures in
    let few = c.requires.4.flips_few in
    record { kept = row_kept _ _ _ _ _ is _ few _ _ _ _ _ _ _ held taken; at_hand = k.ensures.at_hand; tidy = row_tidy _ _ _ _ _ is _ few _ _ _ _ _ _ _ held taken }
