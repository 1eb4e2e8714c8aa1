use Prim.Native.Nat.{ℕ, ◌≤◌}
use mathlib.Core.Bool.{cond}
use lib.Dec.{eqb}
use native.Mathlib.Omega.{arith}
use mathlib.Core.List.{List, []}
use mathlib.Core.Path.{◌≡◌, sym, subst}
use lib.ListN.{length}
use mir.Facts.{to_z-of_z}
use Rattle.std.proofs.lemmas.Bool.Decides.{nat_tests}
use Rattle.local_search.specs.Level.{sign_level}
use Rattle.local_search.specs.Children.{parent_of, Appended}
use Rattle.tables.specs.Entries.{listed}
use Rattle.sign_search.specs.Within.{bounds}
use Rattle.sign_search.specs.Clauses.{Changes, table_children}
use Rattle.sign_search.proofs.ChangeLaws.{changes_are}
use Rattle.sign_search.proofs.ExpandLaws.{row_appends, row_appended, row_first_tidy}
use Rattle.sign_search.proofs.levels.append_row.Goals as goal

first-few : (flips most first : ℕ) → first ≡ cond (eqb most 0) 0 flips → first ≤ flips
first-few flips most first e = grind (arith, nat_tests)

pub first_level-requires : goal.first_level-requires
first_level-requires c = let k = c.changes_of in
    let a = c.args in
    let is = changes_are _ a.start.now a.changes.now k.new.changes c.requires.0.changes_room k.ensures in
    rw (to_z-of_z c.ranges.objective)
    (row_appends (listed a.table) (length a.start.now) a.objective a.start_row.now k.new.changes (rw c.requires.1 is)
    (bounds a.leeway.flips a.leeway.most a.start.now) c.requires.2 c.first_flips-first.result (length a.objectives.now) (length a.signs.now)
    (first-few _ _ _ c.first_flips-first.ensures)
    (rw (c.requires.1, k.auto.changes) c.requires.0))

pub returns : goal.returns
returns c = let e = c.first_level in
    let k = c.changes_of in
    let a = c.args in
    let f = c.first_flips-first in
    let t = listed a.table in
    let changes = k.new.changes in
    let m = length a.start.now in
    let n = length a.start_row.now in
    let b = bounds a.leeway.flips a.leeway.most a.start.now in
    let is = changes_are t a.start.now a.changes.now changes c.requires.0.changes_room k.ensures in
    let at = subst (λ (x : List ℕ). Changes t x changes) (sym c.requires.1) is in
    let taken = rw (to_z-of_z c.ranges.objective) at e.ensures in record {
      appended = subst (λ (x : List ℕ). Appended [] (table_children t b m (parent_of a.objective x)) (sign_level n m e.result e.new.objectives e.new.signs) e.result m) c.requires.1
          (row_appended t m a.objective a.start_row.now changes at b c.requires.2 f.result
          e.result e.new.objectives e.new.signs (sym c.requires.1) f.ensures (first-few a.leeway.flips a.leeway.most f.result f.ensures) (omega arith) taken);
      changes = is;
      tidy = row_first_tidy t m a.objective a.start_row.now changes at b c.requires.2 f.result
          e.result e.new.objectives e.new.signs (sym c.requires.1) f.ensures (omega arith) taken;
    }
