use mir.Syntax.{w64}
use native.Mathlib.Omega.{arith}
use borrow.Author.Rules.{sfits_of}
use mathlib.Core.List.{[]}
use mathlib.Core.Path.{sym, ◌∙◌}
use lib.ListN.{length}
use mir.Facts.{to_z-of_z}
use Rattle.local_search.proofs.ExpandLaws.{parents_none, parents_one_more, part_long, parent_is, part_room}
use Rattle.local_search.proofs.Decoded.{sign_level_empty, sign_rising, tidy_none, tidy_part}
use Rattle.tables.specs.Entries.{listed}
use Rattle.sign_search.proofs.ExpandLaws.{parent_expands, parent_kept, part_tidy, next_level_lem}
use Rattle.sign_search.proofs.levels.expand_level.Goals as goal

pub loop-k-init : goal.loop-k-init
loop-k-init c = let a = c.args in (
  parents_none _ _ _ _ _ _ (sign_level_empty _ _ _ _),
  c.requires.2,
  λ t. tidy_none a.words (length a.current.now) a.objectives.now a.signs.now,
)

pub expand_row-kept-requires : goal.expand_row-kept-requires
expand_row-kept-requires c = let a = c.args in
    let l = c.loop-k in
    let m = length a.current.now in
    let room = part_room {k = l.k} a.words (omega arith) c.requires.0.from_signs_room in (
      rw l.auto.current
          (parent_expands (listed a.table) a.words m a.from_objectives.now a.from_signs.now l.k room
          _ a.from_count a.width l.kept (length l.changes) (length l.objectives) (length l.signs) (to_z-of_z {w = w64} (sfits_of c.objective-1.given)) (omega arith) l.invariant.0.room
          (rw (l.auto.changes, l.auto.objectives, l.auto.signs) c.requires.0)),
      l.auto.current_row ∙ c.requires.1 ∙ sym (part_long a.words a.from_objectives.now a.from_signs.now l.k room),
      l.invariant.1,
      sign_rising a.width a.words m l.kept l.objectives l.signs [] _ l.kept
          (omega arith) tt l.invariant.0,
      rw (l.auto.current, part_long a.words a.from_objectives.now a.from_signs.now l.k room) c.requires.3,
      rw l.auto.current (tidy_part a.words m l.k a.from_count a.from_objectives.now a.from_signs.now room (omega arith) c.requires.0.from_objectives_room c.requires.4),
    )

pub loop-k-preserved : goal.loop-k-preserved
loop-k-preserved c = let a = c.args in
    let l = c.loop-k in
    let v = c.expand_row-kept in
    let t = listed a.table in
    let m = length a.current.now in
    let room = part_room a.words c.loop-k-test.true c.requires.0.from_signs_room in
    let long = part_long a.words a.from_objectives.now a.from_signs.now l.k room in (
      parents_one_more _ _ _ _ _ l.k _ _ l.kept v.result
          (omega arith) l.invariant.0
          (parent_kept _ _ _ _ _ _ _ _ _ _ _ _ _ _ long
          (parent_is a.words a.from_objectives.now a.from_signs.now l.k room _ (to_z-of_z {w = w64} (sfits_of c.objective-1.given)))
          (rw l.auto.current at v.ensures.kept)),
      v.ensures.at_hand,
      λ t. part_tidy m a.words _ _ l.kept v.result l.objectives _ l.signs _ long (rw l.auto.current at v.ensures.tidy)
          (tidy_part a.words m l.k a.from_count a.from_objectives.now a.from_signs.now room c.loop-k-test.true c.requires.0.from_objectives_room t) (l.invariant.2 t),
    )

pub returns : goal.returns
returns c = let l = c.loop-k in record {
  next_level = next_level_lem _ _ _ _ _ l.k _ _ _ _ _ (omega arith) l.invariant.0;
  at_hand = l.invariant.1;
  tidy = l.invariant.2;
}
