use Prim.Native.Nat.{ℕ, ◌<◌}
use native.Mathlib.Nat.{mul-le-mul_right}
use native.Mathlib.Omega.{arith}
use borrow.Author.Rules.{sfits_of}
use mathlib.Core.List.{[]}
use mathlib.Core.Path.{◌≡◌, ap, ◌∙◌}
use lib.IntN.{ℤ}
use lib.ListN.{length}
use mir.Syntax.{w64}
use mir.Val.{to_z, of_z}
use mir.Facts.{to_z-of_z}
use Rattle.laws.proofs.Integer.{held}
use Rattle.sign_words.specs.Packed.{unpacked}
use Rattle.local_search.specs.LocalSearch.{best}
use Rattle.local_search.specs.Level.{below, level_of, sign_level}
use Rattle.local_search.specs.Children.{parent_of}
use Rattle.local_search.proofs.Decoded.{length_sign_level, sign_level_empty, least_decoded, tidy_best}
use Rattle.local_search.proofs.LoopLaws.{start_safe, searching_first, searching_next, searching_safe, searching_more, searching_end}
use Rattle.tables.specs.Entries.{listed}
use Rattle.sign_search.specs.Within.{bounds}
use Rattle.sign_search.specs.Clauses.{searched_in}
use Rattle.sign_search.proofs.Searches.{table_searches}
use Rattle.sign_search.proofs.TurnLaws.{usable_of}
use Rattle.sign_search.proofs.search.search_levels.Goals as goal
use Rattle.sign_search.proofs.search.search_levels.Goals.{After-advance-count}

-- the level in hand isn't empty, so that a round is left
module _ (c : After-advance-count) where
  filled : let l = c.loop-count in 0 < length (sign_level (length c.args.kept.now) (length c.args.current.now) l.count l.objectives l.signs)
  filled = let l = c.loop-count in
      omega (arith, length_sign_level (length c.args.kept.now) (length c.args.current.now) l.count l.objectives l.signs l.invariant.0)

  left : let a = c.args in
      let b = bounds a.search.leeway.flips a.search.leeway.most a.current.now in
      c.loop-count.rounds < (searched_in (listed a.search.table) b a.search.width (parent_of a.search.objective a.current.now)).rounds
  left = searching_more _ _ _ _ _ _ _ c.loop-count.rounds filled c.loop-count.invariant.2

pub append_row-count-requires : goal.append_row-count-requires
append_row-count-requires c = let a = c.args in (
  rw (held a.search.objective (omega arith))
      (record {
        changes_room = c.requires.0.changes_room;
        objectives_room = c.requires.0.first_objectives;
        signs_room = c.requires.0.first_signs;
        signs_held = c.requires.0.signs_held;
        table = usable_of c.requires.1;
        safe = start_safe _ _ _ _ (table_searches _ (bounds a.search.leeway.flips a.search.leeway.most a.current.now) _ c.requires.1 c.requires.2);
      }),
  c.requires.3.signs,
  c.requires.4,
)

pub loop-count-init : goal.loop-count-init
loop-count-init c = let f = c.append_row-count in
    let a = c.args in
    let n = length a.kept.now in
    let same = held a.search.objective (omega arith) in
    let appended = rw same at f.ensures.appended in (
      omega arith,
      omega (arith, mul-le-mul_right n f.ensures.appended.room),
      rw (same, c.requires.3.signs) (searching_first _ _ _ _ _ _ appended.level c.requires.0.some (table_searches _ _ _ c.requires.1 c.requires.2)),
      record { changes_are = f.ensures.changes; row_is = ap (unpacked (length a.current.now)) c.requires.3.same ∙ c.requires.3.signs },
      f.ensures.tidy c.requires.3.tidy,
      c.requires.3.tidy,
    )

pub advance-count-requires : goal.advance-count-requires
advance-count-requires c = let l = c.loop-count in
    let a = c.args in (
      rw l.auto.current
          (record {
            expands = record {
              some = c.requires.0.some;
              from_objectives_room = l.invariant.0;
              from_signs_room = l.invariant.1;
              changes_room = omega arith;
              objectives_room = omega arith;
              signs_room = omega arith;
              signs_held = c.requires.0.signs_held;
              words_few = c.requires.0.words_few;
              table = c.requires.1;
              safe = searching_safe _ _ _ _ _ _ _ l.rounds l.invariant.2;
            };
            objectives_room = omega arith;
            signs_room = omega arith;
          }),
      l.auto.current_row ∙ ap length c.requires.3.same,
      l.invariant.3,
      record { flips_few = omega arith; as_long = ap length c.requires.5; start_tidy = rw (l.auto.current, c.requires.5) c.requires.3.tidy },
      rw l.auto.current l.invariant.4,
    )

pub overflow_add-rounds : goal.overflow_add-rounds
overflow_add-rounds c = let more = left (goal.at.overflow_add-rounds c).After-advance-count in omega arith

pub loop-count-smaller : goal.loop-count-smaller
loop-count-smaller c = let more = left (goal.at.loop-count-smaller c).After-advance-count in omega arith

pub loop-count-preserved : goal.loop-count-preserved
loop-count-preserved c =
    let more = filled (goal.at.loop-count-preserved c).After-advance-count in
    let v = c.advance-count in
    let k = c.keep_least-least in
    let l = c.loop-count in
    let a = c.args in
    let m = length a.current.now in
    let n = length a.kept.now in
    let next = rw (l.auto.current, c.requires.5, c.requires.3.signs) at v.ensures.next_level in
    let among = ap (λ (i : ℕ). best below (parent_of (to_z w64 l.least-bits) l.kept) (level_of i l.count l.objectives l.signs)) l.auto.kept in (
      omega arith,
      omega (arith, mul-le-mul_right n next.room),
      searching_next _ _ _ _ _
          (sign_level n m l.count l.objectives l.signs) _ (parent_of (to_z w64 l.least-bits) (unpacked m l.kept)) _ l.rounds more next.level
          (least_decoded n m l.count l.objectives l.signs (parent_of (to_z w64 l.least-bits) l.kept) (parent_of (to_z w64 (of_z w64 k.result)) k.new.kept)
          (ap (λ (z : ℤ). parent_of z k.new.kept) (to_z-of_z {w = w64} (sfits_of k.type_inv)) ∙ k.ensures ∙ among))
          l.invariant.2,
      v.ensures.at_hand,
      (rw l.auto.current at v.ensures.tidy) l.invariant.4,
      tidy_best n m l.count l.objectives l.signs (parent_of (to_z w64 l.least-bits) l.kept) (parent_of k.result k.new.kept) (k.ensures ∙ among) l.invariant.5 l.invariant.4,
    )

pub returns : goal.returns
returns c = let l = c.loop-count in
    let a = c.args in
    let m = length a.current.now in
    let n = length a.kept.now in
    let none : l.count ≡ 0 = omega arith in
    let empty : sign_level n m l.count l.objectives l.signs ≡ [] = ap (λ (i : ℕ). sign_level n m i l.objectives l.signs) none ∙ sign_level_empty n m l.objectives l.signs in
    let done = searching_end _ _ _ _ _ _ (parent_of (to_z w64 l.least-bits) (unpacked m l.kept)) l.rounds empty l.invariant.2 in
    record { kept_after = record { answer_is = done.0; rounds_are = done.1 }; tidy = l.invariant.5 }
