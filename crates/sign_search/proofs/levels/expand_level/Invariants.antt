use mathlib.Core.List.{[]}
use lib.ListN.{length}
use Rattle.sign_words.specs.Packed.{unpacked}
use Rattle.local_search.specs.LocalSearch.{children_of}
use Rattle.local_search.specs.Level.{level_of, decoded, sign_level, TidyLevel}
use Rattle.local_search.specs.Children.{Kept}
use Rattle.tables.specs.Entries.{listed}
use Rattle.sign_search.specs.Within.{bounds}
use Rattle.sign_search.specs.Clauses.{table_children, AtHand}
use Rattle.sign_search.proofs.levels.expand_level.Given as goal

abbrev pub invariant-loop-k : goal.invariant-loop-k
invariant-loop-k l = Kept l.width [] (children_of (λ x. table_children (listed l.table) (bounds l.reach.leeway.flips l.reach.leeway.most (unpacked (length l.initial.current) l.reach.origin.now)) (length l.initial.current) (decoded (length l.initial.current) x)) (level_of l.words l.k l.from_objectives l.from_signs)) (sign_level l.words (length l.initial.current) l.kept l.objectives l.signs) l.kept
    × AtHand (listed l.table) l.current l.current_row l.changes
    × (TidyLevel l.words (length l.initial.current) l.from_count l.from_objectives l.from_signs → TidyLevel l.words (length l.initial.current) l.kept l.objectives l.signs)
