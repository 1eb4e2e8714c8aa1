use Prim.Native.Nat.{◌*◌, ◌-◌, ◌≤◌}
use lib.ListN.{length}
use Rattle.sign_words.specs.Packed.{unpacked, Tidy}
use Rattle.local_search.specs.Level.{sign_level, TidyLevel}
use Rattle.local_search.specs.Children.{parent_of}
use Rattle.local_search.proofs.LoopLaws.{Searching}
use Rattle.tables.specs.Entries.{listed}
use Rattle.sign_search.specs.Search.{change_in, height_in}
use Rattle.sign_search.specs.Within.{bounds}
use Rattle.sign_search.specs.Clauses.{exists_in, searched_in, AtHand}
use Rattle.sign_search.proofs.search.search_levels.Given as goal

abbrev pub invariant-loop-count : goal.invariant-loop-count
invariant-loop-count l = (l.count ≤ length l.objectives) × (l.count * l.words ≤ length l.signs)
    × Searching (change_in (listed l.search.table)) (exists_in (listed l.search.table) (bounds l.search.leeway.flips l.search.leeway.most l.initial.current)) l.search.width (height_in (listed l.search.table) l.initial.current) (parent_of (l.search.objective) l.initial.current) (sign_level l.words (length l.initial.current) l.count l.objectives l.signs) (parent_of (l.least) (unpacked (length l.initial.current) l.kept)) l.rounds
    × AtHand (listed l.search.table) l.current l.current_row l.changes
    × TidyLevel l.words (length l.initial.current) l.count l.objectives l.signs × Tidy (length l.initial.current) l.kept

abbrev pub decreases-loop-count : goal.decreases-loop-count
decreases-loop-count l = (searched_in (listed l.search.table) (bounds l.search.leeway.flips l.search.leeway.most l.initial.current) l.search.width (parent_of (l.search.objective) l.initial.current)).rounds - l.rounds
