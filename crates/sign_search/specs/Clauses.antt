-- What the functions of the search on a table ask and leave.
use Rattle.std.specs.Prelude.{ℕ, suc, ◌*◌, ◌≤◌, ◌<◌, Bool, cond, List, ◌≡◌, eqb, ℤ, pos, nat_abs, ◌+ℤ◌, ◌*ℤ◌, length, get_or, set}
use Rattle.laws.specs.Lists.{fill}
use Rattle.laws.specs.Sum.{sum, total, only}
use Rattle.limits.specs.Limits.{most_sign_magnitude, most_signs, most_words}
use Rattle.tables.specs.Table.{Table, InRange, magnitude_of, sign_at}
use Rattle.tables.specs.Flip.{flip_term}
use Rattle.sign_words.specs.Packed.{unpacked, Tidy}
use Rattle.local_search.specs.LocalSearch.{All, Found, next_level}
use Rattle.local_search.specs.Level.{Choice, below, sign_level}
use Rattle.local_search.specs.Children.{parent_of}
use Rattle.local_search.specs.SignSearch.{keeping, children_c, Safe, searched_from}
use Rattle.sign_search.specs.Within.{Bounds, within}
use Rattle.sign_search.specs.Search.{objective_in, change_in, height_in, Mirrors, beam_search, limited_search}

-- a table of m signs whose sums an i64 holds
pub record SumsFit (m : ℕ) (t : Table) : Type 0 where
  pub in_range : InRange m t
  pub small : magnitude_of t ≤ most_sign_magnitude

-- rows never fall from an entry to a later one
pub record Climbs (count : ℕ) (row : ℕ → ℕ) : Type 0 where
  pub climb : (k l : ℕ) → k ≤ l → l < count → row k ≤ row l

-- and one that equals its mirror image, its rows in order
pub record Sound (m : ℕ) (t : Table) : Type 0 where
  pub mirrors : Mirrors m t
  pub climbs : Climbs t.count t.row
  pub small : magnitude_of t ≤ most_sign_magnitude

-- the first m are 0
pub record Cleared (m : ℕ) (changes : List ℤ) : Type 0 where
  pub zero_at : (i : ℕ) → i < m → get_or changes i (pos 0) ≡ pos 0

-- the sum of a row, laid down where another row begins
pub record RowTurned (row i : ℕ) (held next : ℤ) (before after : List ℤ) : Type 0 where
  pub next_is : next ≡ cond (eqb i row) held (pos 0)
  pub after_is : after ≡ cond (eqb i row) before (set before row (get_or before row (pos 0) +ℤ held))

-- the changes by flipping each sign of x, summed over the first k entries; what is `held` is still to be added to that of `row`
pub record Summed (t : Table) (x : List ℕ) (k row : ℕ) (held : ℤ) (changes : List ℤ) : Type 0 where
  pub many : length x ≤ length changes
  pub row_in : row < length x
  pub small : nat_abs held ≤ 4 * total k (λ l. nat_abs (t.value l))
  pub sums : (i : ℕ) → i < length x → get_or changes i (pos 0) +ℤ only row i held ≡ sum k (flip_term t (sign_at x) i)

-- the changes, one for each sign
pub record Changes (t : Table) (x : List ℕ) (changes : List ℤ) : Type 0 where
  pub many : length x ≤ length changes
  pub are : (i : ℕ) → i < length x → get_or changes i (pos 0) ≡ change_in t x i

-- the same laid down from the front of a list, whose tail stays
unfoldable pub changes_over : Table → List ℕ → List ℤ → List ℤ
changes_over t x changes = fill (change_in t x) (length x) changes

-- ---- the changes after a flip

-- the first entry of row i or of a later row
pub record RowStart (count : ℕ) (row : ℕ → ℕ) (i r : ℕ) : Type 0 where
  pub inside : r ≤ count
  pub behind : (k : ℕ) → k < r → row k < i
  pub ahead : (k : ℕ) → r ≤ k → k < count → i ≤ row k

-- where sign i flips, Q_ij times this is added to change j
abbrev pub turn_weight : List ℕ → ℕ → ℕ → ℤ
turn_weight x i j = pos 8 *ℤ (sign_at x i *ℤ sign_at x j)

-- what entry k adds to it
abbrev pub turn_term : Table → List ℕ → ℕ → ℕ → ℕ → ℤ
turn_term t x i j k = turn_weight x i j *ℤ only (t.row k) i (only (t.column k) j (t.value k))

-- what the first k entries have added
pub record Turned (t : Table) (x : List ℕ) (i k : ℕ) (before after : List ℤ) : Type 0 where
  pub many : length after ≡ length before
  pub sums : (j : ℕ) → j < length x → get_or after j (pos 0) ≡ get_or before j (pos 0) +ℤ sum k (turn_term t x i j)

-- the choice at hand: in bytes and in words, with the changes by flipping each of its signs
pub record AtHand (t : Table) (x row : List ℕ) (changes : List ℤ) : Type 0 where
  pub changes_are : Changes t x changes
  pub row_is : unpacked (length x) row ≡ x

-- the start in words, twice: its unused bits are 0
pub record StartRow (x kept row : List ℕ) : Type 0 where
  pub signs : unpacked (length x) kept ≡ x
  pub tidy : Tidy (length x) kept
  pub same : row ≡ kept

-- what it takes to go from a choice of m signs in n words to one in `target` words
pub record MoveFits (m n target : ℕ) : Type 0 where
  pub signs_held : m ≤ 64 * n
  pub words_few : n < 65536
  pub as_long : n ≡ target

-- what it takes to add row i's entries, from `from` up to `to`, to the changes
pub record Turns (t : Table) (x : List ℕ) (i from to : ℕ) (changes : List ℤ) : Type 0 where
  pub usable : SumsFit (length x) t
  pub sign : i < length x
  pub starts : RowStart t.count t.row i from
  pub ends : RowStart t.count t.row (suc i) to
  pub changes_are : Changes t x changes

-- child i of a choice, where its change is below 0 and it lies within the bounds
abbrev pub exists_in : Table → Bounds → Choice → ℕ → Bool
exists_in t b c i = keeping (change_in t) (within b) c.signs i

-- the children on a table of m signs
abbrev pub table_children : Table → Bounds → ℕ → Choice → List Choice
table_children t b m = children_c (change_in t) (exists_in t b) m

-- the bounds fit choices of m signs in n words; the start is one of these
pub record BoundsFit (flips : ℕ) (origin : List ℕ) (n m : ℕ) : Type 0 where
  pub flips_few : flips ≤ m
  pub as_long : length origin ≡ n
  pub start_tidy : Tidy m origin

-- a choice in bytes and in words, and the start in as many words; unused bits of both are 0
pub record BothPacked (x row origin : List ℕ) : Type 0 where
  pub row_is : unpacked (length x) row ≡ x
  pub as_many : length row ≡ length origin
  pub signs_held : length x ≤ 64 * length row
  pub words_few : length row < 65536
  pub row_tidy : Tidy (length x) row
  pub start_tidy : Tidy (length x) origin

abbrev pub TableSafe : Table → Choice → Type 0
TableSafe t c = Safe (change_in t) c

-- what it takes to put a parent's children into a level with room for `width` rows of n words, of which `count` are in use
pub record RowExpands (t : Table) (n : ℕ) (parent : Choice) (count width changes objectives signs : ℕ) : Type 0 where
  pub some : 1 ≤ width
  pub used : count ≤ width
  pub changes_room : length parent.signs ≤ changes
  pub objectives_room : width ≤ objectives
  pub signs_room : width * n ≤ signs
  pub signs_held : length parent.signs ≤ 64 * n
  pub words_few : n < 65536
  pub table : Sound (length parent.signs) t
  pub safe : TableSafe t parent

-- what it takes to lay down all children of the start
pub record RowAppends (t : Table) (n : ℕ) (start : Choice) (changes objectives signs : ℕ) : Type 0 where
  pub changes_room : length start.signs ≤ changes
  pub objectives_room : length start.signs ≤ objectives
  pub signs_room : length start.signs * n ≤ signs
  pub signs_held : length start.signs ≤ 64 * n
  pub table : SumsFit (length start.signs) t
  pub safe : TableSafe t start

-- what it takes to make a level from another one of `count` choices
pub record LevelExpands (t : Table) (n m count width : ℕ) (from-objectives : List ℤ) (from-signs : List ℕ) (changes objectives signs : ℕ) : Type 0 where
  pub some : 1 ≤ width
  pub from_objectives_room : count ≤ length from-objectives
  pub from_signs_room : count * n ≤ length from-signs
  pub changes_room : m ≤ changes
  pub objectives_room : width ≤ objectives
  pub signs_room : width * n ≤ signs
  pub signs_held : m ≤ 64 * n
  pub words_few : n < 65536
  pub table : Sound m t
  pub safe : All (TableSafe t) (sign_level n m count from-objectives from-signs)

-- the next level, and its count
pub record NextLevel (t : Table) (b : Bounds) (m width : ℕ) (before after : List Choice) (count : ℕ) : Type 0 where
  pub level : after ≡ next_level below (table_children t b m) width before
  pub room : count ≤ width

-- what it takes to make the next level and to copy it back
pub record AdvanceFits (t : Table) (n m count width : ℕ) (objectives : List ℤ) (signs : List ℕ) (changes next-objectives next-signs : ℕ) : Type 0 where
  pub expands : LevelExpands t n m count width objectives signs changes next-objectives next-signs
  pub objectives_room : width ≤ length objectives
  pub signs_room : width * n ≤ length signs

-- the room that a search of m signs in n words takes: level 1 is not cut
pub record SearchFits (n m width changes objectives signs next-objectives next-signs : ℕ) : Type 0 where
  pub some : 1 ≤ width
  pub changes_room : m ≤ changes
  pub first_objectives : m ≤ objectives
  pub first_signs : m * n ≤ signs
  pub signs_held : m ≤ 64 * n
  pub words_few : n < 65536
  pub objectives_room : width ≤ objectives
  pub signs_room : width * n ≤ signs
  pub next_objectives_room : width ≤ next-objectives
  pub next_signs_room : width * n ≤ next-signs

-- the search within the bounds, from a choice with its objective
abbrev pub searched_in : Table → Bounds → ℕ → Choice → Found Choice
searched_in t b width start = searched_from (change_in t) (exists_in t b) width (height_in t start.signs) start

-- the room that the search takes, of `most` signs in n words: level 1 holds m choices, and every later one `width`
pub record LevelRoom (most n m width level : ℕ) : Type 0 where
  pub signs_few : m ≤ most
  pub width_few : width ≤ most
  pub level_room : most * n ≤ level

-- what it takes to search on a table from the signs x, of this objective, at least one choice wide, in the room of `level` words
pub record Searchable (t : Table) (width : ℕ) (objective : ℤ) (flips : ℕ) (x : List ℕ) (level : ℕ) : Type 0 where
  pub room : LevelRoom most_signs most_words (length x) width level
  pub some : 1 ≤ width
  pub sound : Sound (length x) t
  pub start_is : objective ≡ objective_in t x
  pub flips_few : flips ≤ length x

-- what a search leaves: its answer's objective and signs, and the rounds
pub record SearchLeaves (found : Found Choice) (least : ℤ) (rounds : ℕ) (signs : List ℕ) : Type 0 where
  pub answer_is : parent_of least signs ≡ found.answer
  pub rounds_are : rounds ≡ found.rounds

-- what the search leaves: the definition's answer with its objective, and the rounds
pub record Found-by (t : Table) (width : ℕ) (start : List ℕ) (least : ℤ) (rounds : ℕ) (answer : List ℕ) : Type 0 where
  pub answer_is : answer ≡ (beam_search t width start).answer
  pub least_is : least ≡ objective_in t answer
  pub rounds_are : rounds ≡ (beam_search t width start).rounds

-- the same of the search within the bounds
pub record Found-within (t : Table) (b : Bounds) (width : ℕ) (start : List ℕ) (least : ℤ) (rounds : ℕ) (answer : List ℕ) : Type 0 where
  pub answer_is : answer ≡ (limited_search t (within b) width start).answer
  pub least_is : least ≡ objective_in t answer
  pub rounds_are : rounds ≡ (limited_search t (within b) width start).rounds
