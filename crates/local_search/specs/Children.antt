-- What the level functions ask and leave. The children of a parent in words are those of its `changes`, one for each of its m signs.
use Rattle.std.specs.Prelude.{ℕ, ◌*◌, ◌≤◌, ◌<◌, cond, List, ◌++◌, ◌≡◌, ℤ, pos, ◌+ℤ◌, length, get_or}
use Rattle.std.specs.Int.{w64}
use Rattle.std.proofs.Common.{SFits}
use Rattle.local_search.specs.LocalSearch.{keep_best}
use Rattle.local_search.specs.Level.{Choice, below, word_child}
use Rattle.local_search.specs.SignSearch.{improving, improves_c}
use Rattle.local_search.specs.declared.children.Parent.{Parent}

-- the changes of one parent, read from a list
abbrev pub change_of : List ℤ → List ℕ → ℕ → ℤ
change_of changes x i = get_or changes i (pos 0)

abbrev pub parent_of : ℤ → List ℕ → Choice
parent_of objective signs = record { objective = objective; signs = signs }

-- the same of a parent as it is passed
abbrev pub parent_choice : Parent → Choice
parent_choice p = parent_of p.objective p.row.now

-- child i of a parent in words
unfoldable pub flip_w : List ℤ → ℕ → Choice → Choice
flip_w changes i c = word_child (c.objective +ℤ change_of changes c.signs i) i c.signs

-- the improving children of a parent with these changes, among those of its first m signs
abbrev pub listed_children : List ℤ → ℕ → Choice → List Choice
listed_children changes m parent = improving (improves_c (change_of changes)) (flip_w changes) m parent

-- the objectives by flipping each of its first m signs fit 64 bits
abbrev pub ListedSafe : List ℤ → ℕ → ℤ → Type 0
ListedSafe changes m objective = (i : ℕ) → i < m → SFits w64 (objective +ℤ get_or changes i (pos 0))

-- what it takes to put a parent's children into a level with room for `width`, of which `count` are in use
pub record Expands (changes : List ℤ) (m : ℕ) (parent : Choice) (count width objectives signs : ℕ) : Type 0 where
  pub some : 1 ≤ width
  pub used : count ≤ width
  pub objectives_room : width ≤ objectives
  pub signs_room : width * length parent.signs ≤ signs
  pub signs_held : m ≤ 64 * length parent.signs
  pub changes_many : m ≤ length changes
  pub safe : ListedSafe changes m parent.objective

-- the level after it has taken in the children, and its count
pub record Kept (width : ℕ) (before children after : List Choice) (count : ℕ) : Type 0 where
  pub level : after ≡ keep_best below width before children
  pub room : count ≤ width

-- what it takes to lay down all children of the start
pub record Appends (changes : List ℤ) (m : ℕ) (start : Choice) (objectives signs : ℕ) : Type 0 where
  pub objectives_room : m ≤ objectives
  pub signs_room : m * length start.signs ≤ signs
  pub signs_held : m ≤ 64 * length start.signs
  pub changes_many : m ≤ length changes
  pub safe : ListedSafe changes m start.objective

-- the level with the children behind it, and its count, at most `most`
pub record Appended (before children after : List Choice) (count most : ℕ) : Type 0 where
  pub level : after ≡ before ++ children
  pub room : count ≤ most

-- the better of two, the first of equals
abbrev pub better : Choice → Choice → Choice
better b x = cond (below x b) x b
