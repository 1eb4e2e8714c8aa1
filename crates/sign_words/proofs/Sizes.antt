-- How many words a choice takes: two for a small house, four for a larger one; never more than any takes, and enough for its signs. Assumes nothing.
use Prim.Native.Nat.{ℕ, ◌*◌, ◌≤◌, ◌<◌}
use mathlib.Core.Path.{◌≡◌}
use native.Mathlib.Omega.{arith}
use native.Mathlib.Decide.{dec_le}
use borrow.Author.Tests.{le-leb, lt-leb}
use Rattle.limits.specs.Limits.{most_signs, most_words, small_signs, small_words}
use Rattle.sign_words.specs.Size.{sign_words}

pub words_small : (m : ℕ) → m ≤ small_signs → sign_words m ≡ small_words
unfolding sign_words
words_small m h = rw (le-leb m small_signs h)

pub words_large : (m : ℕ) → small_signs < m → sign_words m ≡ most_words
unfolding sign_words
words_large m h = rw (lt-leb m small_signs h)

module _ (m : ℕ) where
  pub few_words : sign_words m ≤ most_words
  few_words = go (dec_le m small_signs)
    where
      go : Dec (m ≤ small_signs) → sign_words m ≤ most_words
      go (yes h) = rw (words_small m h) (omega arith)
      go (no h) = rw (words_large m (omega arith)) (omega arith)

  pub enough_words : m ≤ most_signs → m ≤ 64 * sign_words m
  enough_words few = go (dec_le m small_signs)
    where
      go : Dec (m ≤ small_signs) → m ≤ 64 * sign_words m
      go (yes h) = rw (words_small m h) (omega arith)
      go (no h) = rw (words_large m (omega arith)) (omega arith)
