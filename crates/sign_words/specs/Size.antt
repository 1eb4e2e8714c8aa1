-- How many words a choice takes.
use Rattle.std.specs.Prelude.{ℕ, cond, leb}
use Rattle.limits.specs.Limits.{small_signs, small_words, most_words}

-- the words of a choice of m signs: a small house's take as many as before the larger ones, all others as many as any
unfoldable pub sign_words : ℕ → ℕ
sign_words m = cond (leb m small_signs) small_words most_words
