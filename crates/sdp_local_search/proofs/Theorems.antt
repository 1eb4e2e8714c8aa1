-- What an accepted call of `beam_search` with a width of 1 or more has found, from its contract alone. Assumes nothing.
use Prim.Native.Nat.{ℕ, ◌*◌, ◌≤◌, ◌<◌}
use mathlib.Core.List.{List}
use mathlib.Core.Path.{◌≡◌, sym, ap, ◌∙◌}
use lib.IntN.{ℤ, pos, ◌+ℤ◌}
use lib.Signed.{◌≤ℤ◌}
use lib.ListN.{length, take, drop}
use lib.Seq.{take_at}
use Rattle.laws.specs.Lists.{elem}
use Rattle.laws.proofs.Made.{length_tabulate}
use Rattle.sign_words.specs.Signs.{sign_digit, Binary}
use Rattle.sign_words.proofs.PackedLaws.{binary_flip}
use Rattle.tables.specs.Table.{Table, table_of}
use Rattle.local_search.specs.LocalSearch.{Found}
use Rattle.local_search.specs.Level.{flip_sign}
use Rattle.sign_search.specs.Search.{Mirrors, objective_in, beam_search}
use Rattle.sign_search.proofs.Theorems.{answer_long, answer_keeps, no_flip_lowers, rounds_fall}
use Rattle.sdp_local_search.specs.BeamSearch.{base_limits, sign_bytes}
use Rattle.std.specs.Prelude.{Result}
use Rattle.sign_search.specs.declared.search.Searched.{Searched}
use Rattle.sdp_local_search.specs.Call.{Answer, call_number, BeamSearches}
use Rattle.sdp_local_search.proofs.Numbers.{call_ready}
use Rattle.sdp_local_search.proofs.Calls.{bytes_binary}

start_long : (m : ℕ) (start : List ℕ) → length (sign_bytes m start) ≡ m
unfolding sign_bytes
start_long m start = length_tabulate (λ i. sign_digit (elem start i)) m

-- ---- the call

module _ {m count : ℕ} {rows cols : List ℕ} {values : List ℤ} {width : ℕ} {start out workspace out' workspace' : List ℕ} {r : Result Searched ℕ}
    (call : BeamSearches base_limits m count rows cols values width start out workspace out' workspace' r)
    (none : call_number base_limits m count rows cols values width start out workspace ≡ 0) (some : 1 ≤ width) where
  abbrev table : Table
  table = table_of count rows cols values

  mirrors : Mirrors m table
  mirrors = (call_ready none).sound.mirrors

  abbrev found : Found (List ℕ)
  found = beam_search table width (sign_bytes m start)

  -- the signs lent out
  lent_out : take m out' ≡ found.answer
  lent_out =
      ap (take m) (call.writes none)
      ∙ take_at found.answer (drop (length found.answer) out) m (answer_long mirrors (sign_bytes m start) (start_long m start) width some)

  -- their objective is the one answered, with the rounds
  pub call_answers : r ≡ Answer (objective_in table (take m out')) found.rounds
  call_answers = call.answers none ∙ ap (λ (x : List ℕ). Answer (objective_in table x) found.rounds) (sym lent_out)

  -- each is 0 or 1
  pub call_bits : Binary (take m out')
  call_bits = rw lent_out (answer_keeps mirrors (sign_bytes m start) (start_long m start) width some Binary (λ x i h. binary_flip i x) (bytes_binary m start))

  -- no single flip lowers it
  pub call_no_flip : (i : ℕ) → i < m → objective_in table (take m out') ≤ℤ objective_in table (flip_sign i (take m out'))
  call_no_flip i h = rw lent_out (no_flip_lowers mirrors (sign_bytes m start) (start_long m start) width some i h)

  -- each round has taken 4 eighths off at least
  pub call_rounds : (objective_in table (take m out') +ℤ pos (4 * found.rounds)) ≤ℤ objective_in table (sign_bytes m start)
  call_rounds = rw lent_out (rounds_fall mirrors (sign_bytes m start) (start_long m start) width some)
