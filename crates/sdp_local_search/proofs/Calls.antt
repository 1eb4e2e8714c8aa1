-- The parts of the call's contract. Assumes nothing.
use Prim.Native.Nat.{ℕ, ◌-◌}
use native.Mathlib.Omega.{arith}
use mathlib.Core.List.{List, ◌++◌}
use mathlib.Core.Path.{◌≡◌, ap, ap₂, ◌∙◌}
use lib.IntN.{ℤ}
use lib.ListN.{length, drop}
use lib.Seq.{drop_at}
use Rattle.laws.specs.Lists.{elem, over}
use Rattle.tables.specs.Table.{Table}
use Rattle.sign_words.specs.Signs.{sign_digit, Binary}
use Rattle.sign_words.proofs.PackedLaws.{sign_digit_lt, tabulate_binary}
use Rattle.sign_search.specs.Search.{objective_in, beam_search}
use Rattle.sign_search.specs.Clauses.{Found-by}
use Rattle.sdp_local_search.specs.BeamSearch.{sign_bytes}
use Rattle.sdp_local_search.specs.Call.{Answer}

-- what the search found, as it is answered
pub answered : (t : Table) (width : ℕ) (from : List ℕ) (least : ℤ) (rounds : ℕ) (kept : List ℕ) → Found-by t width from least rounds kept
    → Answer least rounds ≡ Answer (objective_in t (beam_search t width from).answer) (beam_search t width from).rounds
answered t width from least rounds kept p = ap₂ Answer (p.least_is ∙ ap (objective_in t) p.answer_is) p.rounds_are

-- the first m bytes of `out`, as they come back
pub written : (m : ℕ) (kept answer out : List ℕ) → length kept ≡ m → kept ≡ answer → kept ++ drop (m - 0) out ≡ over answer out
written m kept answer out long e = let n : m - 0 ≡ length kept = omega arith in rw n (ap (λ (l : List ℕ). over l out) e)

-- the first n words of the workspace, as they come back
pub tail_kept : (n : ℕ) (used workspace : List ℕ) → length used ≡ n → drop n (used ++ drop (n - 0) workspace) ≡ drop n workspace
tail_kept n used workspace e = let z : n - 0 ≡ n = omega arith in rw z (drop_at used (drop n workspace) n e)

-- ---- the signs that the search starts from are 0 and 1

pub bytes_binary : (m : ℕ) (start : List ℕ) → Binary (sign_bytes m start)
unfolding sign_bytes
bytes_binary m start = tabulate_binary (λ i. sign_digit (elem start i)) m (λ i. sign_digit_lt (elem start i))
