use native.Mathlib.Omega.{arith}
use mathlib.Core.Path.{◌≡◌, refl, ◌∙◌}
use lib.ListN.{length}
use Rattle.laws.specs.Lists.{elem}
use Rattle.laws.proofs.Made.{tabulate_next, tabulate_all}
use Rattle.sign_words.specs.Signs.{sign_digit}
use Rattle.sdp_local_search.specs.BeamSearch.{sign_bytes}
use Rattle.sdp_local_search.proofs.signs.read_signs.Goals as goal

pub loop-i-preserved : goal.loop-i-preserved
loop-i-preserved c = let a = c.args in
    let l = c.loop-i in
    rw c.sign_digit.ensures (tabulate_next (λ j. sign_digit (elem a.start.now j)) l.i a.kept.now l.kept 0 (omega arith) l.invariant)

pub returns : goal.returns
unfolding sign_bytes
returns c = let a = c.args in
    let l = c.loop-i in
    let all : l.i ≡ length a.kept.now = omega arith in
    rw all at l.invariant ∙ tabulate_all (λ j. sign_digit (elem a.start.now j)) (length a.kept.now) a.kept.now refl
