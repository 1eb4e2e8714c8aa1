use Rattle.std.proofs.Common.{◌∙◌, rules, ◌^◌, length, ℕ, ◌≤◌, ◌*◌, ◌≡◌}
use Rattle.std.proofs.lemmas.Iterator.Consumers.{fits_from_yields_list, sum_from_yields_List}
use Rattle.std.specs.Int.Bits.{bit_xor}
use Rattle.std.specs.Int.Count.{ones}
use native.Mathlib.Omega.{arith}
use Rattle.laws.specs.Lists.{elem}
use Rattle.laws.proofs.Ranged.{ranged_map}
use Rattle.sign_words.specs.Distance.{ones_apart}
use Rattle.sign_words.proofs.DistanceLaws.{sum_total, few_apart}
use Rattle.sign_words.proofs.distance.distance.Goals as goal

pub sum-requires-clause-fits : goal.sum-requires-clause-fits
unfolding ones_apart
sum-requires-clause-fits c = let a = c.args.a.now in let b = c.args.b.now in let n = length a in
    let term : ℕ → ℕ = λ k. ones (bit_xor (elem a k) (elem b k)) in
    fits_from_yields_list _ (2 ^ 64) (ranged_map n term c.map.ensures.source c.map.ensures.closure (λ x r q k. search rules)) (omega (arith, sum_total n term, few_apart n a b (λ k. search rules) (λ k. search rules)))

pub returns : goal.returns
unfolding ones_apart
returns c = let a = c.args.a.now in let b = c.args.b.now in let n = length a in
    let term : ℕ → ℕ = λ k. ones (bit_xor (elem a k) (elem b k)) in
    let few : ones_apart n a b ≤ 64 * n = few_apart n a b (λ k. search rules) (λ k. search rules) in
    let is : c.sum.result ≡ ones_apart n a b = sum_from_yields_List _ _ c.sum.ensures.ran (ranged_map n term c.map.ensures.source c.map.ensures.closure (λ x r q k. search rules)) ∙ sum_total n term in
    record { value = is; few = omega arith }
