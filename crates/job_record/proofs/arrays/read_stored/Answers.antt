use mathlib.Core.Path.{◌≡◌, ap, ◌∙◌}
use mathlib.Core.List.{◌++◌}
use native.Mathlib.Omega.{arith}
use lib.ListN.{drop}
use Rattle.std.proofs.lemmas.List.{length-take-le}
use Rattle.laws.proofs.MapFirst.{fill_more}
use Rattle.reduced.proofs.Put.{front_map_first}
use Rattle.job_record.proofs.arrays.read_stored.Goals as goal

pub loop-i-preserved : goal.loop-i-preserved
loop-i-preserved g c = fill_more _ _ _ c.loop-i.invariant c.stored_at.ensures

pub returns : goal.returns
returns g c = let out = c.args.out.now in
    let long = length-take-le c.args.count out c.requires.1 in
    let whole : c.loop-i.i ≡ c.args.count = omega arith in
    ap (λ l. l ++ drop c.args.count out) (rw whole at c.loop-i.invariant) ∙ front_map_first _ c.args.count out
