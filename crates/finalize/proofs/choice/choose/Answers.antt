-- `finalize::choice::choose` meets its contract. The arrays are cut to a direction and to n + 1 signs. Assumes nothing.
use mathlib.Core.Path.{sym, ◌∙◌}
use native.Mathlib.Numerals.{add-one}
use native.Mathlib.Omega.{arith}
use lib.Seq.{length-take-le}
use Rattle.tables.proofs.Checks.{table_accepted}
use Rattle.finalize.proofs.choice.choose.Goals as goal

pub slice_bounds-search_from-end-2 : goal.slice_bounds-search_from-end-2
slice_bounds-search_from-end-2 c = sym (length-take-le _ _ (omega (arith, c.signs-signs.ensures.most_signs_value, (table_accepted c.args.finish.judged).signs)))

pub slice_bounds-search_from-end-3 : goal.slice_bounds-search_from-end-3
slice_bounds-search_from-end-3 c = sym (length-take-le _ _ (omega (arith, c.signs-best.ensures.most_signs_value, (table_accepted c.args.finish.judged).signs)))

pub search_from-requires : goal.search_from-requires
search_from-requires c = let few = (table_accepted c.args.finish.judged).signs in (
  c.requires.0,
  c.requires.1,
  length-take-le _ _ (omega (arith, c.direction-direction.ensures.most_rank_value, c.args.finish.rank_few)),
  length-take-le _ _ (omega (arith, c.signs-signs.ensures.most_signs_value, few)) ∙ add-one _,
  length-take-le _ _ (omega (arith, c.signs-best.ensures.most_signs_value, few)) ∙ add-one _,
)
