use mathlib.Core.Path.{◌≡◌, ◌∙◌}
use mir.Syntax.{w64}
use mir.Val.{to_z, of_z}
use Rattle.laws.proofs.Integer.{held}
use Rattle.local_search.specs.Children.{parent_of}
use Rattle.tables.specs.Entries.{listed}
use Rattle.sign_search.specs.Within.{bounds}
use Rattle.sign_search.specs.Search.{objective_in}
use Rattle.sign_search.proofs.Searches.{found_within}
use Rattle.sign_search.proofs.search.search_within.Goals as goal

pub returns : goal.returns
unfolding objective_in
returns c =
    let started : let a = c.args in to_z w64 (of_z w64 c.obj_rounded-start.result) ≡ objective_in (listed a.table) a.kept.now =
    held _ c.obj_rounded-start.type_inv ∙ c.obj_rounded-start.ensures in
    let v = c.search_room in
    let a = c.args in
    found_within (listed a.table) (bounds a.leeway.flips a.leeway.most a.kept.now) a.width a.kept.now _ (parent_of v.result.least v.new.current) v.result.rounds c.requires.2 (started) v.ensures.answer_is v.ensures.rounds_are
