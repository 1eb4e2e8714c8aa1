use Prim.Native.Nat.{◌*◌, ◌≤◌}
use native.Mathlib.Nat.{mul-le-mul_right}
use native.Mathlib.Omega.{arith}
use mathlib.Core.Path.{◌∙◌}
use lib.ListN.{length}
use Rattle.local_search.proofs.Decoded.{sign_level_copied, tidy_copied}
use Rattle.sign_search.proofs.levels.advance.Goals as goal

pub returns : goal.returns
returns c =
    let a = c.args in
    let x = c.expand_level-kept in
    let m = length a.current.now in
    let few : x.result ≤ length x.new.objectives = omega arith in
    let held : x.result * a.words ≤ length x.new.signs = omega (arith, mul-le-mul_right a.words x.ensures.next_level.room) in
    record {
      next_level = record {
        level = sign_level_copied a.words m x.result x.new.objectives a.objectives.now _ x.new.signs _ _ few held c.copy_objectives.ensures c.copy.ensures
            ∙ x.ensures.next_level.level;
        room = x.ensures.next_level.room;
      };
      at_hand = x.ensures.at_hand;
      tidy = λ t. tidy_copied a.words m x.result x.new.objectives a.objectives.now _ x.new.signs _ _ few held c.copy_objectives.ensures c.copy.ensures (x.ensures.tidy t);
    }
