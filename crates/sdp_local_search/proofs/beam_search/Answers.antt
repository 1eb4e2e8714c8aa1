-- `beam_search` meets its contract: a refusal lends nothing on, and the search is lent what it writes and no more. Assumes nothing.
use mathlib.Core.Path.{◌≡◌, sym, ◌∙◌}
use native.Mathlib.Omega.{arith}
use Prim.Native.Nat.{◌-◌}
use lib.ListN.{length, take, drop}
use Rattle.limits.specs.Limits.{search_workspace}
use Rattle.tables.specs.Lent.{lent_table}
use Rattle.sign_search.specs.Search.{beam_search}
use Rattle.sign_search.specs.Clauses.{Found-by}
use Rattle.sign_search.proofs.ExpandLaws.{part_size}
use Rattle.sdp_local_search.specs.BeamSearch.{sign_bytes}
use Rattle.sdp_local_search.proofs.Numbers.{call_ready}
use Rattle.sdp_local_search.proofs.Calls.{answered, written, tail_kept}
use Rattle.sdp_local_search.proofs.beam_search.Goals as goal

pub search_from-found-requires : goal.search_from-found-requires
search_from-found-requires c = let a = c.args in
    let k = call_ready (sym c.in_ok-entries.ensures.number) in
    let m : length (take (a.table.size - 0) (drop 0 a.out.now)) ≡ a.table.size = part_size a.table.size a.out.now k.out_there in
    let n : length (take (search_workspace - 0) (drop 0 a.workspace.now)) ≡ search_workspace = part_size search_workspace a.workspace.now k.workspace_there in (rw (m, n) (record { signs_few = k.signs_few; width_few = omega arith; level_room = omega arith }), rw (m, c.in_ok-entries.ensures.entries) k.sound, rw m k.start_there)

pub returns : goal.returns
returns c = let a = c.args in
    let k = call_ready (sym c.in_ok-entries.ensures.number) in
    let v = c.search_from-found in
    let none = sym c.in_ok-entries.ensures.number in
    let t = lent_table a.table in
    let from = sign_bytes a.table.size a.start.now in
    let m : length (take (a.table.size - 0) (drop 0 a.out.now)) ≡ a.table.size = part_size a.table.size a.out.now k.out_there in
    let found : Found-by t a.width from v.result.least v.result.rounds v.new.kept = rw (m, c.in_ok-entries.ensures.entries) at v.ensures in
    record {
      numbered = sym none;
      refused = λ n. absurd (n none);
      answers = λ z. answered t a.width from v.result.least v.result.rounds v.new.kept found;
      writes = λ z. written a.table.size v.new.kept (beam_search t a.width from).answer a.out.now (v.auto.kept ∙ m) found.answer_is;
      kept = tail_kept search_workspace v.new.workspace a.workspace.now (v.auto.workspace ∙ part_size search_workspace a.workspace.now k.workspace_there);
    }
