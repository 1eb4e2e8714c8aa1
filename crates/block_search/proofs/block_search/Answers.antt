-- `block_search::block_search` meets its contract. Assumes nothing.
use mathlib.Core.Path.{◌≡◌, sym, ◌∙◌}
use native.Mathlib.Omega.{arith}
use Prim.Native.Nat.{◌-◌}
use lib.ListN.{length, take, drop}
use Rattle.limits.specs.Limits.{search_workspace}
use Rattle.sign_search.proofs.ExpandLaws.{part_size}
use Rattle.block_search.specs.Blocks.{last_choice}
use Rattle.block_search.specs.Call.{call_of}
use Rattle.tables.specs.Lent.{costs_of}
use Rattle.tables.proofs.Checks.{hall_passes}
use Rattle.block_search.proofs.Numbers.{Ready, ready}
use Rattle.block_search.proofs.Turns.{clearing}
use Rattle.sdp_local_search.proofs.Calls.{written, tail_kept}
use Rattle.block_search.proofs.block_search.Goals as goal
use Rattle.block_search.proofs.block_search.Goals.{In_ok-block_number}

-- what a call is that no number refuses
module _ (c : In_ok-block_number) where
  call : let a = c.args in
      let q = a.request in
      Ready (costs_of a.hall) q.pins.wagons.now q.pins.stores.now q.present.now q.blocks.sizes.now q.blocks.wagons.now q.width (length a.choice.now) (length a.falls.now) (length a.workspace.now)
  call = let a = c.args in
      let q = a.request in
      ready (costs_of a.hall) q.pins.wagons.now q.pins.stores.now q.present.now q.blocks.sizes.now q.blocks.wagons.now q.width (length a.choice.now) (length a.falls.now) (length a.workspace.now)
      (sym c.in_ok-block_number.ensures)

pub slice_bounds-clear_house-end : goal.slice_bounds-clear_house-end
slice_bounds-clear_house-end c = (call (goal.at.slice_bounds-clear_house-end c).In_ok-block_number).choice_there

pub slice_bounds-clear_house-end-2 : goal.slice_bounds-clear_house-end-2
slice_bounds-clear_house-end-2 c = (call (goal.at.slice_bounds-clear_house-end-2 c).In_ok-block_number).space_there

pub invariant_of-table : goal.invariant_of-table
invariant_of-table c = record { lent = (call (goal.at.invariant_of-table c).In_ok-block_number).lent }

pub invariant_of-judged : goal.invariant_of-judged
invariant_of-judged c =
    let r = call (goal.at.invariant_of-judged c).In_ok-block_number in
    record { costs_there = r.costs_there; judged = hall_passes r.hall }

pub clear_house-requires : goal.clear_house-requires
clear_house-requires c =
    let a = c.args in
    let r = call (goal.at.clear_house-requires c).In_ok-block_number in
    let s : length (take (search_workspace - 0) (drop 0 a.workspace.now)) ≡ search_workspace = part_size search_workspace a.workspace.now r.space_there in
    r.fits _ _ (part_size a.hall.table.size a.choice.now r.choice_there) (omega (arith, s))

pub returns : goal.returns
returns c =
    let a = c.args in
    let n = a.hall.table.size in
    let r = call (goal.at.returns c).In_ok-block_number in
    let q = call_of n a.hall.table.count a.hall.table.rows.now a.hall.table.cols.now a.hall.table.values.now a.hall.c.now a.request.pins.wagons.now a.request.pins.stores.now a.request.present.now a.request.blocks.sizes.now a.request.blocks.wagons.now a.request.width in
    let none = sym c.in_ok-block_number.ensures in record {
      numbered = sym none;
      refused = λ e. absurd (e none);
      choice_is = λ z. written n c.clear_house.new.b (last_choice q) a.choice.now (c.clear_house.auto.b ∙ part_size n a.choice.now r.choice_there) c.clear_house.ensures.0;
      falls_are = λ z. c.clear_house.ensures.1;
      kept = tail_kept search_workspace c.clear_house.new.workspace a.workspace.now (c.clear_house.auto.workspace ∙ part_size search_workspace a.workspace.now r.space_there);
      cleared = λ z. clearing q r.hall r.width_some r.pins r.pins_once;
    }
