-- `several_runs::member::turn_one` meets its contract. Assumes nothing.
use Prim.Native.Nat.{◌+◌}
use mathlib.Core.Path.{sym, ◌∙◌}
use native.Mathlib.Nat.{add-sub_cancel_left}
use native.Mathlib.Omega.{arith}
use Rattle.run_contract.specs.Calls.{used}
use Rattle.run_contract.proofs.Accepting.{member_accepted}
use Rattle.laws.proofs.Parts.{length_part}
use Rattle.several_runs.proofs.Cut.{turned_none}
use Rattle.several_runs.proofs.member.turn_one.Goals as goal

pub returns-then-is_stopped : goal.returns-then-is_stopped
returns-then-is_stopped c = let a = c.args in
    turned_none a.k _ a.run a.start a.factors.now (sym c.is_stopped.ensures ∙ c.if-is_stopped.true)

pub sweep_accepted-requires : goal.sweep_accepted-requires
sweep_accepted-requires c =
    let a = c.args in
    let s = member_accepted _ _ _ c.requires.accepted in (
      record { slices = s.slices; costs = s.costs; hall = s.hall },
      s.running,
      s.size_is,
      s.rank_few,
      length_part a.start (a.start + used a.run) a.factors.now (omega (arith, s.factor_room, c.requires.start_in_bounds)) ∙ add-sub_cancel_left a.start (used a.run),
    )
