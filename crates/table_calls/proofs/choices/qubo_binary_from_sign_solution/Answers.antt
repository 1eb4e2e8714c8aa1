-- `table_calls::choices::qubo_binary_from_sign_solution` meets its contract.
use mathlib.Core.Path.{sym}
use native.Mathlib.Omega.{arith}
use Rattle.table_calls.proofs.Accepting.{decode_accepted}
use Rattle.table_calls.proofs.choices.qubo_binary_from_sign_solution.Goals as goal

pub overflow_sub-m : goal.overflow_sub-m
overflow_sub-m c = let a = c.args in omega (arith, decode_accepted a.m a.signs.now a.b.now (sym c.in_ok-decode_number.ensures))

pub qubo_binary_from_sign_solution-requires : goal.qubo_binary_from_sign_solution-requires
qubo_binary_from_sign_solution-requires c = let a = c.args in
    let (some, long, room) = decode_accepted a.m a.signs.now a.b.now (sym c.in_ok-decode_number.ensures) in (long, room)
