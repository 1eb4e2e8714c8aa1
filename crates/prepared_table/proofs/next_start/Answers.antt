-- `prepared_table::next_start` meets its contract: the entry found is the definition's. Assumes nothing.
use Rattle.std.proofs.Common.{rules, tests, ℕ, ◌<◌, ◌≤◌, length, get_or, take, drop, ◌-◌}
use Rattle.prepared_table.proofs.Starting.{start_found, start_behind}
use Rattle.prepared_table.proofs.next_start.Goals as goal

pub returns-in-Some : goal.returns-in-Some
returns-in-Some c =
    let xs = take (length c.args.rows.now - c.args.from) (drop c.args.from c.args.rows.now) in
    let low : c.in-Some.k < length xs = search rules in
    let here : c.args.i ≤ get_or xs c.in-Some.k 0 = search (rules, tests) in
    let below : (e : ℕ) → e < c.in-Some.k → get_or xs e 0 < c.args.i = search (rules, tests) in
    start_found c.args.rows.now c.args.i c.args.from c.requires c.in-Some.k low here below

pub returns-in-None : goal.returns-in-None
returns-in-None c =
    let xs = take (length c.args.rows.now - c.args.from) (drop c.args.from c.args.rows.now) in
    let below : (e : ℕ) → e < length xs → get_or xs e 0 < c.args.i = search (rules, tests) in
    start_behind c.args.rows.now c.args.i c.args.from c.requires below
