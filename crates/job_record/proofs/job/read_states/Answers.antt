use native.Mathlib.Omega.{arith}
use mathlib.Core.Path.{◌≡◌, sym, ap, ◌∙◌}
use mathlib.Core.List.{List, ◌++◌}
use Prim.Native.Nat.{ℕ, ◌≤◌}
use lib.ListN.{length, take, drop, replicate}
use Rattle.std.proofs.lemmas.List.{length-take-le, take_at, drop_at}
use Rattle.std.proofs.Math.Seq.{length_front}
use Rattle.laws.specs.Lists.{over}
use Rattle.job_record.specs.Fields.{wagons, free_state}
use Rattle.job_record.specs.Values.{job_states}
use Rattle.job_record.proofs.Accepted.{fields, version_is, states_length, states_none, pins_zero, states_read}
use Rattle.job_record.proofs.job.read_states.Goals as goal

-- a front of n that was set, and the states in its place
front_free : (n : ℕ) (xs : List ℕ) {front : List ℕ} → n ≤ length xs → front ≡ replicate (length (take n xs)) free_state → front ≡ replicate n free_state
front_free n xs long e = e ∙ ap (λ (k : ℕ). replicate k free_state) (length-take-le n xs long)

front_states : (s : List ℕ) (n : ℕ) {front : List ℕ} (xs : List ℕ) → n ≡ wagons s → front ≡ job_states s → front ++ drop n xs ≡ over (job_states s) xs
front_states s n xs is e = ap (λ (l : List ℕ). l ++ drop n xs) e ∙ ap (λ (k : ℕ). job_states s ++ drop k xs) (is ∙ sym (states_length s))

pub slice_bounds-fill-end-2 : goal.slice_bounds-fill-end-2
slice_bounds-fill-end-2 c = sym (length-take-le _ _ (omega (arith, (fields c.args.job.bytes.now c.args.job.accepted).few)))

pub slice_bounds-pins_number-end : goal.slice_bounds-pins_number-end
slice_bounds-pins_number-end c =
    omega (arith, length_front c.args.states.now c.fill.new.self c.accepted_head-head.result.n c.fill.ensures.len, (fields c.args.job.bytes.now c.args.job.accepted).few)

pub slice_bounds-pins_number-end-then-carries_pins : goal.slice_bounds-pins_number-end-then-carries_pins
slice_bounds-pins_number-end-then-carries_pins c =
    sym (length-take-le _ _ (omega (arith, length_front c.args.states.now c.fill.new.self c.accepted_head-head.result.n c.fill.ensures.len, (fields c.args.job.bytes.now c.args.job.accepted).few)))

pub pins_number-requires : goal.pins_number-requires
pins_number-requires c = let n = c.accepted_head-head.result.n in
    let long : n ≤ length c.args.states.now = omega (arith, (fields c.args.job.bytes.now c.args.job.accepted).few) in
    take_at c.fill.new.self _ n (c.fill.ensures.len ∙ length-take-le n c.args.states.now long) ∙ front_free n c.args.states.now long (c.fill.ensures.after (λ y h. h))

pub returns-then-carries_pins : goal.returns-then-carries_pins
returns-then-carries_pins c = let s = c.args.job.bytes.now in let n = c.accepted_head-head.result.n in let t = version_is s c.accepted_head-head.ensures c.carries_pins.ensures c.if-carries_pins.true in
    let long : n ≤ length c.args.states.now = omega (arith, (fields s c.args.job.accepted).few) in
    let z = pins_zero s c.args.job.accepted c.accepted_head-head.ensures t c.costs_end.ensures c.pins_number.ensures.0 in
    ap (λ (l : List ℕ). c.pins_number.new.states ++ l) (drop_at c.fill.new.self (drop n c.args.states.now) n (c.fill.ensures.len ∙ length-take-le n c.args.states.now long))
    ∙ front_states s n c.args.states.now c.accepted_head-head.ensures.n (states_read s c.args.job.accepted c.accepted_head-head.ensures t c.costs_end.ensures (c.pins_number.ensures.1 z))

pub returns-else-carries_pins : goal.returns-else-carries_pins
returns-else-carries_pins c = let s = c.args.job.bytes.now in let n = c.accepted_head-head.result.n in
    let long : n ≤ length c.args.states.now = omega (arith, (fields s c.args.job.accepted).few) in
    front_states s n c.args.states.now c.accepted_head-head.ensures.n (front_free n c.args.states.now long (c.fill.ensures.after (λ y h. h))
    ∙ ap (λ (k : ℕ). replicate k free_state) c.accepted_head-head.ensures.n ∙ sym (states_none s (version_is s c.accepted_head-head.ensures c.carries_pins.ensures c.if-carries_pins.false)))
