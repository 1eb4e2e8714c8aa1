-- `ieee::root::is_root` meets its contract. Assumes nothing.
use Rattle.std.proofs.Common.{◌≡◌, ℕ, ◌+◌, ◌-◌, ◌*◌, ◌%◌, ◌^◌, T, sym, ap, ◌∙◌, subst, arith}
use lib.Ieee.{binary64, of_bits, to_bits}
use lib.Ieee.Bits.{of_bits-to_bits}
use Rattle.ieee.proofs.Patterns.{root_pattern}
use Rattle.ieee.proofs.Halves.{Halved, halved}
use Rattle.ieee.proofs.root.is_root.Goals as goal

pub returns : goal.returns
returns c e =
    let held : of_bits binary64 (to_bits binary64 c.args.f) ≡ c.args.f =
    of_bits-to_bits binary64 c.args.f (subst T (sym c.well_formed.1.0.1) tt) in
    let s = c.scaled-s.ensures in
    let bits = to_bits binary64 c.args.f in
    let half : Halved _ (bits % 2 ^ 52 + 2 ^ 52) = halved (omega arith) (c.is_rounded.ensures e) in
    sym held
    ∙ ap (of_bits binary64) (c.if-bits-s.false ∙ ap (λ (y : ℕ). (c.scaled-s.result.h - 26) * 2 ^ 52 + y) (sym half.half))
    ∙ (root_pattern c.args.b.some c.args.b.finite s half.root).1
