-- `ieee::sqrt` meets its contract. Assumes nothing.
use Rattle.std.proofs.Common.{◌≡◌, ℕ, Bool, true, not, T, sym, refl, ap, ◌∙◌, subst, arith}
use lib.Ieee.{Float, binary64, nan, div, fits, is_nan, of_bits, to_bits}
use lib.Ieee.Bits.{of_bits-to_bits, to_bits-lt}
use Rattle.ieee.specs.Sqrt.{sqrt_of}
use Rattle.ieee.proofs.Nans.{is_nan_lem}
use Rattle.ieee.proofs.Patterns.{no_root}
use Rattle.ieee.proofs.sqrt.Goals as goal

-- a double is read back from its bits
held : {x : Float} → fits binary64 x ≡ true → of_bits binary64 (to_bits binary64 x) ≡ x
held {x} f = of_bits-to_bits binary64 x (subst T (sym f) tt)

-- a value whose pattern b is a root's own stays
kept : {x : Float} {b : ℕ} → of_bits binary64 (to_bits binary64 x) ≡ x → to_bits binary64 x ≡ b → of_bits binary64 b ≡ sqrt_of (of_bits binary64 b) → x ≡ sqrt_of x
kept {x} {b} h e r = subst (λ (y : Float). y ≡ sqrt_of y) (ap (of_bits binary64) (sym e) ∙ h) r

pub returns-then-is_nan : goal.returns-then-is_nan
returns-then-is_nan c = let e : c.args.x ≡ nan = is_nan_lem c.args.x (sym c.is_nan.ensures.value ∙ c.if-is_nan.true) in rw e (unfold sqrt_of in refl)

pub returns-then-b-eq0 : goal.returns-then-b-eq0
unfolding sqrt_of of_bits
returns-then-b-eq0 c = kept (held c.well_formed.0.1) c.if-b-eq0.true refl

pub returns-then-b-lt-INFINITY : goal.returns-then-b-lt-INFINITY
returns-then-b-lt-INFINITY c = c.nearest.ensures ∙ ap sqrt_of (held c.well_formed.0.1)

pub returns-then-b-eq-INFINITY : goal.returns-then-b-eq-INFINITY
unfolding sqrt_of of_bits
returns-then-b-eq-INFINITY c = kept (held c.well_formed.0.1) c.if-b-eq-INFINITY.true refl

pub returns-then-b : goal.returns-then-b
unfolding sqrt_of of_bits
returns-then-b c = kept (held c.well_formed.0.1) c.if-b.true refl

pub returns : goal.returns
unfolding div of_bits
returns c =
    let x = c.args.x in
    let b = to_bits binary64 x in
    let is = held c.well_formed.0.1 in
    let number : T (not (is_nan (of_bits binary64 b))) =
    subst (λ (y : Float). T (not (is_nan y))) (sym is) (subst (λ (t : Bool). T (not t)) (sym (sym c.is_nan.ensures.value ∙ c.if-is_nan.false)) tt) in
    sym (no_root b (omega arith) c.if-b.false (to_bits-lt binary64 x (subst T (sym c.well_formed.0.1) tt)) number) ∙ ap sqrt_of is
