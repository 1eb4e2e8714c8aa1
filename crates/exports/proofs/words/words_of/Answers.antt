-- `exports::words::words_of` meets its contract. Assumes nothing.
use mathlib.Core.Path.{refl, sym, subst}
use native.Mathlib.Omega.{arith}
use borrow.Author.Rules.{rules}
use lib.Dec.{T}
use lib.Ieee.{Float, binary64, fits}
use Rattle.exports.specs.Words.{words_of, Fitting}
use Rattle.exports.proofs.Back.{words_back}
use Rattle.exports.proofs.words.words_of.Goals as goal

pub returns : goal.returns
unfolding words_of
returns c =
    let fitting : Fitting c.args.run =
    record {
      value_fits = subst (λ (x : Float). T (fits binary64 x)) c.rule_value.ensures (subst T (sym c.rule_value.type_inv) tt);
      last_fits = search rules;
      objective_fits = search rules;
      stationarity_fits = search rules;
      sweeps_fit = omega arith;
      most_fit = omega arith;
      minimum_fit = omega arith;
      status_fits = omega arith;
    } in
    rw (
      c.bits_of.ensures,
      c.rule_word.ensures,
      c.rule_value.ensures,
      c.bits_of-2.ensures,
      c.bits_of-3.ensures,
      c.bits_of-4.ensures,
      c.stage_word.ensures,
      c.from.ensures,
      c.from-2.ensures,
      c.from-3.ensures,
      c.from-4.ensures,
    ) (refl, words_back c.args.run fitting)
