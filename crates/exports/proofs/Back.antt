-- Words and what they mean: a record is the one that its words hold. Assumes nothing.
use Prim.Native.Nat.{ℕ, zero, suc, ◌≤◌, ◌<◌}
use mathlib.Core.Path.{◌≡◌, refl, sym}
use mathlib.Core.List.{List}
use borrow.Author.Tests.{lt-ltb, le-ltb}
use lib.Dec.{T}
use Rattle.laws.specs.Lists.{over}
use lib.Ieee.{Float, nan, binary64, fits}
use lib.Ieee.Bits.{of_bits-to_bits}
use Rattle.ieee.specs.Floats.{double_of, bits_of}
use Rattle.step_rules.specs.declared.StepRule.{StepRule}
use Rattle.step_rules.specs.declared.StepRule.TheVariants.{Grad, GradAdv, Coord, CoordNoStep, CoordMomentum}
use Rattle.step_rules.specs.Rule.{rule_number}
use Rattle.run_record.specs.declared.Stage.{Stage}
use Rattle.run_record.specs.declared.Stage.TheVariants.{Open, Stopped}
use Rattle.run_record.specs.declared.Run.{Run}
use Rattle.exports.specs.Words.{within, stage_in, stage_word, rule_in, rule_value, run_in, words_of, Fitting}

-- ---- fields

pub within_below : (largest word : ℕ) → word ≤ largest → word ≡ within largest word
unfolding within
within_below largest word l = rw (le-ltb largest word l) refl

pub stopped : (k : ℕ) → (k ≡ 0 → ⊥) → Stopped ≡ stage_in k
stopped zero e = absurd (e refl)
stopped (suc k) e = refl

pub rule_none : (word : ℕ) (x : Float) → 4 < word → CoordMomentum nan ≡ rule_in word x
unfolding rule_in
rule_none word x l = rw (lt-ltb 4 word l) refl

-- ---- back

rule_back : (rule : StepRule) → T (fits binary64 (rule_value rule)) → rule_in (rule_number rule) (double_of (bits_of (rule_value rule))) ≡ rule
unfolding rule_in
rule_back (Grad alpha) f = rw (of_bits-to_bits binary64 alpha f) refl
rule_back (GradAdv alpha) f = rw (of_bits-to_bits binary64 alpha f) refl
rule_back (Coord alpha) f = rw (of_bits-to_bits binary64 alpha f) refl
rule_back CoordNoStep f = refl
rule_back (CoordMomentum beta) f = rw (of_bits-to_bits binary64 beta f) refl

stage_back : (stage : Stage) → stage_in (stage_word stage) ≡ stage
stage_back Open = refl
stage_back Stopped = refl

-- the words of a record hold that record
pub words_back : (run : Run) → Fitting run → run_in (words_of run) ≡ run
unfolding run_in words_of
words_back run f =
    rw (
      rule_back run.rule f.value_fits,
      stage_back run.stage,
      of_bits-to_bits binary64 run.last_objective f.last_fits,
      of_bits-to_bits binary64 run.objective_tolerance f.objective_fits,
      of_bits-to_bits binary64 run.stationarity_tolerance f.stationarity_fits,
      sym (within_below 4294967295 run.sweeps f.sweeps_fit),
      sym (within_below 4294967295 run.most f.most_fit),
      sym (within_below 4294967295 run.minimum f.minimum_fit),
      sym (within_below 255 run.status f.status_fits),
    ) refl

-- words behind a record's own are not read
pub front_held : (run : Run) (words : List ℕ) → run_in (over (words_of run) words) ≡ run_in (words_of run)
unfolding run_in words_of
front_held run words = refl
