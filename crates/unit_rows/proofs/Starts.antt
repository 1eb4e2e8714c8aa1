-- What Note 14 starts from is there: numbers of every such pattern, and an outcome of every call.
--     tame_of_bits    64 bits a number, the sign's left out at most those of 2.0
--     one_sweep_any   a run under rule 3 and a table to which no number applies, and such a factor
-- Assumes nothing.
use mathlib.Core.Path.{◌≡◌, refl, sym, subst}
use mathlib.Core.List.{List, map}
use Prim.Native.Nat.{ℕ, ◌%◌, ◌^◌, ◌≤◌, ◌<◌}
use native.Mathlib.Nat.{le_trans}
use lib.Ieee.{Float, nan}
use lib.ListN.{length, take}
use Rattle.std.proofs.lemmas.List.{get_or-map}
use Rattle.laws.specs.Lists.{elem, over}
use Rattle.ieee.specs.Floats.{double_of}
use Rattle.step_rules.specs.declared.StepRule.TheVariants.{CoordNoStep}
use Rattle.row_length.specs.Length.{AtMostTwo}
use Rattle.row_length.proofs.AtMostTwo.{two_bits, two_of_bits}
use Rattle.run_record.specs.declared.Run.{Run}
use Rattle.tables.specs.CostTable.{CostTable}
use Rattle.run_record.specs.Numbers.{sweep_number}
use Rattle.run_sweep.specs.Work.{call_work}
use Rattle.run_sweep.specs.Sweep.{sweeps_up_to}
use Rattle.run_contract.specs.Calls.{used}
use Rattle.unit_rows.specs.UnitRows.{Tame, OneSweep}

pub tame_of_bits : (run : Run) (bits : List ℕ) → used run ≤ length bits → ((k : ℕ) → k < used run → (elem bits k < 2 ^ 64) × (elem bits k % 2 ^ 63 ≤ two_bits)) → Tame run (map double_of bits)
tame_of_bits run bits room low k l = subst AtMostTwo (sym (get_or-map double_of bits k 0 nan (le_trans l room))) (two_of_bits (elem bits k) (low k l).0 (low k l).1)

pub one_sweep_any : (run : Run) (t : CostTable) (factor : List Float) → sweep_number run t (length factor) ≡ 0 → run.rule ≡ CoordNoStep → Tame run factor
    → (run' : Run) × (factor' : List Float) × OneSweep run t factor 0 run' factor'
one_sweep_any run t factor ok rule tame =
    let end = sweeps_up_to 1 (call_work t) run (take (used run) factor) in (
      end.run,
      over end.factor factor,
      record {
        says = record { numbered = sym ok; refused = λ n. absurd (n refl); accepted = λ z. (refl, refl) };
        accepted = refl;
        rule_3 = rule;
        from_tame = tame;
      },
    )
