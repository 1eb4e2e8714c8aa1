-- What holds of every accepted (H, c): n wagons, the table h of quadratic costs, the linear costs c, within whatever limits.
use mathlib.Core.Path.{◌≡◌}
use mathlib.Core.List.{List}
use Prim.Native.Nat.{ℕ, suc, ◌+◌, ◌*◌}
use native.Mathlib.Omega.{arith}
use lib.ListN.{take}
use lib.IntN.{ℤ}
use lib.Signed.{◌≤ℤ◌}
use Rattle.limits.specs.Limits.{most_wagons, most_entries, most_magnitude, most_signs, most_sign_entries, most_sign_magnitude}
use Rattle.tables.specs.Table.{Table, value_at, sign_at, objective_of, floor_of}
use Rattle.tables.specs.Cost.{cost_eighths, decoded, choice_at}
use Rattle.tables.specs.Check.{Hall, Accepted}
use Rattle.tables.proofs.Mirrors.{hall_symmetric}
use Rattle.tables.proofs.Theorems.{floor_le_objective}
use Rattle.tables.proofs.Choices.{choice_cost}
use Rattle.sign_table.specs.SignTable.{sign_table}
use Rattle.sign_table.proofs.Listed.{table_objective_is_cost}
use Rattle.sign_table.proofs.Sizes.{sign_range, sign_rising, sign_mirrored, sign_count, sign_magnitude}

module _ {most capacity limit n : ℕ} {h : Table} {c : ℕ → ℤ} (ok : Hall most capacity limit n h c) where
  -- the sign table passes every check of a sign table given directly: rising, mirrored, and within limits that follow from those of (H, c)
  pub sign_table_accepted : Accepted (most + 1) (capacity + 3 * most + 1) (4 * limit) (suc n) (sign_table n h c)
  sign_table_accepted =
      record {
        some = omega arith;
        signs = omega (arith, ok.wagons);
        entries = omega (arith, sign_count c ok.in_range, ok.entries, ok.wagons);
        in_range = sign_range n h c;
        rising = sign_rising n h c;
        mirrored = sign_mirrored n h c ok.rising ok.mirrored;
        magnitude = omega (arith, sign_magnitude c ok.in_range, ok.magnitude);
      }

  -- its objective at any signs is eight times the cost of what they decode to
  pub objective_cost : (signs : List ℕ) → objective_of (sign_table n h c) (sign_at signs) ≡ cost_eighths n (value_at h) c (decoded n signs)
  objective_cost signs = table_objective_is_cost n h c signs (hall_symmetric ok)

  -- its floor is at most the cost of whatever signs decode to, hence of every choice
  pub floor_le_cost : (signs : List ℕ) → floor_of (sign_table n h c) ≤ℤ cost_eighths n (value_at h) c (decoded n signs)
  floor_le_cost signs = rw (← (objective_cost signs)) (floor_le_objective sign_table_accepted signs)

  pub floor_le_choice : (b : List ℕ) → floor_of (sign_table n h c) ≤ℤ cost_eighths n (value_at h) c (choice_at b)
  floor_le_choice b = rw (← (choice_cost n (value_at h) c b)) (floor_le_cost (take n b))

-- 01's limits: those of (H, c) give those of a sign table
pub hall_sign_table : {n : ℕ} {h : Table} {c : ℕ → ℤ} → Hall most_wagons most_entries most_magnitude n h c → Accepted most_signs most_sign_entries most_sign_magnitude (suc n) (sign_table n h c)
hall_sign_table ok = sign_table_accepted ok
