-- 01's halls worked by hand, as far as tables go: the definitions compute its figures.
use mathlib.Core.Path.{◌≡◌, refl}
use mathlib.Core.List.{List, [], ◌∷◌}
use Prim.Native.Nat.{ℕ, ◌+◌, ◌-◌, ◌^◌}
use lib.IntN.{ℤ, pos, negsuc}
use lib.Ieee.{binary64, to_bits, of_bits, add, sub, mul, div, neg, of_int}
use Rattle.laws.specs.Sum.{sum, sum₂, total}
use Rattle.laws.specs.Lists.{elem_z, any_below}
use Rattle.laws.specs.Refusal.{or_else, first, any_of}
use Rattle.ieee.specs.Floats.{eighth_of}
use Rattle.limits.specs.Limits.{most_wagons, most_entries, most_magnitude}
use Rattle.tables.specs.Table.{Table, table_of, value_at, stored_at, least, floor_of}
use Rattle.tables.specs.Cost.{cost_eighths, choice_at}
use Rattle.tables.specs.Check.{before, bad_size, bad_entry, bad_order, unmirrored, hall_number}
use Rattle.tables.specs.Bound.{bound_term, bound_sum, magnitude_sum, margin, entrywise}
use Rattle.sign_table.specs.SignTable.{absorbed, sign_value, sign_kept, row_places, places, values_of, sign_of, sign_places, sign_table}

-- what is said of a hall and of a choice: its number, the places and values of its sign table, the floor, the choice's cost, the float bound
pub record Figures : Type 0 where
  pub number : ℕ
  pub stored : List (ℕ × ℕ)
  pub values : List ℤ
  pub floor : ℤ
  pub cost : ℤ
  pub bound : ℕ

abbrev pub figures : ℕ → Table → List ℤ → List ℕ → Figures
figures n h c b =
    record {
      number = hall_number most_wagons most_entries most_magnitude n h (elem_z c);
      stored = sign_places n h (elem_z c);
      values = values_of (sign_of n h (elem_z c)) (sign_places n h (elem_z c));
      floor = floor_of (sign_table n h (elem_z c));
      cost = cost_eighths n (value_at h) (elem_z c) (choice_at b);
      bound = to_bits binary64 (entrywise (sign_table n h (elem_z c)));
    }

-- n 1, H_00 = 2, c_0 = −3, choice 1; n 0; H_01 = H_10 = 3, c = −1, −1, choice 1, 0
pub halls :
    (figures 1 (table_of 1 (0 ∷ []) (0 ∷ []) (pos 2 ∷ [])) (negsuc 2 ∷ []) (1 ∷ [])
    ∷ figures 0 (table_of 0 [] [] []) [] []
    ∷ figures 2 (table_of 2 (0 ∷ 1 ∷ []) (1 ∷ 0 ∷ []) (pos 3 ∷ pos 3 ∷ [])) (negsuc 0 ∷ negsuc 0 ∷ []) (1 ∷ 0 ∷ [])
    ∷ [])
    ≡
    (record {
      number = 0;
      stored = ((0, 0) ∷ (0, 1) ∷ (1, 0) ∷ (1, 1) ∷ []);
      values = (negsuc 3 ∷ pos 4 ∷ pos 4 ∷ negsuc 3 ∷ []);
      floor = negsuc 15;
      cost = negsuc 15;
      bound = 0xC000000000000028;
    }
    ∷ record { number = 0; stored = ((0, 0) ∷ []); values = (pos 0 ∷ []); floor = pos 0; cost = pos 0; bound = 0 }
    ∷ record {
      number = 0;
      stored = ((0, 0) ∷ (0, 1) ∷ (0, 2) ∷ (1, 0) ∷ (1, 1) ∷ (1, 2) ∷ (2, 0) ∷ (2, 1) ∷ (2, 2) ∷ []);
      values = (negsuc 1 ∷ pos 3 ∷ negsuc 0 ∷ pos 3 ∷ negsuc 1 ∷ negsuc 0 ∷ negsuc 0 ∷ negsuc 0 ∷ pos 2 ∷ []);
      floor = negsuc 11;
      cost = negsuc 7;
      bound = 0xBFF80000000000A0;
    }
    ∷ [])
unfolding hall_number first or_else any_of bad_size bad_order bad_entry before unmirrored any_below total sum sum₂ sign_places places row_places sign_kept sign_value absorbed value_at stored_at least cost_eighths entrywise margin bound_sum bound_term magnitude_sum eighth_of add sub mul div neg of_int of_bits to_bits
halls = refl

-- a hall of one wagon with H_00 = v and c_0 = c
abbrev pub lone : ℤ → ℤ → ℕ
lone v c = hall_number most_wagons most_entries most_magnitude 1 (table_of 1 (0 ∷ []) (0 ∷ []) (v ∷ [])) (elem_z (c ∷ []))

-- magnitude 2^40 accepted, one more 16; the least i64 is 16 too
pub magnitudes :
    (lone (pos (2 ^ 40)) (pos 0)
    ∷ lone (pos (2 ^ 40 + 1)) (pos 0)
    ∷ lone (pos 0) (negsuc (2 ^ 39 - 1))
    ∷ lone (pos 1) (negsuc (2 ^ 39 - 1))
    ∷ lone (negsuc (2 ^ 63 - 1)) (pos 0)
    ∷ lone (pos 0) (negsuc (2 ^ 63 - 1))
    ∷ [])
    ≡ (0 ∷ 16 ∷ 0 ∷ 16 ∷ 16 ∷ 16 ∷ [])
unfolding hall_number first or_else any_of bad_size bad_order bad_entry before unmirrored any_below total
magnitudes = refl
