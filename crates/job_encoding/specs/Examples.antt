-- Values of two jobs. 01's example: n 1, H_00 = 2, c_0 = −3, rank 0, rule 3 (number 0), sweeps 0 and 0, tolerances 0, W 1, start signs 1.0 1.0, one draw 1.0 0.0.
use Rattle.std.specs.Prelude.{ℕ, List, [], ◌∷◌, ℤ, pos, negsuc}
use Rattle.ieee.specs.Floats.{zero64, one64}
use Rattle.job_encoding.specs.Encode.{Entry, Pin, Values}

-- with the settings of 01's example, its start and its draw
abbrev pub example_by : ℕ → List Entry → List ℤ → List Pin → Values
example_by version entries c pins =
    record {
      version = version;
      entries = entries;
      c = c;
      pins = pins;
      rank = 0;
      rule = 3;
      rule_number = zero64;
      most = 0;
      minimum = 0;
      objective_tolerance = zero64;
      stationarity_tolerance = zero64;
      width = 1;
      start = 2;
      start_numbers = one64 ∷ one64 ∷ [];
      draw_count = 1;
      draws = one64 ∷ zero64 ∷ [];
    }

abbrev pub example_values : Values
example_values = example_by 1 (record { row = 0; column = 0; value = pos 2 } ∷ []) (negsuc 2 ∷ []) []

-- of version 2: n 2, H_01 = H_10 = 3, c = −1, −1, wagon 0 pinned to 0
abbrev pub pinned_values : Values
pinned_values =
    example_by 2 (record { row = 0; column = 1; value = pos 3 } ∷ record { row = 1; column = 0; value = pos 3 } ∷ []) (negsuc 0 ∷ negsuc 0 ∷ [])
    (record { wagon = 0; store = 0 } ∷ [])
