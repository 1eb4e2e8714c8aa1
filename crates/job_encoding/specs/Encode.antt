-- A job record, written from a job's values (01, "Job and answer records"; the pins: 02, Note 1).
use Rattle.std.specs.Prelude.{ℕ, ◌+◌, cond, List, [], ◌∷◌, ◌++◌, length, ℤ, Float}
use Rattle.ieee.specs.Floats.{bits_of, bits_of_signed}
use Rattle.job_reader.specs.Encode.{bytes_of}
use Rattle.job_record.specs.Versions.{versions}

pub record Entry : Type 0 where
  pub row : ℕ
  pub column : ℕ
  pub value : ℤ

pub record Pin : Type 0 where
  pub wagon : ℕ
  pub store : ℕ

-- n is the length of c. Another record than job_record's `JobValues`, which has counts where this has lists. Ten fields stand in both: a record of them
-- in each would put one more name into all that cites them, the `(job_of s).width` of record_call's promises too.
pub record Values : Type 0 where
  pub version : ℕ
  pub entries : List Entry
  pub c : List ℤ
  pub pins : List Pin
  pub rank : ℕ
  pub rule : ℕ
  pub rule_number : Float
  pub most : ℕ
  pub minimum : ℕ
  pub objective_tolerance : Float
  pub stationarity_tolerance : Float
  pub width : ℕ
  pub start : ℕ
  pub start_numbers : List Float
  pub draw_count : ℕ
  pub draws : List Float

-- one after the other
unfoldable pub each : {A : Type 0} → (A → List ℕ) → List A → List ℕ
each f [] = []
each f (x ∷ xs) = f x ++ each f xs

-- row (1), column (1), value (8 signed)
unfoldable pub entry_bytes : Entry → List ℕ
entry_bytes e = bytes_of 1 e.row ++ bytes_of 1 e.column ++ bytes_of 8 (bits_of_signed e.value)

unfoldable pub signed_bytes : ℤ → List ℕ
signed_bytes z = bytes_of 8 (bits_of_signed z)

unfoldable pub double_bytes : Float → List ℕ
double_bytes x = bytes_of 8 (bits_of x)

-- wagon (1), store (1)
unfoldable pub pin_bytes : Pin → List ℕ
pin_bytes p = bytes_of 1 p.wagon ++ bytes_of 1 p.store

-- in a version that carries them: pin count (1), pins
unfoldable pub pins_bytes : Values → List ℕ
pins_bytes v = cond (versions.pinned v.version) (bytes_of 1 (length v.pins) ++ each pin_bytes v.pins) []

-- rank (1), rule (1), its number (8), most sweeps (4), minimum (4), objective tolerance (8), stationarity tolerance (8), W (1), start (1)
unfoldable pub settings_bytes : Values → List ℕ
settings_bytes v =
    bytes_of 1 v.rank ++ bytes_of 1 v.rule ++ bytes_of 8 (bits_of v.rule_number) ++ bytes_of 4 v.most ++ bytes_of 4 v.minimum
    ++ bytes_of 8 (bits_of v.objective_tolerance) ++ bytes_of 8 (bits_of v.stationarity_tolerance) ++ bytes_of 1 v.width ++ bytes_of 1 v.start

-- entries, c, pins, settings, the start's doubles, draw count (2), draws
unfoldable pub body_bytes : Values → List ℕ
body_bytes v =
    each entry_bytes v.entries
    ++ (each signed_bytes v.c
    ++ (pins_bytes v
    ++ (settings_bytes v
    ++ (each double_bytes v.start_numbers
    ++ (bytes_of 2 v.draw_count
    ++ each double_bytes v.draws)))))

-- length of the rest (4), version (1), n (1), entry count (2)
unfoldable pub head_bytes : ℕ → ℕ → ℕ → ℕ → List ℕ
head_bytes rest version n count = bytes_of 4 rest ++ bytes_of 1 version ++ bytes_of 1 n ++ bytes_of 2 count

unfoldable pub job_bytes : Values → List ℕ
job_bytes v = head_bytes (4 + length (body_bytes v)) v.version (length v.c) (length v.entries) ++ body_bytes v

-- the same values in another version
abbrev pub in_version : ℕ → Values → Values
in_version k v =
    record {
      version = k;
      entries = v.entries;
      c = v.c;
      pins = v.pins;
      rank = v.rank;
      rule = v.rule;
      rule_number = v.rule_number;
      most = v.most;
      minimum = v.minimum;
      objective_tolerance = v.objective_tolerance;
      stationarity_tolerance = v.stationarity_tolerance;
      width = v.width;
      start = v.start;
      start_numbers = v.start_numbers;
      draw_count = v.draw_count;
      draws = v.draws;
    }
