-- The fields of head, pins and settings as a reader takes them, one after the other: each stands where the one before it ends. A field past the
-- end leaves the reader where it is. The contracts of inner functions cite these; what a job's number and values are is in Number and Values.
use Rattle.std.specs.Prelude.{ℕ, ◌+◌, Bool, ◌&&◌, ◌||◌, not, List, [], ◌∷◌, ◌++◌, ◌≡◌, leb, ltb, eqb, Option, Some, None, is_some}
use Rattle.laws.specs.Lists.{elem}
use Rattle.laws.specs.Refusal.{◌if◌}
use Rattle.ieee.specs.Floats.{double_of}
use Rattle.limits.specs.Limits.{most_entries, most_rank, most_width, last_rule, last_start, most_bytes}
use Rattle.run_limits.specs.Momentum.{is_momentum}
use Rattle.job_reader.specs.Bytes.{value_of, after_all, taken}
use Rattle.job_record.specs.Versions.{known, versions}
use Rattle.job_record.specs.Fields.{version, wagons, entry_count, last_store, free_state}
use Rattle.job_record.specs.declared.reading.HeadFields.{HeadFields}
use Rattle.job_record.specs.declared.reading.PinFields.{PinFields}
use Rattle.job_record.specs.declared.reading.SettingsOf.{SettingsOf}
use Rattle.job_record.specs.declared.reading.HeadValues.{HeadValues}

-- the settings as they were read, and as numbers
abbrev pub SettingsFields : Type 0
SettingsFields = SettingsOf (Option ℕ)

abbrev pub SettingsValues : Type 0
SettingsValues = SettingsOf ℕ

-- length of the rest (4), version (1), n (1), entry count (2)
unfoldable pub head_of : List ℕ → HeadFields
head_of s =
    record {
      rest = taken s 0 [] 4;
      version = taken s 0 (4 ∷ []) 1;
      n = taken s 0 (4 ∷ 1 ∷ []) 1;
      count = taken s 0 (4 ∷ 1 ∷ 1 ∷ []) 2;
    }

-- a pin: wagon (1), store (1)
unfoldable pub pin_from : List ℕ → ℕ → PinFields
pin_from s at = record { wagon = taken s at [] 1; store = taken s at (1 ∷ []) 1; next = after_all s at (1 ∷ 1 ∷ []) }

-- rank (1), rule (1), its number (8), most sweeps (4), minimum (4), objective tolerance (8), stationarity tolerance (8), W (1), start (1)
unfoldable pub settings_from : List ℕ → ℕ → SettingsFields
settings_from s at =
    record {
      rank = taken s at [] 1;
      rule = taken s at (1 ∷ []) 1;
      rule_number = taken s at (1 ∷ 1 ∷ []) 8;
      most = taken s at (1 ∷ 1 ∷ 8 ∷ []) 4;
      minimum = taken s at (1 ∷ 1 ∷ 8 ∷ 4 ∷ []) 4;
      objective_tolerance = taken s at (1 ∷ 1 ∷ 8 ∷ 4 ∷ 4 ∷ []) 8;
      stationarity_tolerance = taken s at (1 ∷ 1 ∷ 8 ∷ 4 ∷ 4 ∷ 8 ∷ []) 8;
      width = taken s at (1 ∷ 1 ∷ 8 ∷ 4 ∷ 4 ∷ 8 ∷ 8 ∷ []) 1;
      start = taken s at (1 ∷ 1 ∷ 8 ∷ 4 ∷ 4 ∷ 8 ∷ 8 ∷ 1 ∷ []) 1;
      next = after_all s at (1 ∷ 1 ∷ 8 ∷ 4 ∷ 4 ∷ 8 ∷ 8 ∷ 1 ∷ 1 ∷ []);
    }

-- the fields' values, 0 for one past the end
abbrev pub head_values : HeadFields → HeadValues
head_values head = record { version = value_of head.version; n = value_of head.n; count = value_of head.count }

abbrev pub settings_values : SettingsFields → SettingsValues
settings_values f =
    record {
      rank = value_of f.rank;
      rule = value_of f.rule;
      rule_number = value_of f.rule_number;
      most = value_of f.most;
      minimum = value_of f.minimum;
      objective_tolerance = value_of f.objective_tolerance;
      stationarity_tolerance = value_of f.stationarity_tolerance;
      width = value_of f.width;
      start = value_of f.start;
      next = f.next;
    }

-- all of the head was there
pub record HeadThere (s : List ℕ) (v : HeadValues) : Type 0 where
  pub version : v.version ≡ version s
  pub n : v.n ≡ wagons s
  pub count : v.count ≡ entry_count s

-- the numbers of Number, from the fields that were read: 11 where one is past the end, k where its value is wrong
abbrev pub is_short : Option ℕ → Bool
is_short f = not (is_some f)

abbrev pub field_number : Option ℕ → (ℕ → Bool) → ℕ → ℕ
field_number (Some v) wrong k = k if wrong v
field_number None wrong k = 11

-- the length of the rest, which stands first, in a record of so many bytes
abbrev pub frame_judged : ℕ → Option ℕ → ℕ
frame_judged len rest = field_number rest (λ v. not (eqb (4 + v) len)) 11

abbrev pub head_judged : ℕ → HeadFields → List ℕ
head_judged len head =
    11 if ltb most_bytes len
    ∷ frame_judged len head.rest
    ∷ field_number head.version (λ v. not (known versions v)) 12
    ∷ field_number head.n (ltb (versions.most (value_of head.version))) 13
    ∷ field_number head.count (ltb most_entries) 13
    ∷ []

-- a pin, against what the pins before it have left in the states: its wagon is out of range or held
abbrev pub wagon_wrong : ℕ → List ℕ → ℕ → Bool
wagon_wrong n states w = leb n w || not (eqb (elem states w) free_state)

abbrev pub pin_judged : ℕ → List ℕ → PinFields → List ℕ
pin_judged n states f =
    field_number f.wagon (wagon_wrong n states) 21
    ∷ field_number f.store (ltb last_store) 21
    ∷ []

-- rank, rule, its number; W and start with a rank; all of the settings
abbrev pub rule_judged : Option ℕ → Option ℕ → Option ℕ → List ℕ
rule_judged rank rule number =
    field_number rank (ltb most_rank) 17
    ∷ field_number rule (ltb last_rule) 18
    ∷ field_number number (λ bits. eqb (value_of rule) 4 && not (is_momentum (double_of bits))) 18
    ∷ []

abbrev pub start_judged : Option ℕ → Option ℕ → Option ℕ → List ℕ
start_judged rank width start =
    field_number width (ltb most_width) 19
    ∷ field_number start (ltb last_start) 19
    ∷ 17 if (eqb (value_of start) 1 && eqb (value_of rank) 0)
    ∷ []

abbrev pub settings_judged : SettingsFields → List ℕ
settings_judged f =
    rule_judged f.rank f.rule f.rule_number
    ++ (11 if (is_short f.most || (is_short f.minimum || (is_short f.objective_tolerance || is_short f.stationarity_tolerance)))
    ∷ start_judged f.rank f.width f.start)
