-- What an accepted job record holds.
use Rattle.std.specs.Prelude.{ℕ, ◌+◌, ◌*◌, ◌≤◌, List, ◌≡◌, length, replicate, ℤ, Float}
use Rattle.laws.specs.Lists.{fill}
use Rattle.limits.specs.Limits.{most_wagons, most_entries}
use Rattle.tables.specs.Table.{Table}
use Rattle.reduced.specs.Indices.{put_each}
use Rattle.job_reader.specs.Bytes.{big_endian}
use Rattle.job_record.specs.Versions.{Format, versions}
use Rattle.job_record.specs.Fields.{wagons, entry_count, entry_at, row, column, value, entries, signed_from, double_from, pins_place, pin_wagon, pin_store, free_state, pin_count_by, free_by, settings_by, rank_at, rule_at, rule_number_at, most_at, minimum_at, objective_tolerance_at, stationarity_tolerance_at, width_at, start_at, rank_of, start_count_of, draws_after}
use Rattle.job_record.specs.Number.{job_number}
use Rattle.job_record.specs.Kinds.{rule_code, start_code}
use Rattle.job_record.specs.declared.job.Job.{Job}

-- how many pins, and the wagons that no pin holds
abbrev pub pin_count : List ℕ → ℕ
pin_count s = pin_count_by versions s

abbrev pub free_wagons : List ℕ → ℕ
free_wagons s = free_by versions s

-- where the settings, the start's doubles and the draw count stand
abbrev pub settings_place : List ℕ → ℕ
settings_place s = settings_by versions s

unfoldable pub draws_by : Format → List ℕ → ℕ
draws_by format s = draws_after s (free_by format s) (settings_by format s)

abbrev pub draws_place : List ℕ → ℕ
draws_place s = draws_by versions s

-- H and c
abbrev pub job_table : List ℕ → Table
job_table s = entries s (entry_count s)

abbrev pub job_cost : List ℕ → ℕ → ℤ
job_cost s = signed_from s (entry_at (entry_count s))

-- the pins: wagon and store of each
abbrev pub job_pin_wagon : List ℕ → ℕ → ℕ
job_pin_wagon s = pin_wagon s (pins_place s + 1)

abbrev pub job_pin_store : List ℕ → ℕ → ℕ
job_pin_store s = pin_store s (pins_place s + 1)

-- a byte a wagon: every wagon free, then each of so many pins that start at `at` put in, its store at its wagon
unfoldable pub states_of : List ℕ → ℕ → ℕ → ℕ → List ℕ
states_of s n at count = put_each (pin_wagon s at) (pin_store s at) count (replicate n free_state)

unfoldable pub job_states : List ℕ → List ℕ
job_states s = states_of s (wagons s) (pins_place s + 1) (pin_count s)

-- the fields of one number each, of any record
pub record JobValues : Type 0 where
  pub n : ℕ
  pub count : ℕ
  pub pins : ℕ
  pub free : ℕ
  pub rank : ℕ
  pub rule : ℕ
  pub rule_number : Float
  pub most : ℕ
  pub minimum : ℕ
  pub objective_tolerance : Float
  pub stationarity_tolerance : Float
  pub width : ℕ
  pub start : ℕ
  pub draw_count : ℕ

-- as a job that was judged holds them
abbrev pub values_in : Job → JobValues
values_in j =
    record {
      n = j.n;
      count = j.count;
      pins = j.pins;
      free = j.free;
      rank = j.rank;
      rule = rule_code j.rule;
      rule_number = j.rule_number;
      most = j.most;
      minimum = j.minimum;
      objective_tolerance = j.objective_tolerance;
      stationarity_tolerance = j.stationarity_tolerance;
      width = j.width;
      start = start_code j.start;
      draw_count = j.draw_count;
    }

-- by a table of versions: how many wagons, entries, pins and free wagons; the settings, as far as they are one number each: the rank as given,
-- the rule with its number, the start's kind
unfoldable pub job_by : Format → List ℕ → JobValues
job_by format s =
    record {
      n = wagons s;
      count = entry_count s;
      pins = pin_count_by format s;
      free = free_by format s;
      rank = rank_at s (settings_by format s);
      rule = rule_at s (settings_by format s);
      rule_number = rule_number_at s (settings_by format s);
      most = most_at s (settings_by format s);
      minimum = minimum_at s (settings_by format s);
      objective_tolerance = objective_tolerance_at s (settings_by format s);
      stationarity_tolerance = stationarity_tolerance_at s (settings_by format s);
      width = width_at s (settings_by format s);
      start = start_at s (settings_by format s);
      draw_count = big_endian s (draws_by format s) 2;
    }

abbrev pub job_of : List ℕ → JobValues
job_of s = job_by versions s

-- the rank that the job's means, for its free wagons
abbrev pub job_rank : List ℕ → ℕ
job_rank s = rank_of s (free_wagons s) (settings_place s)

-- the start's doubles, and the draws' numbers
abbrev pub job_start_count : List ℕ → ℕ
job_start_count s = start_count_of s (free_wagons s) (settings_place s)

abbrev pub job_start : List ℕ → ℕ → Float
job_start s = double_from s (settings_place s + 36)

abbrev pub job_drawn : List ℕ → ℕ
job_drawn s = big_endian s (draws_place s) 2 * job_rank s

abbrev pub job_draw : List ℕ → ℕ → Float
job_draw s = double_from s (draws_place s + 2)

-- lists with room for the H and c of any job
pub record TableRoom (rows cols : List ℕ) (values c : List ℤ) : Type 0 where
  pub rows_room : most_entries ≤ length rows
  pub cols_room : most_entries ≤ length cols
  pub values_room : most_entries ≤ length values
  pub c_room : most_wagons ≤ length c

-- so many entries, stored over the fronts of lent lists
pub record Entered (s : List ℕ) (count : ℕ) (rows₀ cols₀ : List ℕ) (values₀ : List ℤ) (rows cols : List ℕ) (values : List ℤ) : Type 0 where
  pub in_rows : rows ≡ fill (row s) count rows₀
  pub in_cols : cols ≡ fill (column s) count cols₀
  pub in_values : values ≡ fill (value s) count values₀

-- H and c, stored over the fronts of lent lists
pub record Stored (s rows₀ cols₀ : List ℕ) (values₀ c₀ : List ℤ) (rows cols : List ℕ) (values c : List ℤ) : Type 0 where
  pub in_rows : rows ≡ fill (row s) (entry_count s) rows₀
  pub in_cols : cols ≡ fill (column s) (entry_count s) cols₀
  pub in_values : values ≡ fill (value s) (entry_count s) values₀
  pub in_c : c ≡ fill (job_cost s) (wagons s) c₀

-- a job, judged: its number, and H and c stored where it is accepted
pub record Judged (s rows₀ cols₀ : List ℕ) (values₀ c₀ : List ℤ) (number : ℕ) (rows cols : List ℕ) (values c : List ℤ) : Type 0 where
  pub numbered : number ≡ job_number s
  pub kept : number ≡ 0 → Stored s rows₀ cols₀ values₀ c₀ rows cols values c
