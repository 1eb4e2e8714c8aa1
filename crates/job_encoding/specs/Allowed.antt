-- Which values a job record holds, and which of them 01 and 02 accept.
use Rattle.std.specs.Prelude.{ℕ, ◌+◌, ◌-◌, ◌*◌, ◌^◌, ◌<◌, ◌≤◌, ◌≡◌, true, false, T, length, get_or, ℤ, pos}
use Rattle.std.specs.Float.{nan, binary64}
use Rattle.std.specs.Float.Ieee.{fits}
use Rattle.std.specs.Int.{w64}
use Rattle.std.proofs.Common.{SFits}
use Rattle.tables.specs.Table.{Table}
use Rattle.limits.specs.Limits.{most_entries, most_magnitude, most_rank, most_width, most_draws, last_rule, last_start, most_bytes}
use Rattle.tables.specs.Check.{Hall}
use Rattle.run_limits.specs.Rank.{rank_meant}
use Rattle.run_limits.specs.Start.{start_length}
use Rattle.run_limits.specs.Momentum.{is_momentum}
use Rattle.job_record.specs.Versions.{known, versions}
use Rattle.job_record.specs.Fields.{last_store}
use Rattle.job_encoding.specs.Encode.{Entry, Pin, Values, job_bytes}

-- entry k of H and c_i
abbrev pub no_entry : Entry
no_entry = record { row = 0; column = 0; value = pos 0 }

abbrev pub entry_of : Values → ℕ → Entry
entry_of v k = get_or v.entries k no_entry

abbrev pub cost_in : Values → ℕ → ℤ
cost_in v i = get_or v.c i (pos 0)

-- H as a table
abbrev pub table_in : Values → Table
table_in v = record { count = length v.entries; row = λ k. (entry_of v k).row; column = λ k. (entry_of v k).column; value = λ k. (entry_of v k).value }

-- pin k, and the wagons that no pin holds
abbrev pub no_pin : Pin
no_pin = record { wagon = 0; store = 0 }

abbrev pub pin_of : Values → ℕ → Pin
pin_of v k = get_or v.pins k no_pin

abbrev pub free_in : Values → ℕ
free_in v = length v.c - length v.pins

-- the rank that the given one means, for the free wagons
abbrev pub rank_in : Values → ℕ
rank_in v = rank_meant (free_in v + 1) v.rank

-- each value is of its field's type; there are pins only in a version that carries them; the start has as many doubles as its kind asks
pub record Typed (v : Values) : Type 0 where
  pub version : v.version < 2 ^ 8
  pub n : length v.c < 2 ^ 8
  pub count : length v.entries < 2 ^ 16
  pub rows : (k : ℕ) → k < length v.entries → (entry_of v k).row < 2 ^ 8
  pub columns : (k : ℕ) → k < length v.entries → (entry_of v k).column < 2 ^ 8
  pub values : (k : ℕ) → k < length v.entries → SFits w64 (entry_of v k).value
  pub costs : (i : ℕ) → i < length v.c → SFits w64 (cost_in v i)
  pub pins : length v.pins < 2 ^ 8
  pub pinned : versions.pinned v.version ≡ false → length v.pins ≡ 0
  pub wagons : (k : ℕ) → k < length v.pins → (pin_of v k).wagon < 2 ^ 8
  pub stores : (k : ℕ) → k < length v.pins → (pin_of v k).store < 2 ^ 8
  pub rank : v.rank < 2 ^ 8
  pub rule : v.rule < 2 ^ 8
  pub rule_number : T (fits binary64 v.rule_number)
  pub most : v.most < 2 ^ 32
  pub minimum : v.minimum < 2 ^ 32
  pub objective : T (fits binary64 v.objective_tolerance)
  pub stationarity : T (fits binary64 v.stationarity_tolerance)
  pub width : v.width < 2 ^ 8
  pub start : v.start < 2 ^ 8
  pub numbers : (i : ℕ) → i < length v.start_numbers → T (fits binary64 (get_or v.start_numbers i nan))
  pub drawn : v.draw_count < 2 ^ 16
  pub draws : (i : ℕ) → i < length v.draws → T (fits binary64 (get_or v.draws i nan))
  pub started : length v.start_numbers ≡ start_length v.start (free_in v + 1) (rank_in v) v.most

-- what 01 asks of them, and 02 of the pins: a known version and its most wagons; each pin's wagon below n, no wagon twice, stores 0 and 1
pub record Allowed (v : Values) : Type 0 where
  pub known : known versions v.version ≡ true
  pub hall : Hall (versions.most v.version) most_entries most_magnitude (length v.c) (table_in v) (cost_in v)
  pub within : (k : ℕ) → k < length v.pins → (pin_of v k).wagon < length v.c
  pub once : (j k : ℕ) → j < k → k < length v.pins → (pin_of v j).wagon ≡ (pin_of v k).wagon → ⊥
  pub stores : (k : ℕ) → k < length v.pins → (pin_of v k).store ≤ last_store
  pub rank : v.rank ≤ most_rank
  pub rule : v.rule ≤ last_rule
  pub momentum : v.rule ≡ 4 → is_momentum v.rule_number ≡ true
  pub width : v.width ≤ most_width
  pub start : v.start ≤ last_start
  pub given : v.start ≡ 1 → v.rank ≡ 0 → ⊥
  pub some : 1 ≤ v.draw_count
  pub few : v.draw_count ≤ most_draws
  pub draws : length v.draws ≡ v.draw_count * rank_in v
  pub small : length (job_bytes v) ≤ most_bytes
