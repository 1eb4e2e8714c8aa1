-- A job record before there were pins (01 alone), kept to say what a job of version 1 still is; and one before there were larger houses.
use Rattle.std.specs.Prelude.{ℕ, ◌+◌, ◌*◌, not, List, [], ◌∷◌, ◌++◌, ◌≡◌, eqb, replicate}
use Rattle.laws.specs.Refusal.{◌if◌, first}
use Rattle.limits.specs.Limits.{small_wagons, most_entries}
use Rattle.job_reader.specs.Bytes.{big_endian}
use Rattle.job_record.specs.Versions.{one_version, two_versions}
use Rattle.job_record.specs.Fields.{version, wagons, entry_count, costs_end, double_from, pins_place, free_state, pin_count_by, free_by, settings_by, rank_of, start_count_of, draws_after}
use Rattle.job_record.specs.Number.{ends_before, bounded_number, frame_number, entries_numbers, costs_numbers, run_numbers, number_by, job_number}
use Rattle.job_record.specs.Values.{pin_count, free_wagons, settings_place, draws_by, draws_place, states_of, job_states, job_by, job_of, job_rank, job_start_count, job_start, job_drawn, job_draw}

-- where the settings stood: behind c; `pins_place`, the same number today, says where pins stand
abbrev pub base_settings : List ℕ → ℕ
base_settings s = costs_end (wagons s) (entry_count s)

-- 12 for every version but 1, n at most 127, the settings behind c, and all wagons run
unfoldable pub base_number : List ℕ → ℕ
base_number s =
    first
    ((frame_number s
    ∷ first (11 if ends_before s 5 ∷ 12 if not (eqb (version s) 1) ∷ [])
    ∷ bounded_number s 5 1 small_wagons 13
    ∷ bounded_number s 6 2 most_entries 13
    ∷ [])
    ++ (entries_numbers s (wagons s) (entry_count s)
    ++ (costs_numbers s (wagons s) (entry_count s)
    ++ run_numbers s (wagons s) (base_settings s))))

-- where the draw count stood
abbrev pub base_draws : List ℕ → ℕ
base_draws s = draws_after s (wagons s) (base_settings s)

-- number and fields are those of before
pub record AsBefore (s : List ℕ) : Type 0 where
  pub number : job_number s ≡ base_number s
  pub pins : pin_count s ≡ 0
  pub free : free_wagons s ≡ wagons s
  pub states : job_states s ≡ replicate (wagons s) free_state
  pub settings : settings_place s ≡ base_settings s
  pub draws : draws_place s ≡ base_draws s
  pub job : job_of s ≡ job_by one_version s
  pub rank : job_rank s ≡ rank_of s (wagons s) (base_settings s)
  pub start_count : job_start_count s ≡ start_count_of s (wagons s) (base_settings s)
  pub start : job_start s ≡ double_from s (base_settings s + 36)
  pub drawn : job_drawn s ≡ big_endian s (base_draws s) 2 * rank_of s (wagons s) (base_settings s)
  pub draw : job_draw s ≡ double_from s (base_draws s + 2)

-- number and fields, all that an answer reads of a job, are those by the table with versions 1 and 2
pub record AsTwo (s : List ℕ) : Type 0 where
  pub number : job_number s ≡ number_by two_versions s
  pub pins : pin_count s ≡ pin_count_by two_versions s
  pub free : free_wagons s ≡ free_by two_versions s
  pub states : job_states s ≡ states_of s (wagons s) (pins_place s + 1) (pin_count_by two_versions s)
  pub settings : settings_place s ≡ settings_by two_versions s
  pub draws : draws_place s ≡ draws_by two_versions s
  pub job : job_of s ≡ job_by two_versions s
  pub rank : job_rank s ≡ rank_of s (free_by two_versions s) (settings_by two_versions s)
  pub start_count : job_start_count s ≡ start_count_of s (free_by two_versions s) (settings_by two_versions s)
  pub start : job_start s ≡ double_from s (settings_by two_versions s + 36)
  pub drawn : job_drawn s ≡ big_endian s (draws_by two_versions s) 2 * rank_of s (free_by two_versions s) (settings_by two_versions s)
  pub draw : job_draw s ≡ double_from s (draws_by two_versions s + 2)
