-- Two records that hold the same job: H, c, states, settings, start and draws.
use Rattle.std.specs.Prelude.{ℕ, ◌<◌, List, ◌≡◌}
use Rattle.job_record.specs.Fields.{wagons, entry_count, row, column, value}
use Rattle.job_record.specs.Values.{job_of, job_cost, job_states, job_rank, job_start_count, job_start, job_drawn, job_draw}

pub record Alike (s s' : List ℕ) : Type 0 where
  pub job : job_of s ≡ job_of s'
  pub rows : (k : ℕ) → k < entry_count s → row s k ≡ row s' k
  pub columns : (k : ℕ) → k < entry_count s → column s k ≡ column s' k
  pub values : (k : ℕ) → k < entry_count s → value s k ≡ value s' k
  pub costs : (i : ℕ) → i < wagons s → job_cost s i ≡ job_cost s' i
  pub states : job_states s ≡ job_states s'
  pub rank : job_rank s ≡ job_rank s'
  pub start_count : job_start_count s ≡ job_start_count s'
  pub start : (i : ℕ) → i < job_start_count s → job_start s i ≡ job_start s' i
  pub drawn : job_drawn s ≡ job_drawn s'
  pub draw : (i : ℕ) → i < job_drawn s → job_draw s i ≡ job_draw s' i
