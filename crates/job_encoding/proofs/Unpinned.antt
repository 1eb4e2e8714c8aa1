-- A job of version 2 with no pins is the job of version 1.
--     rank_back, start_count_back, drawn_back    the rank that is meant, the start's doubles and the draws' numbers, read back
--     no_pins_alike                              no pins: version 2 holds what version 1 holds
-- Assumes nothing.
use Prim.Native.Nat.{ℕ, ◌<◌}
use mathlib.Core.Path.{◌≡◌, sym, ap, ◌∙◌}
use native.Mathlib.Omega.{arith}
use lib.ListN.{length, replicate}
use Rattle.job_record.specs.Fields.{wagons, free_state}
use Rattle.job_record.specs.Number.{job_number}
use Rattle.job_record.specs.Values.{states_of, job_states, job_rank, job_start_count, job_drawn}
use Rattle.job_record.proofs.Pinning.{states_begin}
use Rattle.job_encoding.specs.Encode.{Values, job_bytes, in_version}
use Rattle.job_encoding.specs.Allowed.{rank_in, Typed, Allowed}
use Rattle.job_encoding.specs.Alike.{Alike}
use Rattle.job_encoding.proofs.Back.{wagons_back, count_back, row_back, column_back, value_back, cost_back, pin_count_back, free_back, rank_is, most_is, start_is, drawn_is, job_back, start_back, draw_back}
use Rattle.job_encoding.proofs.Accepted.{accepted_back}

module _ (v : Values) (held : Typed v) where
  pub rank_back : job_rank (job_bytes v) ≡ rank_in v
  rank_back = rw (free_back v held, rank_is v held)

  pub start_count_back : job_start_count (job_bytes v) ≡ length v.start_numbers
  start_count_back = rw (start_is v held, free_back v held, rank_is v held, most_is v held, ← held.started)

  pub drawn_back : Allowed v → job_drawn (job_bytes v) ≡ length v.draws
  drawn_back ok = rw (drawn_is v held, rank_back) (sym ok.draws)

  states_none : length v.pins ≡ 0 → job_states (job_bytes v) ≡ replicate (length v.c) free_state
  unfolding job_states
  states_none e =
      ap (states_of (job_bytes v) (wagons (job_bytes v)) _) (pin_count_back v held ∙ e) ∙ sym (states_begin (job_bytes v) (wagons (job_bytes v)) _)
      ∙ ap (λ (n : ℕ). replicate n free_state) (wagons_back v held)

module _ (v : Values) (one : Typed (in_version 1 v)) (two : Typed (in_version 2 v)) (ok-one : Allowed (in_version 1 v)) (ok-two : Allowed (in_version 2 v)) (none : length v.pins ≡ 0) where
  abbrev first : Values
  first = in_version 1 v

  abbrev second : Values
  second = in_version 2 v

  pub no_pins_number : job_number (job_bytes (in_version 2 v)) ≡ job_number (job_bytes (in_version 1 v))
  no_pins_number = accepted_back second two ok-two ∙ sym (accepted_back first one ok-one)

  pub no_pins_alike : Alike (job_bytes (in_version 2 v)) (job_bytes (in_version 1 v))
  no_pins_alike =
      record {
        job = job_back second two ∙ sym (job_back first one);
        rows = λ k l. let m : k < length v.entries = omega (arith, count_back second two) in row_back second two k m ∙ sym (row_back first one k m);
        columns = λ k l. let m : k < length v.entries = omega (arith, count_back second two) in column_back second two k m ∙ sym (column_back first one k m);
        values = λ k l. let m : k < length v.entries = omega (arith, count_back second two) in value_back second two k m ∙ sym (value_back first one k m);
        costs = λ i l. let m : i < length v.c = omega (arith, wagons_back second two) in cost_back second two i m ∙ sym (cost_back first one i m);
        states = states_none second two none ∙ sym (states_none first one none);
        rank = rank_back second two ∙ sym (rank_back first one);
        start_count = start_count_back second two ∙ sym (start_count_back first one);
        start = λ i l. let m : i < length v.start_numbers = omega (arith, start_count_back second two) in start_back second two i m ∙ sym (start_back first one i m);
        drawn = drawn_back second two ok-two ∙ sym (drawn_back first one ok-one);
        draw = λ i l. let m : i < length v.draws = omega (arith, drawn_back second two ok-two) in draw_back second two i m ∙ sym (draw_back first one i m);
      }
