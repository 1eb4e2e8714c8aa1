-- 01's example, written from its values: the bytes that `job_record` reads and that `record_call` answers.
-- Assumes nothing.
use Prim.Native.Nat.{ℕ, zero, suc, ◌+◌, ◌<◌, ◌≤◌}
use mathlib.Core.Bool.{false}
use mathlib.Core.Path.{◌≡◌, refl}
use mathlib.Core.List.{List, [], ◌∷◌}
use native.Mathlib.Omega.{arith}
use lib.Dec.{T, lit<, lit≤}
use lib.Ieee.{Float, nan, binary64, fits, to_bits, of_bits, of_fields, odd, climb, size, span}
use lib.IntN.{ℤ}
use lib.ListN.{length, get_or}
use Rattle.laws.specs.Refusal.{or_else, first, any_of}
use Rattle.laws.specs.Lists.{any_below}
use Rattle.laws.specs.Sum.{total}
use Rattle.ieee.specs.Floats.{zero64, one64}
use Rattle.tables.specs.Check.{bad_size, before, bad_entry, bad_order, unmirrored, hall_number}
use Rattle.tables.proofs.Checks.{hall_accepted}
use Rattle.tables.specs.Rank.{root_from, least_root, default_rank}
use Rattle.run_limits.specs.Rank.{rank_meant}
use Rattle.run_limits.specs.Start.{start_length}
use Rattle.job_reader.specs.Encode.{bytes_of}
use Rattle.job_record.specs.Versions.{versions}
use Rattle.job_record.proofs.Examples.{example, pinned}
use Rattle.job_encoding.specs.Encode.{Entry, Pin, each, entry_bytes, signed_bytes, double_bytes, pin_bytes, pins_bytes, settings_bytes, body_bytes, head_bytes, job_bytes}
use Rattle.job_encoding.specs.Allowed.{pin_of, free_in, rank_in, Typed, Allowed}
use Rattle.job_encoding.specs.Examples.{example_by, example_values, pinned_values}
use Rattle.job_encoding.proofs.Limits.{limits_held}

pub example_written : job_bytes example_values ≡ example
unfolding example job_bytes head_bytes body_bytes versions pins_bytes settings_bytes each entry_bytes signed_bytes double_bytes bytes_of of_bits of_fields odd to_bits size climb span
example_written = refl

-- it is held and allowed
pub example_allowed : Allowed example_values
unfolding job_bytes head_bytes body_bytes versions pins_bytes settings_bytes each entry_bytes signed_bytes double_bytes bytes_of of_bits of_fields odd to_bits size climb span hall_number first or_else bad_size bad_order before bad_entry unmirrored any_of any_below total root_from least_root default_rank rank_meant
example_allowed =
    record {
      known = refl;
      hall = hall_accepted refl;
      within = λ k l. absurd (omega arith);
      once = λ j k m l e. omega arith;
      stores = λ k l. absurd (omega arith);
      rank = lit≤ tt;
      rule = lit≤ tt;
      momentum = λ e. absurd (omega arith);
      width = lit≤ tt;
      start = lit≤ tt;
      given = λ e z. omega arith;
      some = lit≤ tt;
      few = lit≤ tt;
      draws = refl;
      small = lit≤ tt;
    }

both : (x y : Float) → T (fits binary64 x) → T (fits binary64 y) → (i : ℕ) → i < 2 → T (fits binary64 (get_or (x ∷ y ∷ []) i nan))
both x y a b zero l = a
both x y a b (suc zero) l = b
both x y a b (suc (suc i)) l = absurd (omega arith)

-- an allowed job of these settings, whose start is as long as its kind asks, is held
held_by : (version : ℕ) (entries : List Entry) (c : List ℤ) (pins : List Pin) → let v = example_by version entries c pins in Allowed v → (versions.pinned version ≡ false → length pins ≡ 0) → 2 ≡ start_length 2 (free_in v + 1) (rank_in v) 0 → Typed v
unfolding of_bits of_fields odd to_bits size climb span fits
held_by version entries c pins ok carried started =
    limits_held (example_by version entries c pins) ok.known ok.hall carried ok.within ok.once ok.stores ok.rank ok.rule ok.momentum (lit< tt) (lit< tt) ok.width ok.start ok.given started ok.some ok.few ok.draws ok.small
    tt tt tt (both one64 one64 tt tt) (both one64 zero64 tt tt)

pub example_held : Typed example_values
unfolding versions root_from least_root default_rank rank_meant start_length
example_held = held_by _ _ _ _ example_allowed (λ e. refl) refl

-- ---- version 2

one : (P : ℕ → Type 0) → P 0 → (k : ℕ) → k < 1 → P k
one P p zero l = p
one P p (suc k) l = absurd (omega arith)

pub pinned_written : job_bytes pinned_values ≡ pinned
unfolding pinned job_bytes head_bytes body_bytes versions pin_bytes pins_bytes settings_bytes each entry_bytes signed_bytes double_bytes bytes_of of_bits of_fields odd to_bits size climb span
pinned_written = refl

-- written out as above: a lemma for both would have to state the seven fields that hang on the entries, c and the pins
pub pinned_allowed : Allowed pinned_values
unfolding job_bytes head_bytes body_bytes versions pin_bytes pins_bytes settings_bytes each entry_bytes signed_bytes double_bytes bytes_of of_bits of_fields odd to_bits size climb span hall_number first or_else bad_size bad_order before bad_entry unmirrored any_of any_below total root_from least_root default_rank rank_meant
pinned_allowed =
    record {
      known = refl;
      hall = hall_accepted refl;
      within = λ k l. one (λ k. (pin_of pinned_values k).wagon < 2) (lit< tt) k l;
      once = λ j k m l e. omega arith;
      stores = λ k l. one (λ k. (pin_of pinned_values k).store ≤ 1) (lit≤ tt) k l;
      rank = lit≤ tt;
      rule = lit≤ tt;
      momentum = λ e. absurd (omega arith);
      width = lit≤ tt;
      start = lit≤ tt;
      given = λ e z. omega arith;
      some = lit≤ tt;
      few = lit≤ tt;
      draws = refl;
      small = lit≤ tt;
    }

pub pinned_held : Typed pinned_values
unfolding versions root_from least_root default_rank rank_meant start_length
pinned_held = held_by _ _ _ _ pinned_allowed (λ e. cc e) refl
