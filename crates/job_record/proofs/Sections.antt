-- What holds of a section that is not refused.
use Prim.Native.Nat.{ℕ, ◌+◌, ◌*◌, ◌≤◌}
use mathlib.Core.Path.{◌≡◌, sym, ◌∙◌}
use mathlib.Core.Bool.{Bool, true, false, cond}
use mathlib.Core.List.{List}
use native.Mathlib.Nat.{le_antisymm, pos_of_ne-zero}
use native.Mathlib.Omega.{arith}
use borrow.Author.Tests.{ltb-false, eqb-true, eqb-false, not-false, eq-eqb}
use lib.Dec.{ltb}
use lib.ListN.{length}
use Rattle.laws.specs.Refusal.{first}
use Rattle.laws.proofs.Refusal.{clear, both, first_head, first_rest}
use Rattle.laws.proofs.Following.{first_append}
use Rattle.limits.specs.Limits.{most_wagons, small_wagons, most_entries, most_rank, most_width, most_draws, last_rule, last_start, most_bytes}
use Rattle.job_reader.specs.Bytes.{big_endian}
use Rattle.run_limits.specs.Momentum.{is_momentum}
use Rattle.job_record.specs.Versions.{known, versions}
use Rattle.job_record.specs.Fields.{rest_length, version, wagons, entry_count, rank_at, rule_at, rule_number_at, width_at, start_at, rank_of, draws_after}
use Rattle.job_record.specs.Number.{frame_number, version_number, head_numbers, momentum_number, settings_numbers, draws_numbers, run_numbers}
use Rattle.job_record.proofs.Bounded.{bounded_passed}

-- no version has more wagons than the library allows
small_or_most : (large : Bool) → cond large most_wagons small_wagons ≤ most_wagons
small_or_most true = omega arith
small_or_most false = omega arith

pub most_wagons_lem : (v : ℕ) → versions.most v ≤ most_wagons
unfolding versions
most_wagons_lem v = small_or_most (ltb 2 v)

-- the frame, the version, n and the entry count
pub record Head (s : List ℕ) : Type 0 where
  pub small : length s ≤ most_bytes
  pub framed : 4 + rest_length s ≡ length s
  pub there : 8 ≤ length s
  pub versioned : known versions (version s) ≡ true
  pub few_of : wagons s ≤ versions.most (version s)
  pub few : wagons s ≤ most_wagons
  pub short : entry_count s ≤ most_entries

pub head : (s : List ℕ) → first (head_numbers versions s) ≡ 0 → Head s
unfolding head_numbers frame_number version_number
head s e =
    let frame = first_head _ _ e in
    let version = first_head _ _ (first_rest _ _ e) in
    let later = first_rest _ _ (first_rest _ _ e) in
    let n = bounded_passed s 5 1 (versions.most (big_endian s 4 1)) 12 (first_head _ _ later) in
    let count = bounded_passed s 6 2 most_entries 12 (first_head _ _ (first_rest _ _ later)) in
    record {
      small = ltb-false _ _ (clear _ 10 (first_head _ _ frame));
      framed = eqb-true _ _ (not-false _ (clear _ 10 (first_head _ _ (first_rest _ _ (first_rest _ _ frame)))));
      there = count.0;
      versioned = not-false _ (clear _ 11 (first_head _ _ (first_rest _ _ version)));
      few_of = n.1;
      few = omega (arith, most_wagons_lem (big_endian s 4 1));
      short = count.1;
    }

-- the settings
pub record Settings (s : List ℕ) (at : ℕ) : Type 0 where
  pub there : at + 36 ≤ length s
  pub rank : rank_at s at ≤ most_rank
  pub rule : rule_at s at ≤ last_rule
  pub momentum : rule_at s at ≡ 4 → is_momentum (rule_number_at s at) ≡ true
  pub width : width_at s at ≤ most_width
  pub start : start_at s at ≤ last_start
  pub given : start_at s at ≡ 1 → rank_at s at ≡ 0 → ⊥

pub settings : (s : List ℕ) (at : ℕ) → first (settings_numbers s at) ≡ 0 → Settings s at
unfolding settings_numbers momentum_number
settings s at e₁ =
    let e₂ = first_rest _ _ e₁ in
    let e₃ = first_rest _ _ e₂ in
    let e₄ = first_rest _ _ e₃ in
    let e₅ = first_rest _ _ e₄ in
    let e₆ = first_rest _ _ e₅ in
    let e₇ = first_rest _ _ e₆ in
    let start = bounded_passed s (at + 35) 1 last_start 18 (first_head _ _ e₆) in
    record {
      there = omega arith;
      rank = (bounded_passed s at 1 most_rank 16 (first_head _ _ e₁)).1;
      rule = (bounded_passed s (at + 1) 1 last_rule 17 (first_head _ _ e₂)).1;
      momentum = λ is. not-false _ (rw (eq-eqb _ _ is) at (clear _ 17 (first_head _ _ (first_rest _ _ (first_head _ _ e₃)))));
      width = (bounded_passed s (at + 34) 1 most_width 18 (first_head _ _ e₅)).1;
      start = start.1;
      given = λ is none. eqb-false _ _ (rw (eq-eqb _ _ is) at (clear _ 16 (first_head _ _ e₇))) none;
    }

-- the start and the draws
pub record Draws (s : List ℕ) (at rank : ℕ) : Type 0 where
  pub there : at + 2 ≤ length s
  pub some : 1 ≤ big_endian s at 2
  pub few : big_endian s at 2 ≤ most_draws
  pub end : at + 2 + big_endian s at 2 * rank * 8 ≡ length s

pub draws : (s : List ℕ) (at rank : ℕ) → first (draws_numbers s at rank) ≡ 0 → Draws s at rank
unfolding draws_numbers
draws s at rank e₁ =
    let e₂ = first_rest _ _ e₁ in
    let e₃ = first_rest _ _ e₂ in
    let e₄ = first_rest _ _ e₃ in
    let count = bounded_passed s at 2 most_draws 18 (first_head _ _ e₂) in
    let none = eqb-false (big_endian s at 2) 0 (clear _ 18 (first_head _ _ e₃)) in
    let reached = ltb-false (length s) (at + 2 + big_endian s at 2 * rank * 8) (clear _ 10 (first_head _ _ e₄)) in
    let over = ltb-false (at + 2 + big_endian s at 2 * rank * 8) (length s) (clear _ 10 (first_head _ _ (first_rest _ _ e₄))) in
    record { there = count.0; some = pos_of_ne-zero none; few = count.1; end = le_antisymm reached over }

pub run : (s : List ℕ) (n at : ℕ) → first (run_numbers s n at) ≡ 0 → Settings s at × Draws s (draws_after s n at) (rank_of s n at)
unfolding run_numbers
run s n at e =
    let parts = both _ _ (sym (first_append (settings_numbers s at) (draws_numbers s (draws_after s n at) (rank_of s n at))) ∙ e) in
    (settings s at parts.0, draws s _ _ parts.1)
