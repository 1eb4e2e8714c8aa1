-- A job of version 1 has the number and the fields that it had before there were pins, and one of version 1 or 2 those that it had before there
-- were larger houses.
--     number_alike       two tables that say the same of a job's version give the same number
--     as_before          of version 1: number and fields
--     as_two             of any version but 3: number and fields by the table with versions 1 and 2
--     not_two            of any version but 2: the number by that table is the one by the table with version 1 alone
--     one_version_lem    the table with version 1 alone gives the number of before
-- Assumes nothing.
use Prim.Native.Nat.{ℕ, zero, suc, ◌+◌, ◌-◌, ◌*◌, ◌≤◌}
use mathlib.Core.Path.{◌≡◌, refl, sym, ap, ap₂, ◌∙◌}
use mathlib.Core.Bool.{Bool, true, false, ◌&&◌}
use mathlib.Core.List.{List}
use native.Mathlib.Omega.{arith}
use borrow.Author.Tests.{le-leb, lt-leb, le-ltb, leb-true, ne_eqb, eqb-true, not-false}
use Rattle.std.proofs.lemmas.Bool.Decides.{nat_tests}
use lib.Dec.{eqb, leb, ltb}
use Rattle.laws.specs.Refusal.{or_else, first}
use Rattle.std.proofs.lemmas.Bool.{and_parts}
use Rattle.laws.proofs.Refusal.{clear, both, first_head, first_rest}
use Rattle.limits.specs.Limits.{most_entries}
use Rattle.job_reader.specs.Bytes.{big_endian}
use Rattle.job_record.specs.Versions.{Format, known, one_version, two_versions, three_versions, versions}
use Rattle.job_record.specs.Fields.{version, wagons, entry_count, pins_place, double_from, pin_count_by, free_by, settings_by, rank_of, start_count_of, draws_after}
use Rattle.job_record.specs.Number.{bounded_number, frame_number, version_number, head_numbers, entries_numbers, costs_numbers, pins_numbers_by, run_numbers, number_by}
use Rattle.job_record.specs.Values.{free_wagons, settings_place, draws_by, draws_place, states_of, job_states, job_by}
use Rattle.job_record.specs.Base.{base_number, base_settings, base_draws, AsBefore, AsTwo}
use Rattle.job_record.proofs.Whole.{parts, stops}
use Rattle.job_record.proofs.Accepted.{unpinned, states_none}

-- ---- the table with version 1 alone

only_one : (v : ℕ) → known one_version v ≡ eqb v 1
only_one zero = refl
only_one (suc zero) = refl
only_one (suc (suc v)) = rw (le-leb 1 (suc (suc v)) (omega arith), lt-leb (suc (suc v)) 1 (omega arith), ne_eqb (suc (suc v)) 1 (λ e. omega arith))

pub one_version_lem : (s : List ℕ) → number_by one_version s ≡ base_number s
unfolding number_by head_numbers version_number pins_numbers_by free_by pin_count_by settings_by base_number
one_version_lem s = let e : wagons s - 0 ≡ wagons s = omega arith in rw (only_one (version s), e)

-- ---- tables that say the same of a version

pub record Alike (f g : Format) (v : ℕ) : Type 0 where
  pub same_known : known f v ≡ known g v
  pub same_most : known g v ≡ true → f.most v ≡ g.most v
  pub same_pinned : known g v ≡ true → f.pinned v ≡ g.pinned v

-- a version that isn't refused, and a head, has a known version
version_known : (format : Format) (s : List ℕ) → version_number format s ≡ 0 → known format (version s) ≡ true
unfolding version_number
version_known format s e = not-false _ (clear _ 11 (first_head _ _ (first_rest _ _ e)))

head_known : (format : Format) (s : List ℕ) → first (head_numbers format s) ≡ 0 → known format (version s) ≡ true
unfolding head_numbers
head_known format s e = version_known format s (first_head _ _ (first_rest _ _ e))

-- what rests on the pins alone
module _ (f g : Format) (s : List ℕ) (p : f.pinned (version s) ≡ g.pinned (version s)) where
  pins_same : pins_numbers_by f s ≡ pins_numbers_by g s
  unfolding pins_numbers_by
  pins_same = rw p

  count_same : pin_count_by f s ≡ pin_count_by g s
  unfolding pin_count_by
  count_same = rw p

  free_same : free_by f s ≡ free_by g s
  unfolding free_by
  free_same = ap (λ (p : ℕ). wagons s - p) count_same

  settings_same : settings_by f s ≡ settings_by g s
  unfolding settings_by
  settings_same = rw (p, count_same)

  draws_same : draws_by f s ≡ draws_by g s
  unfolding draws_by
  draws_same = rw (free_same, settings_same)

  job_same : job_by f s ≡ job_by g s
  unfolding job_by draws_by
  job_same = rw (count_same, free_same, settings_same)

module _ (f g : Format) (s : List ℕ) (a : Alike f g (version s)) where
  version_same : version_number f s ≡ version_number g s
  unfolding version_number
  version_same = rw a.same_known

  most_same : version_number g s ≡ 0 → bounded_number s 5 1 (f.most (version s)) 13 ≡ bounded_number s 5 1 (g.most (version s)) 13
  most_same z = ap (λ (k : ℕ). bounded_number s 5 1 k 13) (a.same_most (version_known g s z))

  head_same : first (head_numbers f s) ≡ first (head_numbers g s)
  unfolding head_numbers first
  head_same =
      let rest : ℕ → ℕ = λ k. or_else k (or_else (bounded_number s 6 2 most_entries 13) 0) in
      ap (or_else (frame_number s))
      (ap (λ (k : ℕ). or_else k (rest (bounded_number s 5 1 (f.most (version s)) 13))) version_same
      ∙ stops (version_number g s) (rest (bounded_number s 5 1 (f.most (version s)) 13)) (rest (bounded_number s 5 1 (g.most (version s)) 13)) (λ z. ap rest (most_same z)))

  pub number_alike : number_by f s ≡ number_by g s
  number_alike =
      parts f s ∙ ap (λ (h : ℕ). or_else h (behind f)) head_same
      ∙ stops (first (head_numbers g s)) (behind f) (behind g) (λ z. same (a.same_pinned (head_known g s z)))
      ∙ sym (parts g s)
    where
      behind : Format → ℕ
      behind format =
          or_else (or_else (first (entries_numbers s (wagons s) (entry_count s))) (first (costs_numbers s (wagons s) (entry_count s))))
          (or_else (first (pins_numbers_by format s)) (first (run_numbers s (free_by format s) (settings_by format s))))

      same : f.pinned (version s) ≡ g.pinned (version s) → behind f ≡ behind g
      same p = rw (pins_same f g s p, free_same f g s p, settings_same f g s p)

-- ---- a table with one version more says the same of every other version

last_same : (n v : ℕ) → (v ≡ suc n → ⊥) → leb v (suc n) ≡ leb v n
last_same n v d = grind (arith, nat_tests)

one_is : (v : ℕ) → known one_version v ≡ true → v ≡ 1
one_is v e = eqb-true v 1 (sym (only_one v) ∙ e)

two_one : (v : ℕ) → (v ≡ 2 → ⊥) → Alike two_versions one_version v
two_one v d =
    record {
      same_known = ap (λ (b : Bool). leb 1 v && b) (last_same 1 v d);
      same_most = λ e. refl;
      same_pinned = λ e. ap (ltb 1) (one_is v e);
    }

two_low : (v : ℕ) → known two_versions v ≡ true → v ≤ 2
two_low v e = leb-true v 2 (and_parts (leb 1 v) (leb v 2) e).1

three_two : (v : ℕ) → (v ≡ 3 → ⊥) → Alike three_versions two_versions v
three_two v d =
    record {
      same_known = ap (λ (b : Bool). leb 1 v && b) (last_same 2 v d);
      same_most = λ e. rw (le-ltb 2 v (two_low v e));
      same_pinned = λ e. refl;
    }

pub not_two : (s : List ℕ) → (version s ≡ 2 → ⊥) → number_by two_versions s ≡ number_by one_version s
not_two s d = number_alike two_versions one_version s (two_one (version s) d)

-- what the table with version 1 alone accepts is of version 1
pub one_accepted : (s : List ℕ) → number_by one_version s ≡ 0 → version s ≡ 1
one_accepted s e = one_is (version s) (head_known one_version s (both _ _ (sym (parts one_version s) ∙ e)).0)

-- ---- versions 1 and 2: 13 for more than 127 wagons, and all else as before there were larger houses

pub as_two : (s : List ℕ) → (version s ≡ 3 → ⊥) → AsTwo s
unfolding versions job_states
as_two s d =
    let pins = count_same three_versions two_versions s refl in
    let free = free_same three_versions two_versions s refl in
    let settings = settings_same three_versions two_versions s refl in
    let draws = draws_same three_versions two_versions s refl in
    let rank = ap₂ (rank_of s) free settings in
    record {
      number = number_alike three_versions two_versions s (three_two (version s) d);
      pins = pins;
      free = free;
      states = ap (states_of s (wagons s) (pins_place s + 1)) pins;
      settings = settings;
      draws = draws;
      job = job_same three_versions two_versions s refl;
      rank = rank;
      start_count = ap₂ (start_count_of s) free settings;
      start = ap (λ (at : ℕ). double_from s (at + 36)) settings;
      drawn = ap₂ (λ (at r : ℕ). big_endian s at 2 * r) draws rank;
      draw = ap (λ (at : ℕ). double_from s (at + 2)) draws;
    }

-- ---- version 1

unpinned_one : (s : List ℕ) → version s ≡ 1 → versions.pinned (version s) ≡ false
unfolding versions
unpinned_one s e = rw e

draws_are : (s : List ℕ) → free_wagons s ≡ wagons s → settings_place s ≡ base_settings s → draws_place s ≡ base_draws s
unfolding draws_by
draws_are s f p = ap₂ (draws_after s) f p

pub as_before : (s : List ℕ) → version s ≡ 1 → AsBefore s
as_before s e =
    let u = unpinned s (unpinned_one s e) in
    let draws = draws_are s (sym u.1) (sym u.2) in
    let rank = ap₂ (rank_of s) (sym u.1) (sym u.2) in
    record {
      number = (as_two s (λ f. omega arith)).number ∙ not_two s (λ f. omega arith) ∙ one_version_lem s;
      pins = sym u.0;
      free = sym u.1;
      states = states_none s (unpinned_one s e);
      settings = sym u.2;
      draws = draws;
      job = job_same versions one_version s (unpinned_one s e);
      rank = rank;
      start_count = ap₂ (start_count_of s) (sym u.1) (sym u.2);
      start = ap (λ (p : ℕ). double_from s (p + 36)) (sym u.2);
      drawn = ap₂ (λ (p r : ℕ). big_endian s p 2 * r) draws rank;
      draw = ap (λ (p : ℕ). double_from s (p + 2)) draws;
    }
