-- The number of a record, from the numbers of its sections; and what holds where it is 0.
use Prim.Native.Nat.{ℕ, zero, suc}
use mathlib.Core.Path.{◌≡◌, refl, sym, ap, ◌∙◌}
use mathlib.Core.List.{List, ◌++◌}
use Rattle.laws.specs.Refusal.{first, or_else}
use Rattle.laws.proofs.Refusal.{stop, pass, both}
use Rattle.laws.proofs.Following.{first_append}
use Rattle.job_record.specs.Versions.{Format, versions}
use Rattle.job_record.specs.Fields.{wagons, entry_count, free_by, settings_by}
use Rattle.job_record.specs.Number.{head_numbers, entries_numbers, costs_numbers, job_table_number, pins_numbers_by, run_numbers, number_by, job_number}
use Rattle.job_record.specs.Values.{free_wagons, settings_place}

pub or_join : (a b c : ℕ) → or_else a (or_else b c) ≡ or_else (or_else a b) c
unfolding or_else
or_join zero b c = refl
or_join (suc a) b c = refl

-- what comes behind a number counts where that is 0
pub stops : (a b c : ℕ) → (a ≡ 0 → b ≡ c) → or_else a b ≡ or_else a c
unfolding or_else
stops zero b c h = h refl
stops (suc a) b c h = refl

-- by any table of versions: head, entries and c, pins, the rest
pub parts : (format : Format) (s : List ℕ) → number_by format s
    ≡ or_else (first (head_numbers format s))
    (or_else (job_table_number s)
    (or_else (first (pins_numbers_by format s)) (first (run_numbers s (free_by format s) (settings_by format s)))))
unfolding number_by
parts format s =
    let entries = entries_numbers s (wagons s) (entry_count s) in
    let costs = costs_numbers s (wagons s) (entry_count s) in
    let pins = pins_numbers_by format s in
    let run = run_numbers s (free_by format s) (settings_by format s) in
    first_append (head_numbers format s) (entries ++ (costs ++ (pins ++ run)))
    ∙ ap (or_else (first (head_numbers format s)))
    (first_append entries (costs ++ (pins ++ run))
    ∙ ap (or_else (first entries)) (first_append costs (pins ++ run) ∙ ap (or_else (first costs)) (first_append pins run))
    ∙ or_join _ _ _)

module _ (s : List ℕ) {h : ℕ} (head : h ≡ first (head_numbers versions s)) (h0 : h ≡ 0)
    {t : ℕ} (table : t ≡ job_table_number s) where
  pub at_table : (t ≡ 0 → ⊥) → t ≡ job_number s
  at_table x = rw (parts versions s) (pass _ _ head h0 (stop _ _ table x))

  pub at_rest : t ≡ 0 → {r : ℕ} → r ≡ or_else (first (pins_numbers_by versions s)) (first (run_numbers s (free_wagons s) (settings_place s))) → r ≡ job_number s
  at_rest t0 e = rw (parts versions s) (pass _ _ head h0 (pass _ _ table t0 e))

pub at_head : (s : List ℕ) {h : ℕ} → h ≡ first (head_numbers versions s) → (h ≡ 0 → ⊥) → h ≡ job_number s
at_head s e x = rw (parts versions s) (stop _ _ e x)

-- the sections of an accepted record
pub record Passed (s : List ℕ) : Type 0 where
  pub head : first (head_numbers versions s) ≡ 0
  pub entries : first (entries_numbers s (wagons s) (entry_count s)) ≡ 0
  pub costs : first (costs_numbers s (wagons s) (entry_count s)) ≡ 0
  pub pins : first (pins_numbers_by versions s) ≡ 0
  pub run : first (run_numbers s (free_wagons s) (settings_place s)) ≡ 0

pub passed : (s : List ℕ) → job_number s ≡ 0 → Passed s
passed s e =
    let a = both _ _ (sym (parts versions s) ∙ e) in
    let b = both _ _ a.1 in
    let t = both _ _ b.0 in
    let r = both _ _ b.1 in
    record { head = a.0; entries = t.0; costs = t.1; pins = r.0; run = r.1 }
