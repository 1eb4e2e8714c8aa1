-- The number of the ranged finish from that of the finish on the high table and that of the ranged table. Assumes nothing.
--     short_ranged, by_state, by_table, by_settings   the four ways that the code answers
use mathlib.Core.Path.{◌≡◌, refl, sym, ap, ◌∙◌}
use mathlib.Core.Bool.{Bool, true, false, not}
use mathlib.Core.List.{[], ◌∷◌}
use Prim.Native.Nat.{ℕ, zero, suc, ◌≤◌, ◌<◌}
use native.Mathlib.Omega.{arith}
use Rattle.laws.specs.Refusal.{◌if◌, or_else, first}
use Rattle.laws.proofs.Any.{any_head, any_rest, any_not, any_none, any_here, any_skip}
use Rattle.laws.proofs.Refusal.{first_head, first_rest, first_here, first_found, clear}
use lib.Dec.{ltb}
use Rattle.laws.specs.Lists.{elem}
use Rattle.limits.specs.Limits.{most_wagons, most_entries, most_magnitude}
use Rattle.tables.specs.Check.{bad_size, bad_order, unmirrored, hall_magnitude, hall_number, short_table}
use Rattle.run_record.specs.declared.Run.{Run}
use Rattle.tables.specs.CostTable.{CostTable, quadratic, linear}
use Rattle.run_record.specs.Numbers.{is_stopped, record_refused, bad_momentum, width_refused, cost_table_number, table_short, finish_short, finish_number, FinishLengths}
use Rattle.ranged_finish.specs.Ranged.{RangedTable, high_of}
use Rattle.ranged_finish.specs.Numbers.{ranged_number, ranged_short, ranged_finish_short, ranged_finish_number}
use Rattle.ranged_finish.proofs.Halls.{high_number}

-- a list whose last numbers are at most 30: above 30 is one of the first three, whatever comes after
unfoldable listed : Bool → Bool → Bool → Bool → Bool → ℕ → ℕ
listed a b c d e k = first (31 if a ∷ 32 if b ∷ 33 if c ∷ k ∷ 18 if d ∷ 19 if e ∷ [])

later_few : (k : ℕ) (d e : Bool) → k ≤ 16 → first (k ∷ 18 if d ∷ 19 if e ∷ []) ≤ 19
unfolding first or_else
later_few zero true e h = omega arith
later_few zero false true h = omega arith
later_few zero false false h = omega arith
later_few (suc k) d e h = omega arith

state_first : (a b c d e : Bool) (k l : ℕ) → k ≤ 16 → 30 < listed a b c d e k → listed a b c d e l ≡ listed a b c d e k
unfolding listed first or_else
state_first true b c d e k l h more = refl
state_first false true c d e k l h more = refl
state_first false false true d e k l h more = refl
state_first false false false d e k l h more = absurd (omega (arith, later_few k d e h))

table_first : (a b c d e : Bool) (k l : ℕ) → listed a b c d e k ≤ 30 → (l ≡ 0 → ⊥) → listed a b c d e l ≡ l
unfolding listed first or_else
table_first true b c d e k l few n = absurd (omega arith)
table_first false true c d e k l few n = absurd (omega arith)
table_first false false true d e k l few n = absurd (omega arith)
table_first false false false d e k l few n = first_found l (18 if d ∷ 19 if e ∷ []) n

hall_few : (a b c d : Bool) → first (13 if a ∷ 14 if b ∷ 15 if c ∷ 16 if d ∷ []) ≤ 16
unfolding first or_else
hall_few true b c d = omega arith
hall_few false true c d = omega arith
hall_few false false true d = omega arith
hall_few false false false true = omega arith
hall_few false false false false = omega arith

table_few : (t : CostTable) → cost_table_number t ≤ 16
unfolding hall_number
table_few t =
    hall_few (bad_size 0 most_wagons most_entries t.n t.count) (bad_order t.n (elem t.rows) (elem t.cols) t.count) (unmirrored (quadratic t))
    (ltb most_magnitude (hall_magnitude t.n (quadratic t) (linear t)))

module _ (run : Run) (t : RangedTable) (width draw_count : ℕ) (lent : FinishLengths) where
  pub short_ranged : ranged_short t ≡ true → ranged_finish_number run t width draw_count lent ≡ 31
  unfolding ranged_finish_number ranged_finish_short
  short_ranged e = first_here 30 _ _ (any_here _ _ e)

  -- where no slice of the ranged table is short none of the high table is, and 31 is the finish's
  high_lent : ranged_short t ≡ false → table_short (high_of t) ≡ false
  unfolding ranged_short table_short short_table
  high_lent e =
      let slices = any_head _ _ e in
      let later = any_rest _ _ e in
      any_not _ _ (any_not _ _ (any_head _ _ slices) (any_not _ _ (any_head _ _ (any_rest _ _ slices)) (any_not _ _ (any_head _ _ later) any_none)))
      (any_not _ _ (any_head _ _ (any_rest _ _ (any_rest _ _ later))) any_none)

  same_short : ranged_short t ≡ false → ranged_finish_short run t draw_count lent ≡ finish_short run (high_of t) draw_count lent
  unfolding ranged_finish_short finish_short
  same_short e = any_skip _ _ e ∙ sym (any_skip _ _ (high_lent e))

  ranged_is : ranged_short t ≡ false
      → ranged_finish_number run t width draw_count lent
      ≡ listed (finish_short run (high_of t) draw_count lent) (not (is_stopped run.stage)) (record_refused run t.n) (bad_momentum run.rule) (width_refused width draw_count) (ranged_number t)
  unfolding ranged_finish_number listed
  ranged_is e = rw (same_short e)

  finish_is : finish_number run (high_of t) width draw_count lent
      ≡ listed (finish_short run (high_of t) draw_count lent) (not (is_stopped run.stage)) (record_refused run t.n) (bad_momentum run.rule) (width_refused width draw_count) (cost_table_number (high_of t))
  unfolding finish_number listed
  finish_is = refl

  pub by_state : ranged_short t ≡ false → 30 < finish_number run (high_of t) width draw_count lent
      → finish_number run (high_of t) width draw_count lent ≡ ranged_finish_number run t width draw_count lent
  by_state e h = finish_is ∙ sym (ranged_is e ∙ state_first _ _ _ _ _ (cost_table_number (high_of t)) (ranged_number t) (table_few (high_of t)) (rw (finish_is) at h))

  pub by_table : ranged_short t ≡ false → finish_number run (high_of t) width draw_count lent ≤ 30 → (ranged_number t ≡ 0 → ⊥)
      → ranged_number t ≡ ranged_finish_number run t width draw_count lent
  by_table e h n = sym (ranged_is e ∙ table_first _ _ _ _ _ (cost_table_number (high_of t)) (ranged_number t) (rw (finish_is) at h) n)

  pub by_settings : ranged_short t ≡ false → ranged_number t ≡ 0 → finish_number run (high_of t) width draw_count lent ≡ ranged_finish_number run t width draw_count lent
  by_settings e z = finish_is ∙ sym (ranged_is e ∙ ap (listed _ _ _ _ _) (z ∙ sym (high_number t z)))

  -- an accepted call: no slice of the ranged table is short, no number of its own applies, and none of the finish on the high table
  module _ (ok : ranged_finish_number run t width draw_count lent ≡ 0) where
    pub ranged_lent : ranged_short t ≡ false
    unfolding ranged_finish_number ranged_finish_short
    ranged_lent = any_head _ _ (clear _ 30 (first_head _ _ ok))

    pub ranged_ok : ranged_number t ≡ 0
    unfolding ranged_finish_number
    ranged_ok = first_head _ _ (first_rest _ _ (first_rest _ _ (first_rest _ _ ok)))

    pub finish_ok : finish_number run (high_of t) width draw_count lent ≡ 0
    finish_ok = by_settings ranged_lent ranged_ok ∙ ok
