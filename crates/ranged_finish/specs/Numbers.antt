-- The numbers of a ranged table and of the ranged finish: 31, 32, 33, 13, 14, 23 of an entry, 15, 23 of a c, 16, 18, 19.
use Rattle.std.specs.Prelude.{Bool, not, ◌||◌, [], ◌∷◌, ℕ, ◌+◌, ◌*◌, max, ltb, ℤ, nat_abs, length}
use Rattle.std.specs.Int.Signed.{lt_z}
use Rattle.laws.specs.Lists.{elem, elem_z, any_below}
use Rattle.laws.specs.Sum.{total}
use Rattle.laws.specs.Refusal.{◌if◌, first, any_of, short}
use Rattle.limits.specs.Limits.{most_wagons, most_entries, most_magnitude, search_workspace}
use Rattle.tables.specs.Check.{bad_size, bad_order, unmirrored, short_table}
use Rattle.run_record.specs.declared.Run.{Run}
use Rattle.tables.specs.CostTable.{quadratic}
use Rattle.run_record.specs.Numbers.{is_stopped, record_refused, bad_momentum, width_refused, draws_short, factor_short, choice_short, FinishLengths}
use Rattle.ranged_finish.specs.Ranged.{RangedTable, low_of, high_of}

-- 23: some low end is above its high one
unfoldable pub above : ℕ → (ℕ → ℤ) → (ℕ → ℤ) → Bool
above k low high = any_below k (λ i. lt_z (high i) (low i))

-- 16: the magnitude, of the larger absolute value of each range
abbrev pub larger : ℤ → ℤ → ℕ
larger a b = max (nat_abs a) (nat_abs b)

abbrev pub ranged_magnitude : RangedTable → ℕ
ranged_magnitude t =
    total t.count (λ k. larger (elem_z t.low k) (elem_z t.high k)) + 2 * total t.n (λ i. larger (elem_z t.low_c i) (elem_z t.high_c i))

-- the first number of a ranged table: 23 of an entry after 14, of a c before 16; the mirror must be equal at both ends
unfoldable pub ranged_number : RangedTable → ℕ
ranged_number t =
    first
    (13 if bad_size 0 most_wagons most_entries t.n t.count
    ∷ 14 if bad_order t.n (elem t.rows) (elem t.cols) t.count
    ∷ 23 if above t.count (elem_z t.low) (elem_z t.high)
    ∷ 15 if (unmirrored (quadratic (low_of t)) || unmirrored (quadratic (high_of t)))
    ∷ 23 if above t.n (elem_z t.low_c) (elem_z t.high_c)
    ∷ 16 if ltb most_magnitude (ranged_magnitude t)
    ∷ [])

-- 31: the slices of the ranged table, entries resting on the count and c on n; and those of a finish
unfoldable pub ranged_short : RangedTable → Bool
ranged_short t =
    any_of
    (short_table most_entries t.count (length t.rows) (length t.cols) (length t.low)
    ∷ short (ltb most_entries t.count) t.count (length t.high)
    ∷ short (ltb most_wagons t.n) t.n (length t.low_c)
    ∷ short (ltb most_wagons t.n) t.n (length t.high_c)
    ∷ [])

unfoldable pub ranged_finish_short : Run → RangedTable → ℕ → FinishLengths → Bool
ranged_finish_short run t draw_count lent =
    any_of
    (ranged_short t
    ∷ draws_short run.rank draw_count lent.draws
    ∷ factor_short t.n run.size run.rank lent.factor
    ∷ choice_short t.n lent.b lent.dual
    ∷ ltb lent.workspace search_workspace
    ∷ [])

unfoldable pub ranged_finish_number : Run → RangedTable → ℕ → ℕ → FinishLengths → ℕ
ranged_finish_number run t width draw_count lent =
    first
    (31 if ranged_finish_short run t draw_count lent
    ∷ 32 if not (is_stopped run.stage)
    ∷ 33 if record_refused run t.n
    ∷ ranged_number t
    ∷ 18 if bad_momentum run.rule
    ∷ 19 if width_refused width draw_count
    ∷ [])
