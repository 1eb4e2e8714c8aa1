-- Open, sweep and finish answer the first number of 01's order whose condition, in 01's words, holds, and 0 where none does. Assumes nothing.
use Prim.Native.Nat.{ℕ, zero, suc, ◌+◌, ◌-◌, ◌*◌, ◌<◌, ◌≤◌}
use mathlib.Core.Path.{◌≡◌, refl, sym, ap, subst}
use mathlib.Core.Bool.{true, false, not, ◌||◌, false≢true}
use mathlib.Core.List.{List, ◌∷◌, ◌++◌}
use mathlib.Core.Logic.{◌⊎◌, inl, inr}
use native.Mathlib.Omega.{arith}
use lib.Dec.{ltb}
use lib.IntN.{ℤ}
use lib.ListN.{length}
use lib.Ieee.{Float, nan, inf, fin, lt, le, eq, of_bits}
use Rattle.std.specs.Bool.{Decides}
use Rattle.std.proofs.lemmas.Bool.Decides.{Decides-like, Decides-ltb, Decides-eqb, Decides-not, Decides-and, Decides-or}
use Rattle.ieee.specs.Floats.{zero64, one64}
use Rattle.laws.specs.Refusal.{short}
use Rattle.step_rules.specs.declared.StepRule.{StepRule}
use Rattle.step_rules.specs.declared.StepRule.TheVariants.{Grad, GradAdv, Coord, CoordNoStep, CoordMomentum}
use Rattle.step_rules.specs.Rule.{rule_number}
use Rattle.limits.specs.Limits.{most_wagons, most_entries, most_magnitude, most_rank, most_width, most_draws, search_workspace}
use Rattle.tables.specs.Table.{Table, Before}
use Rattle.tables.specs.Check.{bad_size, before, bad_entry, bad_order, eq_z, unmirrored, hall_magnitude, hall_number, short_table}
use Rattle.tables.proofs.Checks.{eq_z_true, eq_z_refl}
use Rattle.run_limits.specs.Rank.{rank_meant}
use Rattle.run_limits.specs.Momentum.{is_momentum}
use Rattle.run_limits.specs.Start.{start_length}
use Rattle.run_limits.specs.Draws.{bad_draws}
use Rattle.run_record.specs.declared.Stage.{Stage}
use Rattle.run_record.specs.declared.Stage.TheVariants.{Open, Stopped}
use Rattle.run_record.specs.declared.Run.{Run}
use Rattle.tables.specs.CostTable.{CostTable, quadratic, linear}
use Rattle.run_record.specs.Numbers.{is_stopped, table_short, factor_refused, factor_short, own_faults, own_refused, record_refused, cost_table_number, bad_momentum, sweep_short, sweep_number, member_number, draws_short, choice_short, FinishLengths, finish_short, width_refused, finish_number, open_rank_refused, start_short, open_factor_short, open_short, rule_refused, open_number, exchange_number}
use Rattle.run_record.specs.Conditions.{Clause, Answered, BadSize, wagons_above, entries_above, BadEntry, row_out, column_out, out_of_order, Unmirrored, TooLarge, table_clauses, BadRank, rank_high, rank_missing, Finite, Momentum, BadRule, rule_above, no_momentum, BadMomentum, BadDraws, width_above, draws_none, draws_above, OwnFault, rank_none, rank_above, sweeps_above, most_while_open, status_above, status_while_open, total_above, BadRecord, sizes_disagree, own_fault, TableTooShort, rows_short, cols_short, values_short, costs_short, FactorTooShort, DrawsTooShort, SweepTooShort, sweep_table, sweep_factor, FinishTooShort, finish_table, finish_draws, finish_factor, finish_b, finish_dual, finish_workspace, OpenTooShort, open_table, open_start, open_factor, open_clauses, sweep_clauses, member_clauses, finish_clauses, BadExchange, old_momentum, new_rule, exchange_clauses}
use Rattle.run_record.proofs.Deciding.{stable, at_most, or_else_lem, and_then, none_left, DecidesAny, reads_any, one_or, some_below, too_short_lem, Follows, ends, then_if, flat, answered, of_number}

-- ---- 13 to 16

module _ (t : CostTable) where
  size_decided : Decides (bad_size 0 most_wagons most_entries t.n t.count) (BadSize t)
  unfolding bad_size
  size_decided = Decides-like _ to from (one_or (Decides-ltb t.n 0) (one_or (Decides-ltb most_wagons t.n) (one_or (Decides-ltb most_entries t.count) none_left))).any
    where
      to : (t.n < 0) ⊎ (most_wagons < t.n) ⊎ (most_entries < t.count) ⊎ ⊥ → BadSize t
      to (inl l) = absurd (omega arith)
      to (inr (inl l)) = wagons_above l
      to (inr (inr (inl l))) = entries_above l
      to (inr (inr (inr x))) = absurd x

      from : BadSize t → (t.n < 0) ⊎ (most_wagons < t.n) ⊎ (most_entries < t.count) ⊎ ⊥
      from (wagons_above l) = inr (inl l)
      from (entries_above l) = inr (inr (inl l))

before_decided : (i j k l : ℕ) → Decides (before i j k l) (Before i j k l)
unfolding before
before_decided i j k l = or_else_lem (Decides-ltb i k) (and_then (Decides-eqb i k) (Decides-ltb j l))

module _ (n : ℕ) (h : Table) where
  -- what is bad of entry k
  abbrev After : ℕ → ℕ → Type 0
  After k j = Before (h.row j) (h.column j) (h.row k) (h.column k) → ⊥

  back : (k : ℕ) → suc k - 1 ≡ k
  back k = omega arith

  abbrev Bad : ℕ → Type 0
  Bad k =
      (n ≤ h.row k) ⊎ (n ≤ h.column k)
      ⊎ ((0 < k) × After k (k - 1)) ⊎ ⊥

  entry_decided : (k : ℕ) → Decides (bad_entry n h.row h.column k) (Bad k)
  unfolding bad_entry
  entry_decided k =
      (one_or (at_most n (h.row k)) (one_or (at_most n (h.column k))
      (one_or (Decides-and _ _ (Decides-ltb 0 k) (Decides-not _ (before_decided (h.row (k - 1)) (h.column (k - 1)) (h.row k) (h.column k)))) none_left))).any

  entry_read : (k : ℕ) → k < h.count → Bad k → BadEntry n h
  entry_read k l (inl r) = row_out k l r
  entry_read k l (inr (inl c)) = column_out k l c
  entry_read zero l (inr (inr (inl (p, o)))) = absurd (omega arith)
  entry_read (suc k) l (inr (inr (inl (p, o)))) = out_of_order k l (subst (After (suc k)) (back k) o)
  entry_read k l (inr (inr (inr x))) = absurd x

  entry_back : BadEntry n h → (k : ℕ) × (k < h.count) × Bad k
  entry_back (row_out k l r) = (k, l, inl r)
  entry_back (column_out k l c) = (k, l, inr (inl c))
  entry_back (out_of_order k l o) = (suc k, l, inr (inr (inl (omega arith, subst (After (suc k)) (sym (back k)) o))))

  pub order_decided : Decides (bad_order n h.row h.column h.count) (BadEntry n h)
  unfolding bad_order
  order_decided = Decides-like _ (λ r. entry_read r.0 r.1 r.2) entry_back (some_below h.count entry_decided)

same_value : (a b : ℤ) → Decides (eq_z a b) (a ≡ b)
same_value a b = ((eq_z_true a b), (λ e. subst (λ (x : ℤ). eq_z a x ≡ true) e (eq_z_refl a)))

module _ (h : Table) where
  abbrev Mirror : ℕ → ℕ → Type 0
  Mirror k l = ((h.row l ≡ h.column k) × (h.column l ≡ h.row k)) × (h.value l ≡ h.value k)

  pub mirror_decided : Decides (unmirrored h) (Unmirrored h)
  unfolding unmirrored
  mirror_decided =
      Decides-like _
      (λ r. record { entry = r.0; stored = r.1; alone = λ l m a b e. r.2 (l, m, ((a, b), e)) })
      (λ u. (u.entry, u.stored, λ r. u.alone r.0 r.1 r.2.0.0 r.2.0.1 r.2.1))
      (some_below {p = λ k. ((l : ℕ) × (l < h.count) × Mirror k l) → ⊥} h.count (λ k.
      Decides-not _ (some_below {p = Mirror k} h.count (λ l. Decides-and _ _ (Decides-and _ _ (Decides-eqb (h.row l) (h.column k)) (Decides-eqb (h.column l) (h.row k))) (same_value (h.value l) (h.value k))))))

-- the four numbers of a table, and more after them
table_then : (t : CostTable) {ks : List ℕ} {rest : List Clause} → Follows ks rest → Follows (cost_table_number t ∷ ks) (table_clauses t ++ rest)
unfolding hall_number
table_then t {ks} more =
    flat _ ks
    (then_if 12 (size_decided t) (then_if 13 (order_decided t.n (quadratic t)) (then_if 14 (mirror_decided (quadratic t))
    (then_if 15 (Decides-ltb most_magnitude (hall_magnitude t.n (quadratic t) (linear t))) more))))

-- ---- 17 to 19

pub rank_decided : (rank start : ℕ) → Decides (open_rank_refused rank start) (BadRank rank start)
unfolding open_rank_refused
rank_decided rank start = Decides-like _ to from (Decides-or _ _ (Decides-ltb most_rank rank) (Decides-and _ _ (Decides-eqb rank 0) (Decides-eqb start 1)))
  where
    to : (most_rank < rank) ⊎ ((rank ≡ 0) × (start ≡ 1)) → BadRank rank start
    to (inl l) = rank_high l
    to (inr (z, o)) = rank_missing z o

    from : BadRank rank start → (most_rank < rank) ⊎ ((rank ≡ 0) × (start ≡ 1))
    from (rank_high l) = inl l
    from (rank_missing z o) = inr (z, o)

finite : (beta : Float) → le zero64 beta ≡ true → lt beta one64 ≡ true → Finite beta
unfolding le lt eq of_bits
finite nan l h = absurd (false≢true h)
finite (inf true) l h = absurd (false≢true l)
finite (inf false) l h = absurd (false≢true h)
finite (fin s m e) l h = record { negative = s; digits = m; exponent = e; value = refl }

pub momentum_decided : (beta : Float) → Decides (is_momentum beta) (Momentum beta)
momentum_decided beta = Decides-like _
    (λ r. record { finite = finite beta r.0 r.1; from_zero = r.0; below_one = r.1 })
    (λ m. (m.from_zero, m.below_one))
    (Decides-and _ _ (((λ e. e), (λ e. e))) (((λ e. e), (λ e. e))))

pub rule_decided : (rule : ℕ) (number : Float) → Decides (rule_refused rule number) (BadRule rule number)
unfolding rule_refused
rule_decided rule number = Decides-like _ to from (Decides-or _ _ (Decides-ltb 4 rule) (Decides-and _ _ (Decides-eqb rule 4) (Decides-not _ (momentum_decided number))))
  where
    to : (4 < rule) ⊎ ((rule ≡ 4) × (Momentum number → ⊥)) → BadRule rule number
    to (inl l) = rule_above l
    to (inr (e, n)) = no_momentum e n

    from : BadRule rule number → (4 < rule) ⊎ ((rule ≡ 4) × (Momentum number → ⊥))
    from (rule_above l) = inl l
    from (no_momentum e n) = inr (e, n)

-- a rule other than 4 has no momentum
other_rule : (rule : StepRule) → rule_number rule < 4 → Decides false (BadMomentum rule)
other_rule rule l = ((λ e. absurd (false≢true e)), (λ b. absurd (omega (arith, l, ap rule_number b.rule_four))))

abbrev number_in : Float → StepRule → Float
number_in other (Grad step) = other
number_in other (GradAdv step) = other
number_in other (Coord step) = other
number_in other CoordNoStep = other
number_in other (CoordMomentum beta) = beta

pub record_momentum_decided : (rule : StepRule) → Decides (bad_momentum rule) (BadMomentum rule)
record_momentum_decided (Grad step) = other_rule (Grad step) (omega arith)
record_momentum_decided (GradAdv step) = other_rule (GradAdv step) (omega arith)
record_momentum_decided (Coord step) = other_rule (Coord step) (omega arith)
record_momentum_decided CoordNoStep = other_rule CoordNoStep (omega arith)
record_momentum_decided (CoordMomentum beta) =
    Decides-like _
    (λ n. record { beta = beta; rule_four = refl; no_momentum_there = n })
    (λ b m. b.no_momentum_there (subst Momentum (ap (number_in beta) b.rule_four) m))
    (Decides-not _ (momentum_decided beta))

draws_decided : (draw_count : ℕ) → Decides (bad_draws draw_count) ((draw_count ≡ 0) ⊎ (most_draws < draw_count))
unfolding bad_draws
draws_decided draw_count = Decides-or _ _ (Decides-eqb draw_count 0) (Decides-ltb most_draws draw_count)

pub width_decided : (width draw_count : ℕ) → Decides (width_refused width draw_count) (BadDraws width draw_count)
unfolding width_refused
width_decided width draw_count = Decides-like _ to from (Decides-or _ _ (Decides-ltb most_width width) (draws_decided draw_count))
  where
    to : (most_width < width) ⊎ ((draw_count ≡ 0) ⊎ (most_draws < draw_count)) → BadDraws width draw_count
    to (inl l) = width_above l
    to (inr (inl z)) = draws_none z
    to (inr (inr l)) = draws_above l

    from : BadDraws width draw_count → (most_width < width) ⊎ ((draw_count ≡ 0) ⊎ (most_draws < draw_count))
    from (width_above l) = inl l
    from (draws_none z) = inr (inl z)
    from (draws_above l) = inr (inr l)

-- ---- 32 and 33

stopped_decided : (stage : Stage) → Decides (is_stopped stage) (stage ≡ Stopped)
stopped_decided Open = ((λ e. absurd (false≢true e)), (λ e. ap is_stopped e))
stopped_decided Stopped = ((λ e. refl), (λ e. refl))

open_decided : (stage : Stage) → Decides (not (is_stopped stage)) (stage ≡ Open)
open_decided Open = ((λ e. refl), (λ e. refl))
open_decided Stopped = ((λ e. absurd (false≢true e)), (λ e. ap (λ (s : Stage). not (is_stopped s)) e))

module _ (run : Run) where
  abbrev Faults : Type 0
  Faults =
      (run.rank ≡ 0) ⊎ (most_rank < run.rank) ⊎ (run.most < run.sweeps) ⊎ ((run.stage ≡ Open) × (run.sweeps ≡ run.most))
      ⊎ (2 < run.status) ⊎ ((run.stage ≡ Open) × (run.status ≡ 0 → ⊥)) ⊎ (run.size * run.sweeps < run.standing) ⊎ ⊥

  fault_read : Faults → OwnFault run
  fault_read (inl z) = rank_none z
  fault_read (inr (inl l)) = rank_above l
  fault_read (inr (inr (inl l))) = sweeps_above l
  fault_read (inr (inr (inr (inl (o, e))))) = most_while_open o e
  fault_read (inr (inr (inr (inr (inl l))))) = status_above l
  fault_read (inr (inr (inr (inr (inr (inl (o, n))))))) = status_while_open o n
  fault_read (inr (inr (inr (inr (inr (inr (inl l))))))) = total_above l
  fault_read (inr (inr (inr (inr (inr (inr (inr x))))))) = absurd x

  fault_back : OwnFault run → Faults
  fault_back (rank_none z) = inl z
  fault_back (rank_above l) = inr (inl l)
  fault_back (sweeps_above l) = inr (inr (inl l))
  fault_back (most_while_open o e) = inr (inr (inr (inl (o, e))))
  fault_back (status_above l) = inr (inr (inr (inr (inl l))))
  fault_back (status_while_open o n) = inr (inr (inr (inr (inr (inl (o, n))))))
  fault_back (total_above l) = inr (inr (inr (inr (inr (inr (inl l))))))

  faults_decided : DecidesAny (own_faults run) (OwnFault run)
  faults_decided =
      reads_any fault_read fault_back
      (one_or (Decides-eqb run.rank 0) (one_or (Decides-ltb most_rank run.rank) (one_or (Decides-ltb run.most run.sweeps)
      (one_or (Decides-and _ _ (open_decided run.stage) (Decides-eqb run.sweeps run.most)) (one_or (Decides-ltb 2 run.status)
      (one_or (Decides-and _ _ (open_decided run.stage) (Decides-not _ (Decides-eqb run.status 0))) (one_or (Decides-ltb (run.size * run.sweeps) run.standing) none_left)))))))

  -- 33 of the record alone
  pub own_decided : Decides (own_refused run) (OwnFault run)
  unfolding own_refused
  own_decided = faults_decided.any

  pub record_decided : (n : ℕ) → Decides (record_refused run n) (BadRecord run n)
  unfolding record_refused
  record_decided n = Decides-like _ to from (one_or (Decides-not _ (Decides-eqb run.size (n + 1))) faults_decided).any
    where
      to : (run.size ≡ n + 1 → ⊥) ⊎ OwnFault run → BadRecord run n
      to (inl d) = sizes_disagree d
      to (inr f) = own_fault f

      from : BadRecord run n → (run.size ≡ n + 1 → ⊥) ⊎ OwnFault run
      from (sizes_disagree d) = inl d
      from (own_fault f) = inr f

-- ---- 31

-- a slice whose length rests on one number with a limit
module _ (limit number needed lent : ℕ) where
  rests : Decides (short (ltb limit number) needed lent) ((number ≤ limit) × (lent < needed))
  rests = Decides-like _ (λ r. (omega (arith, r.0), r.1)) (λ r. ((λ l. omega arith), r.1)) (too_short_lem needed lent (Decides-ltb limit number))

module _ (t : CostTable) where
  abbrev ShortBy : ℕ → Type 0
  ShortBy lent = (t.count ≤ most_entries) × (lent < t.count)

  abbrev ShortTables : Type 0
  ShortTables =
      (ShortBy (length t.rows) ⊎ ShortBy (length t.cols) ⊎ ShortBy (length t.values) ⊎ ⊥) ⊎ ((t.n ≤ most_wagons) × (length t.c < t.n)) ⊎ ⊥

  table_short_read : ShortTables → TableTooShort t
  table_short_read (inl (inl (a, b))) = rows_short a b
  table_short_read (inl (inr (inl (a, b)))) = cols_short a b
  table_short_read (inl (inr (inr (inl (a, b))))) = values_short a b
  table_short_read (inl (inr (inr (inr x)))) = absurd x
  table_short_read (inr (inl (a, b))) = costs_short a b
  table_short_read (inr (inr x)) = absurd x

  table_short_back : TableTooShort t → ShortTables
  table_short_back (rows_short a b) = inl (inl (a, b))
  table_short_back (cols_short a b) = inl (inr (inl (a, b)))
  table_short_back (values_short a b) = inl (inr (inr (inl (a, b))))
  table_short_back (costs_short a b) = inr (inl (a, b))

  pub table_short_decided : Decides (table_short t) (TableTooShort t)
  unfolding table_short short_table
  table_short_decided =
      Decides-like _ table_short_read table_short_back
      (one_or (one_or (rests most_entries t.count t.count (length t.rows)) (one_or (rests most_entries t.count t.count (length t.cols))
      (one_or (rests most_entries t.count t.count (length t.values)) none_left))).any
      (one_or (rests most_wagons t.n t.n (length t.c)) none_left)).any

-- the factor
module _ (run : Run) (n lent : ℕ) where
  abbrev FactorRests : Type 0
  FactorRests = (most_wagons < n) ⊎ (run.size ≡ n + 1 → ⊥) ⊎ (run.rank ≡ 0) ⊎ (most_rank < run.rank) ⊎ ⊥

  factor_short_read : (FactorRests → ⊥) × (lent < run.size * run.rank) → FactorTooShort run n lent
  factor_short_read (no-rest, l) =
      let a : (most_wagons < n → ⊥) = (λ x. no-rest (inl x)) in
      let b : (run.rank ≡ 0 → ⊥) = (λ x. no-rest (inr (inr (inl x)))) in
      let c : (most_rank < run.rank → ⊥) = (λ x. no-rest (inr (inr (inr (inl x))))) in
      record {
        wagons_few = omega arith;
        sizes_agree = stable (Decides-eqb run.size (n + 1)) (λ x. no-rest (inr (inl x)));
        rank_some = omega arith;
        rank_few = omega arith;
        factor_less = l;
      }

  factor_stands : FactorTooShort run n lent → FactorRests → ⊥
  factor_stands f (inl x) = omega (arith, f.wagons_few)
  factor_stands f (inr (inl x)) = x f.sizes_agree
  factor_stands f (inr (inr (inl x))) = omega (arith, f.rank_some)
  factor_stands f (inr (inr (inr (inl x)))) = omega (arith, f.rank_few)
  factor_stands f (inr (inr (inr (inr x)))) = x

  pub factor_short_decided : Decides (factor_short n run.size run.rank lent) (FactorTooShort run n lent)
  unfolding factor_short factor_refused
  factor_short_decided =
      Decides-like _ factor_short_read (λ f. (factor_stands f, f.factor_less))
      (too_short_lem (run.size * run.rank) lent
      (one_or (Decides-ltb most_wagons n) (one_or (Decides-not _ (Decides-eqb run.size (n + 1))) (one_or (Decides-eqb run.rank 0) (one_or (Decides-ltb most_rank run.rank) none_left)))).any)

-- the draws
module _ (rank draw_count lent : ℕ) where
  abbrev DrawsRest : Type 0
  DrawsRest = ((draw_count ≡ 0) ⊎ (most_draws < draw_count)) ⊎ (rank ≡ 0) ⊎ (most_rank < rank) ⊎ ⊥

  draws_short_read : (DrawsRest → ⊥) × (lent < draw_count * rank) → DrawsTooShort rank draw_count lent
  draws_short_read (no-rest, l) =
      let a : (draw_count ≡ 0 → ⊥) = (λ x. no-rest (inl (inl x))) in
      let b : (most_draws < draw_count → ⊥) = (λ x. no-rest (inl (inr x))) in
      let c : (rank ≡ 0 → ⊥) = (λ x. no-rest (inr (inl x))) in
      let d : (most_rank < rank → ⊥) = (λ x. no-rest (inr (inr (inl x)))) in
      record { draws_some = omega arith; draws_few = omega arith; drawn_some = omega arith; drawn_few = omega arith; draws_less = l }

  draws_stand : DrawsTooShort rank draw_count lent → DrawsRest → ⊥
  draws_stand f (inl (inl x)) = omega (arith, f.draws_some)
  draws_stand f (inl (inr x)) = omega (arith, f.draws_few)
  draws_stand f (inr (inl x)) = omega (arith, f.drawn_some)
  draws_stand f (inr (inr (inl x))) = omega (arith, f.drawn_few)
  draws_stand f (inr (inr (inr x))) = x

  pub draws_short_decided : Decides (draws_short rank draw_count lent) (DrawsTooShort rank draw_count lent)
  unfolding draws_short
  draws_short_decided =
      Decides-like _ draws_short_read (λ f. (draws_stand f, f.draws_less))
      (too_short_lem (draw_count * rank) lent (one_or (draws_decided draw_count) (one_or (Decides-eqb rank 0) (one_or (Decides-ltb most_rank rank) none_left))).any)

-- a sweep's slices
pub sweep_short_decided : (run : Run) (t : CostTable) (factor : ℕ) → Decides (sweep_short run t factor) (SweepTooShort run t factor)
unfolding sweep_short
sweep_short_decided run t factor = Decides-like _ to from (one_or (table_short_decided t) (one_or (factor_short_decided run t.n factor) none_left)).any
  where
    to : TableTooShort t ⊎ FactorTooShort run t.n factor ⊎ ⊥ → SweepTooShort run t factor
    to (inl s) = sweep_table s
    to (inr (inl s)) = sweep_factor s
    to (inr (inr x)) = absurd x

    from : SweepTooShort run t factor → TableTooShort t ⊎ FactorTooShort run t.n factor ⊎ ⊥
    from (sweep_table s) = inl s
    from (sweep_factor s) = inr (inl s)

-- a finish's
module _ (run : Run) (t : CostTable) (draw_count : ℕ) (lent : FinishLengths) where
  abbrev FinishShorts : Type 0
  FinishShorts =
      TableTooShort t ⊎ DrawsTooShort run.rank draw_count lent.draws ⊎ FactorTooShort run t.n lent.factor
      ⊎ (((t.n ≤ most_wagons) × (lent.b < t.n)) ⊎ ((t.n ≤ most_wagons) × (lent.dual < t.n + 1)) ⊎ ⊥) ⊎ (lent.workspace < search_workspace) ⊎ ⊥

  finish_short_read : FinishShorts → FinishTooShort run t draw_count lent
  finish_short_read (inl s) = finish_table s
  finish_short_read (inr (inl s)) = finish_draws s
  finish_short_read (inr (inr (inl s))) = finish_factor s
  finish_short_read (inr (inr (inr (inl (inl (a, b)))))) = finish_b a b
  finish_short_read (inr (inr (inr (inl (inr (inl (a, b))))))) = finish_dual a b
  finish_short_read (inr (inr (inr (inl (inr (inr x)))))) = absurd x
  finish_short_read (inr (inr (inr (inr (inl l))))) = finish_workspace l
  finish_short_read (inr (inr (inr (inr (inr x))))) = absurd x

  finish_short_back : FinishTooShort run t draw_count lent → FinishShorts
  finish_short_back (finish_table s) = inl s
  finish_short_back (finish_draws s) = inr (inl s)
  finish_short_back (finish_factor s) = inr (inr (inl s))
  finish_short_back (finish_b a b) = inr (inr (inr (inl (inl (a, b)))))
  finish_short_back (finish_dual a b) = inr (inr (inr (inl (inr (inl (a, b))))))
  finish_short_back (finish_workspace l) = inr (inr (inr (inr (inl l))))

  pub finish_short_decided : Decides (finish_short run t draw_count lent) (FinishTooShort run t draw_count lent)
  unfolding finish_short choice_short
  finish_short_decided =
      Decides-like _ finish_short_read finish_short_back
      (one_or (table_short_decided t) (one_or (draws_short_decided run.rank draw_count lent.draws) (one_or (factor_short_decided run t.n lent.factor)
      (one_or (one_or (rests most_wagons t.n t.n lent.b) (one_or (rests most_wagons t.n (t.n + 1) lent.dual) none_left)).any
      (one_or (Decides-ltb lent.workspace search_workspace) none_left))))).any

-- an open's
module _ (t : CostTable) (rank most start numbers factor : ℕ) where
  abbrev StartNeeds : ℕ
  StartNeeds = start_length start (t.n + 1) (rank_meant (t.n + 1) rank) most

  abbrev FactorNeeds : ℕ
  FactorNeeds = (t.n + 1) * rank_meant (t.n + 1) rank

  abbrev StartRests : Type 0
  StartRests = (most_wagons < t.n) ⊎ BadRank rank start ⊎ (2 < start) ⊎ ⊥

  abbrev OpenRests : Type 0
  OpenRests = (most_wagons < t.n) ⊎ BadRank rank start ⊎ ⊥

  start_stands : t.n ≤ most_wagons → (BadRank rank start → ⊥) → start ≤ 2 → StartRests → ⊥
  start_stands a b c (inl x) = omega arith
  start_stands a b c (inr (inl x)) = b x
  start_stands a b c (inr (inr (inl x))) = omega arith
  start_stands a b c (inr (inr (inr x))) = x

  open_stands : t.n ≤ most_wagons → (BadRank rank start → ⊥) → OpenRests → ⊥
  open_stands a b (inl x) = omega arith
  open_stands a b (inr (inl x)) = b x
  open_stands a b (inr (inr x)) = x

  abbrev OpenShorts : Type 0
  OpenShorts = TableTooShort t ⊎ ((StartRests → ⊥) × (numbers < StartNeeds)) ⊎ ((OpenRests → ⊥) × (factor < FactorNeeds)) ⊎ ⊥

  open_short_read : OpenShorts → OpenTooShort t rank most start numbers factor
  open_short_read (inl s) = open_table s
  open_short_read (inr (inl (n, l))) =
      let a : (most_wagons < t.n → ⊥) = (λ x. n (inl x)) in
      let b : (2 < start → ⊥) = (λ x. n (inr (inr (inl x)))) in
      open_start (omega arith) (λ x. n (inr (inl x))) (omega arith) l
  open_short_read (inr (inr (inl (n, l)))) =
      let a : (most_wagons < t.n → ⊥) = (λ x. n (inl x)) in
      open_factor (omega arith) (λ x. n (inr (inl x))) l
  open_short_read (inr (inr (inr x))) = absurd x

  open_short_back : OpenTooShort t rank most start numbers factor → OpenShorts
  open_short_back (open_table s) = inl s
  open_short_back (open_start a b c l) = inr (inl (start_stands a b c, l))
  open_short_back (open_factor a b l) = inr (inr (inl (open_stands a b, l)))

  pub open_short_decided : Decides (open_short t rank most start numbers factor) (OpenTooShort t rank most start numbers factor)
  unfolding open_short start_short open_factor_short
  open_short_decided =
      Decides-like _ open_short_read open_short_back
      (one_or (table_short_decided t)
      (one_or (too_short_lem StartNeeds numbers (one_or (Decides-ltb most_wagons t.n) (one_or (rank_decided rank start) (one_or (Decides-ltb 2 start) none_left))).any)
      (one_or (too_short_lem FactorNeeds factor (one_or (Decides-ltb most_wagons t.n) (one_or (rank_decided rank start) none_left)).any) none_left))).any

-- ---- the calls

pub open_answered : (t : CostTable) (rank rule : ℕ) (number : Float) (most start numbers factor : ℕ)
    → Answered (open_number t rank rule number most start numbers factor) (open_clauses t rank rule number most start numbers factor)
unfolding open_number
open_answered t rank rule number most start numbers factor =
    answered
    (then_if 30 (open_short_decided t rank most start numbers factor)
    (table_then t (then_if 16 (rank_decided rank start) (then_if 17 (rule_decided rule number) (then_if 18 (Decides-ltb 2 start) ends))))).first_is refl refl

pub sweep_answered : (run : Run) (t : CostTable) (factor : ℕ) → Answered (sweep_number run t factor) (sweep_clauses run t factor)
unfolding sweep_number
sweep_answered run t factor =
    answered
    (then_if 30 (sweep_short_decided run t factor) (then_if 31 (stopped_decided run.stage) (then_if 32 (record_decided run t.n)
    (table_then t (then_if 17 (record_momentum_decided run.rule) ends))))).first_is refl refl

pub member_answered : (run : Run) (t : CostTable) (factor : ℕ) → Answered (member_number run t factor) (member_clauses run t factor)
unfolding member_number
member_answered run t factor =
    answered
    (then_if 30 (sweep_short_decided run t factor) (then_if 32 (record_decided run t.n) (table_then t (then_if 17 (record_momentum_decided run.rule) ends)))).first_is
    refl refl

pub finish_answered : (run : Run) (t : CostTable) (width draw_count : ℕ) (lent : FinishLengths)
    → Answered (finish_number run t width draw_count lent) (finish_clauses run t width draw_count lent)
unfolding finish_number
finish_answered run t width draw_count lent =
    answered
    (then_if 30 (finish_short_decided run t draw_count lent) (then_if 31 (open_decided run.stage) (then_if 32 (record_decided run t.n)
    (table_then t (then_if 17 (record_momentum_decided run.rule) (then_if 18 (width_decided width draw_count) ends)))))).first_is refl refl

exchange_decided : (run : Run) (rule : ℕ) (number : Float) → Decides (bad_momentum run.rule || rule_refused rule number) (BadExchange run rule number)
exchange_decided run rule number = Decides-like _ to from (Decides-or _ _ (record_momentum_decided run.rule) (rule_decided rule number))
  where
    to : BadMomentum run.rule ⊎ BadRule rule number → BadExchange run rule number
    to (inl b) = old_momentum b
    to (inr b) = new_rule b

    from : BadExchange run rule number → BadMomentum run.rule ⊎ BadRule rule number
    from (old_momentum b) = inl b
    from (new_rule b) = inr b

pub exchange_answered : (run : Run) (rule : ℕ) (number : Float) → Answered (exchange_number run rule number) (exchange_clauses run rule number)
unfolding exchange_number
exchange_answered run rule number =
    answered (then_if 31 (stopped_decided run.stage) (then_if 32 (own_decided run) (then_if 17 (exchange_decided run rule number) ends))).first_is refl refl

-- number by number

module _ (t : CostTable) (rank rule : ℕ) (number : Float) (most start numbers factor : ℕ) where
  abbrev opened : ℕ
  opened = open_number t rank rule number most start numbers factor

  pub open_numbers :
      (opened ≡ 31 → OpenTooShort t rank most start numbers factor)
      × (opened ≡ 13 → BadSize t) × (opened ≡ 14 → BadEntry t.n (quadratic t)) × (opened ≡ 15 → Unmirrored (quadratic t)) × (opened ≡ 16 → TooLarge t)
      × (opened ≡ 17 → BadRank rank start) × (opened ≡ 18 → BadRule rule number) × (opened ≡ 19 → 2 < start)
  open_numbers =
      let a = open_answered t rank rule number most start numbers factor in
      (of_number 30 a, of_number 12 a, of_number 13 a, of_number 14 a, of_number 15 a, of_number 16 a, of_number 17 a, of_number 18 a)

module _ (run : Run) (t : CostTable) (factor : ℕ) where
  abbrev swept : ℕ
  swept = sweep_number run t factor

  pub sweep_numbers :
      (swept ≡ 31 → SweepTooShort run t factor) × (swept ≡ 32 → run.stage ≡ Stopped) × (swept ≡ 33 → BadRecord run t.n)
      × (swept ≡ 13 → BadSize t) × (swept ≡ 14 → BadEntry t.n (quadratic t)) × (swept ≡ 15 → Unmirrored (quadratic t)) × (swept ≡ 16 → TooLarge t)
      × (swept ≡ 18 → BadMomentum run.rule)
  sweep_numbers =
      let a = sweep_answered run t factor in
      (of_number 30 a, of_number 31 a, of_number 32 a, of_number 12 a, of_number 13 a, of_number 14 a, of_number 15 a, of_number 17 a)

module _ (run : Run) (t : CostTable) (width draw_count : ℕ) (lent : FinishLengths) where
  abbrev finished : ℕ
  finished = finish_number run t width draw_count lent

  pub finish_numbers :
      (finished ≡ 31 → FinishTooShort run t draw_count lent) × (finished ≡ 32 → run.stage ≡ Open) × (finished ≡ 33 → BadRecord run t.n)
      × (finished ≡ 13 → BadSize t) × (finished ≡ 14 → BadEntry t.n (quadratic t)) × (finished ≡ 15 → Unmirrored (quadratic t)) × (finished ≡ 16 → TooLarge t)
      × (finished ≡ 18 → BadMomentum run.rule) × (finished ≡ 19 → BadDraws width draw_count)
  finish_numbers =
      let a = finish_answered run t width draw_count lent in
      (of_number 30 a, of_number 31 a, of_number 32 a, of_number 12 a, of_number 13 a, of_number 14 a, of_number 15 a, of_number 17 a, of_number 18 a)

module _ (run : Run) (rule : ℕ) (number : Float) where
  abbrev asked : ℕ
  asked = exchange_number run rule number

  pub exchange_numbers : (asked ≡ 32 → run.stage ≡ Stopped) × (asked ≡ 33 → OwnFault run) × (asked ≡ 18 → BadExchange run rule number)
  exchange_numbers =
      let a = exchange_answered run rule number in
      (of_number 31 a, of_number 32 a, of_number 17 a)
