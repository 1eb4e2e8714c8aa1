-- What holds where a call is accepted: the table is a hall in slices that hold it, and every other slice is long enough. Assumes nothing.
use Prim.Native.Nat.{ℕ, ◌+◌, ◌*◌, ◌≤◌}
use mathlib.Core.Path.{◌≡◌, sym, ap}
use mathlib.Core.Bool.{false, not, ◌&&◌, ◌||◌}
use native.Mathlib.Numerals.{add-one}
use native.Mathlib.Omega.{arith}
use borrow.Author.Tests.{ltb-false, le-ltb, eqb-true, eqb-false, not-false}
use lib.Dec.{ltb, eqb}
use lib.Ieee.{Float}
use mathlib.Core.List.{[], ◌∷◌}
use lib.ListN.{length}
use Rattle.laws.specs.Refusal.{◌if◌, first}
use Rattle.laws.proofs.Refusal.{clear, first_head, first_rest}
use Rattle.std.proofs.lemmas.Bool.{or_parts}
use Rattle.laws.proofs.Any.{any_head, any_rest, any_not, any_none}
use Rattle.limits.specs.Limits.{most_wagons, most_entries, most_magnitude, most_rank, most_width}
use Rattle.tables.specs.Table.{Lent}
use Rattle.tables.specs.Check.{Hall}
use Rattle.tables.proofs.Checks.{hall_accepted, long_enough}
use Rattle.run_record.specs.declared.Run.{Run}
use Rattle.tables.specs.CostTable.{CostTable, quadratic, linear}
use Rattle.run_limits.specs.Momentum.{is_momentum}
use Rattle.run_limits.specs.Start.{is_signs, draws_follow, start_count, start_length}
use Rattle.run_limits.specs.Draws.{bad_draws}
use Rattle.run_record.specs.Numbers.{table_short, factor_refused, factor_short, record_refused, cost_table_number, sweep_short, sweep_number, member_number, draws_short, choice_short, FinishLengths, finish_short, width_refused, finish_number, open_rank_refused, start_short, open_factor_short, open_short, open_number, rule_refused, exchange_number, bad_momentum}
use Rattle.run_record.proofs.Holds.{table_lent, costs_lent}
use Rattle.run_limits.proofs.Ranks.{meant_low, meant_some}
use Rattle.run_limits.proofs.Counts.{draws_some, draws_few}
use Rattle.run_record.proofs.Ranked.{taken_low}
use Rattle.run_sweep.specs.Running.{Running}
use Rattle.finalize.specs.Clauses.{Fits}
use Rattle.run_contract.specs.Calls.{Settings, open_size, open_rank, open_number_of, used}

some : (k : ℕ) → eqb k 0 ≡ false → 1 ≤ k
some k e = omega (arith, eqb-false k 0 e)

-- ---- the table

abbrev pub HallOf : CostTable → Type 0
HallOf t = Hall most_wagons most_entries most_magnitude t.n (quadratic t) (linear t)

abbrev pub LentOf : CostTable → Type 0
LentOf t = Lent t.count t.rows t.cols t.values

few_wagons : (t : CostTable) → HallOf t → ltb most_wagons t.n ≡ false
few_wagons t hall = le-ltb most_wagons t.n hall.wagons

-- ---- the record

-- what a record is that isn't 33
record Agrees (run : Run) (n : ℕ) : Type 0 where
  size_test : not (eqb run.size (n + 1)) ≡ false
  some_test : eqb run.rank 0 ≡ false
  few_test : ltb most_rank run.rank ≡ false
  runs : Running run

agrees : (run : Run) (n : ℕ) → record_refused run n ≡ false → Agrees run n
unfolding record_refused
agrees run n e =
    let ranks = any_rest _ _ e in
    let limits = any_rest _ _ (any_rest _ _ ranks) in
    let total = any_rest _ _ (any_rest _ _ (any_rest _ _ (any_rest _ _ limits))) in
    record {
      size_test = any_head _ _ e;
      some_test = any_head _ _ ranks;
      few_test = any_head _ _ (any_rest _ _ ranks);
      runs = record {
        sweep_left = λ open'. omega (arith, ltb-false run.most run.sweeps (any_head _ _ limits), eqb-false run.sweeps run.most (rw (ap not open') at (any_head _ _ (any_rest _ _ limits))));
        standing_few = ltb-false _ _ (any_head _ _ total);
      };
    }

size_of : {run : Run} {n : ℕ} → Agrees run n → run.size ≡ n + 1
size_of a = eqb-true _ _ (not-false _ a.size_test)

factor_long : (run : Run) (t : CostTable) (lent : ℕ) → HallOf t → Agrees run t.n → factor_short t.n run.size run.rank lent ≡ false → used run ≤ lent
unfolding factor_short factor_refused
factor_long run t lent hall a e = long_enough e (any_not _ _ (few_wagons t hall) (any_not _ _ a.size_test (any_not _ _ a.some_test (any_not _ _ a.few_test any_none))))

-- ---- open

-- what an open works on
pub record Openable (o : Settings) (factor : ℕ) : Type 0 where
  pub slices : LentOf o.table
  pub costs : o.table.n ≤ length o.table.c
  pub hall : HallOf o.table
  pub rule_few : o.rule ≤ 4
  pub rank_some : 1 ≤ open_rank o
  pub rank_few : open_rank o ≤ most_rank
  pub numbers_room : start_count (is_signs o.start) (draws_follow o.most (open_rank o)) (open_rank o) (open_size o) ≤ length o.numbers
  pub factor_room : open_size o * open_rank o ≤ factor

module _ (o : Settings) (factor : ℕ) where
  pub open_accepted : open_number_of o factor ≡ 0 → Openable o factor
  unfolding open_number open_short start_short start_length open_factor_short rule_refused
  open_accepted ok =
      let s = clear (open_short o.table o.rank o.most o.start (length o.numbers) factor) 30 (first_head _ _ ok) in
      let past = first_rest _ _ ok in
      let hall : HallOf o.table = hall_accepted (first_head _ _ past) in
      let rank-good = clear (open_rank_refused o.rank o.start) 16 (first_head _ _ (first_rest _ _ past)) in
      let rule_good = clear (rule_refused o.rule o.number) 17 (first_head _ _ (first_rest _ _ (first_rest _ _ past))) in
      let kind-good = clear (ltb 2 o.start) 18 (first_head _ _ (first_rest _ _ (first_rest _ _ (first_rest _ _ past)))) in
      let few = few_wagons o.table hall in
      let table : table_short o.table ≡ false = any_head _ _ s in
      record {
        slices = table_lent o.table table hall.entries;
        costs = costs_lent o.table table hall.wagons;
        hall = hall;
        rule_few = ltb-false 4 o.rule (or_parts (ltb 4 o.rule) _ rule_good).0;
        rank_some = meant_some (open_size o) o.rank;
        rank_few = meant_low (open_size o) o.rank (omega (arith, hall.wagons)) (taken_low o.rank o.start rank-good);
        numbers_room = long_enough (any_head _ _ (any_rest _ _ s)) (any_not _ _ few (any_not _ _ rank-good (any_not _ _ kind-good any_none)));
        factor_room = long_enough (any_head _ _ (any_rest _ _ (any_rest _ _ s))) (any_not _ _ few (any_not _ _ rank-good any_none));
      }

-- ---- sweep

-- what a sweep works on
pub record Sweeping (run : Run) (t : CostTable) (factor : ℕ) : Type 0 where
  pub slices : LentOf t
  pub costs : t.n ≤ length t.c
  pub hall : HallOf t
  pub size_is : run.size ≡ t.n + 1
  pub rank_some : 1 ≤ run.rank
  pub rank_few : run.rank ≤ most_rank
  pub running : Running run
  pub factor_room : used run ≤ factor

module _ (run : Run) (t : CostTable) (factor : ℕ) where
  fit : (31 if sweep_short run t factor) ≡ 0 → first (33 if record_refused run t.n ∷ cost_table_number t ∷ 18 if bad_momentum run.rule ∷ []) ≡ 0 → Sweeping run t factor
  unfolding sweep_short
  fit enough past =
      let s = clear (sweep_short run t factor) 30 enough in
      let a = agrees run t.n (clear (record_refused run t.n) 32 (first_head _ _ past)) in
      let hall : HallOf t = hall_accepted (first_head _ _ (first_rest _ _ past)) in
      let table : table_short t ≡ false = any_head _ _ s in
      record {
        slices = table_lent t table hall.entries;
        costs = costs_lent t table hall.wagons;
        hall = hall;
        size_is = size_of a;
        rank_some = some run.rank a.some_test;
        rank_few = ltb-false _ _ a.few_test;
        running = a.runs;
        factor_room = factor_long run t factor hall a (any_head _ _ (any_rest _ _ s));
      }

  pub sweep_accepted : sweep_number run t factor ≡ 0 → Sweeping run t factor
  unfolding sweep_number
  sweep_accepted ok = fit (first_head _ _ ok) (first_rest _ _ (first_rest _ _ ok))

  -- a run among several, stopped or not, is as fit
  pub member_accepted : member_number run t factor ≡ 0 → Sweeping run t factor
  unfolding member_number
  member_accepted ok = fit (first_head _ _ ok) (first_rest _ _ ok)

-- ---- finish

-- what a finish works on
pub record Finishable (run : Run) (t : CostTable) (width draw_count : ℕ) (lent : FinishLengths) : Type 0 where
  pub slices : LentOf t
  pub costs : t.n ≤ length t.c
  pub hall : HallOf t
  pub size_is : run.size ≡ t.n + 1
  pub factor_room : used run ≤ lent.factor
  pub fits : Fits t.n run.rank width draw_count lent.draws lent.factor lent.b lent.dual lent.workspace

module _ (run : Run) (t : CostTable) (width draw_count : ℕ) (lent : FinishLengths) where
  pub finish_accepted : finish_number run t width draw_count lent ≡ 0 → Finishable run t width draw_count lent
  unfolding finish_number finish_short draws_short choice_short width_refused
  finish_accepted ok =
      let s = clear (finish_short run t draw_count lent) 30 (first_head _ _ ok) in
      let past = first_rest _ _ (first_rest _ _ ok) in
      let a = agrees run t.n (clear (record_refused run t.n) 32 (first_head _ _ past)) in
      let hall : HallOf t = hall_accepted (first_head _ _ (first_rest _ _ past)) in
      let settings = clear (width_refused width draw_count) 18 (first_head _ _ (first_rest _ _ (first_rest _ _ (first_rest _ _ past)))) in
      let draws : bad_draws draw_count ≡ false = (or_parts (ltb most_width width) (bad_draws draw_count) settings).1 in
      let few = few_wagons t hall in
      let table : table_short t ≡ false = any_head _ _ s in
      let s₁ = any_rest _ _ s in
      let s₂ = any_rest _ _ s₁ in
      let s₃ = any_rest _ _ s₂ in
      let room : used run ≤ lent.factor = factor_long run t lent.factor hall a (any_head _ _ s₂) in
      record {
        slices = table_lent t table hall.entries;
        costs = costs_lent t table hall.wagons;
        hall = hall;
        size_is = size_of a;
        factor_room = room;
        fits = record {
          rank_some = some run.rank a.some_test;
          rank_few = ltb-false _ _ a.few_test;
          width_few = ltb-false _ _ (or_parts (ltb most_width width) (bad_draws draw_count) settings).0;
          draws_some = draws_some draw_count draws;
          draws_few = draws_few draw_count draws;
          draws_room = long_enough (any_head _ _ s₁) (any_not _ _ draws (any_not _ _ a.some_test (any_not _ _ a.few_test any_none)));
          factor_room = rw (sym (add-one t.n), sym (size_of a)) room;
          b_room = long_enough (any_head _ _ (any_head _ _ s₃)) few;
          multipliers_room = rw (sym (add-one t.n)) (long_enough (any_head _ _ (any_rest _ _ (any_head _ _ s₃))) few);
          space_room = ltb-false _ _ (any_head _ _ (any_rest _ _ s₃));
        };
      }

-- ---- exchange

-- the rule that an accepted exchange asks for is one of the five
pub exchange_rule_few : (run : Run) (rule : ℕ) (number : Float) → exchange_number run rule number ≡ 0 → rule ≤ 4
unfolding exchange_number rule_refused
exchange_rule_few run rule number ok =
    let both = clear (bad_momentum run.rule || (ltb 4 rule || (eqb rule 4 && not (is_momentum number)))) 17 (first_head _ _ (first_rest _ _ (first_rest _ _ ok))) in
    ltb-false 4 rule (or_parts (ltb 4 rule) _ (or_parts (bad_momentum run.rule) _ both).1).0
