-- When open, sweep and finish refuse nothing. Assumes nothing.
use Prim.Native.Nat.{ℕ, zero, suc, ◌+◌, ◌*◌, ◌≤◌, ◌<◌}
use mathlib.Core.Path.{◌≡◌, refl, ap, ◌∙◌}
use mathlib.Core.Bool.{Bool, true, false, not}
use native.Mathlib.Omega.{arith}
use lib.Dec.{ltb, eqb}
use lib.ListN.{length}
use lib.Ieee.{Float}
use borrow.Author.Tests.{le-ltb, eq-eqb, ne_eqb, eqb-true}
use Rattle.laws.specs.Refusal.{short}
use Rattle.laws.proofs.Refusal.{first_end, first_next, first_skip}
use Rattle.std.proofs.lemmas.Bool.{and_left, or_from, and_right}
use Rattle.laws.proofs.Any.{false_and, any_none, any_not}
use Rattle.tables.specs.Check.{short_table}
use Rattle.run_record.specs.declared.Run.{Run}
use Rattle.tables.specs.CostTable.{CostTable}
use Rattle.limits.specs.Limits.{most_rank, most_width, most_draws, search_workspace}
use Rattle.run_limits.specs.Rank.{rank_meant}
use Rattle.run_limits.specs.Momentum.{is_momentum}
use Rattle.run_limits.specs.Start.{start_length}
use Rattle.run_limits.specs.Draws.{bad_draws}
use Rattle.run_record.specs.Numbers.{is_stopped, table_short, factor_short, record_refused, cost_table_number, bad_momentum, sweep_short, sweep_number, draws_short, choice_short, FinishLengths, finish_short, width_refused, finish_number, open_rank_refused, start_short, open_factor_short, open_short, rule_refused, open_number}
use Rattle.step_rules.specs.Rule.{rule_of}

-- a slice that is long enough, whatever its length rests on
long : (refused : Bool) (needed lent : ℕ) → needed ≤ lent → short refused needed lent ≡ false
unfolding short
long true needed lent h = refl
long false needed lent h = le-ltb lent needed h

-- ---- tables

pub table_there : (t : CostTable) → t.count ≤ length t.rows → t.count ≤ length t.cols → t.count ≤ length t.values → t.n ≤ length t.c → table_short t ≡ false
unfolding table_short short_table
table_there t r k v c =
    any_not _ _ (any_not _ _ (long _ _ _ r) (any_not _ _ (long _ _ _ k) (any_not _ _ (long _ _ _ v) any_none)))
    (any_not _ _ (long _ _ _ c) any_none)

-- ---- rules

-- a rule's code with its number, where momentum is momentum
pub rule_passes : (code : ℕ) (number : Float) → code ≤ 4 → (code ≡ 4 → is_momentum number ≡ true) → rule_refused code number ≡ false
unfolding rule_refused
rule_passes code number h m =
    or_from (ltb 4 code) _ (le-ltb 4 code h)
    (false_and (eqb code 4) (not (is_momentum number)) (λ four. ap not (m (eqb-true code 4 four))))

pub momentum_passes : (code : ℕ) (number : Float) → code ≤ 4 → (code ≡ 4 → is_momentum number ≡ true) → bad_momentum (rule_of code number) ≡ false
momentum_passes zero number h m = refl
momentum_passes (suc zero) number h m = refl
momentum_passes (suc (suc zero)) number h m = refl
momentum_passes (suc (suc (suc zero))) number h m = refl
momentum_passes (suc (suc (suc (suc zero)))) number h m = ap not (m refl)
momentum_passes (suc (suc (suc (suc (suc k))))) number h m = absurd (omega arith)

-- ---- open

pub rank_passes : (rank start : ℕ) → rank ≤ most_rank → (start ≡ 1 → rank ≡ 0 → ⊥) → open_rank_refused rank start ≡ false
unfolding open_rank_refused
rank_passes rank start h g =
    or_from (ltb most_rank rank) _ (le-ltb most_rank rank h) (false_and (eqb rank 0) (eqb start 1) (λ a. ne_eqb start 1 (λ b. g b (eqb-true rank 0 a))))

pub open_passes : (t : CostTable) (rank rule : ℕ) (number : Float) (most start numbers factor : ℕ) → table_short t ≡ false → cost_table_number t ≡ 0
    → start_length start (t.n + 1) (rank_meant (t.n + 1) rank) most ≤ numbers → (t.n + 1) * rank_meant (t.n + 1) rank ≤ factor
    → open_rank_refused rank start ≡ false → rule_refused rule number ≡ false → start ≤ 2
    → open_number t rank rule number most start numbers factor ≡ 0
unfolding open_number open_short start_short open_factor_short
open_passes t rank rule number most start numbers factor there table ns fs ranked ruled kind =
    first_skip 31 _ _ (any_not _ _ there (any_not _ _ (long _ _ _ ns) (any_not _ _ (long _ _ _ fs) any_none)))
    ∙ first_next _ _ table ∙ first_skip 17 _ _ ranked ∙ first_skip 18 _ _ ruled ∙ first_skip 19 _ _ (le-ltb 2 start kind) ∙ first_end

-- ---- the record

module _ (run : Run) (n : ℕ) (size : run.size ≡ n + 1) (some : 1 ≤ run.rank) (few : run.rank ≤ most_rank) where
  zero_not : eqb run.rank 0 ≡ false
  zero_not = ne_eqb run.rank 0 (λ e. omega (arith, e))

  same_size : not (eqb run.size (n + 1)) ≡ false
  same_size = ap not (eq-eqb run.size (n + 1) size)

  pub stopped_record : is_stopped run.stage ≡ true → run.sweeps ≤ run.most → run.status ≤ 2 → run.standing ≤ run.size * run.sweeps
      → record_refused run n ≡ false
  unfolding record_refused
  stopped_record e l s t =
      any_not _ _ same_size (any_not _ _ zero_not (any_not _ _ (le-ltb most_rank run.rank few) (any_not _ _ (le-ltb run.most run.sweeps l)
      (any_not _ _ (and_left (not (is_stopped run.stage)) (eqb run.sweeps run.most) (ap not e)) (any_not _ _ (le-ltb 2 run.status s)
      (any_not _ _ (and_left (not (is_stopped run.stage)) (not (eqb run.status 0)) (ap not e)) (any_not _ _ (le-ltb (run.size * run.sweeps) run.standing t) any_none)))))))

  pub open_record : run.sweeps < run.most → run.status ≡ 0 → run.standing ≤ run.size * run.sweeps → record_refused run n ≡ false
  unfolding record_refused
  open_record l s t =
      any_not _ _ same_size (any_not _ _ zero_not (any_not _ _ (le-ltb most_rank run.rank few) (any_not _ _ (le-ltb run.most run.sweeps (omega arith))
      (any_not _ _ (and_right (not (is_stopped run.stage)) (eqb run.sweeps run.most) (ne_eqb run.sweeps run.most (λ e. omega (arith, e)))) (any_not _ _ (le-ltb 2 run.status (omega arith))
      (any_not _ _ (and_right (not (is_stopped run.stage)) (not (eqb run.status 0)) (ap not (eq-eqb run.status 0 s))) (any_not _ _ (le-ltb (run.size * run.sweeps) run.standing t) any_none)))))))

-- ---- sweep and finish

pub sweep_passes : (run : Run) (t : CostTable) (factor : ℕ) → table_short t ≡ false → run.size * run.rank ≤ factor → is_stopped run.stage ≡ false
    → record_refused run t.n ≡ false → cost_table_number t ≡ 0 → bad_momentum run.rule ≡ false → sweep_number run t factor ≡ 0
unfolding sweep_number sweep_short factor_short
sweep_passes run t factor there fs stage sound table rule =
    first_skip 31 _ _ (any_not _ _ there (any_not _ _ (long _ _ _ fs) any_none))
    ∙ first_skip 32 _ _ stage ∙ first_skip 33 _ _ sound ∙ first_next _ _ table ∙ first_skip 18 _ _ rule ∙ first_end

pub width_passes : (width draw_count : ℕ) → width ≤ most_width → 1 ≤ draw_count → draw_count ≤ most_draws → width_refused width draw_count ≡ false
unfolding width_refused bad_draws
width_passes width draw_count w some few =
    or_from (ltb most_width width) _ (le-ltb most_width width w) (or_from (eqb draw_count 0) _ (ne_eqb draw_count 0 (λ e. omega (arith, e))) (le-ltb most_draws draw_count few))

pub finish_passes : (run : Run) (t : CostTable) (width draw_count : ℕ) (lent : FinishLengths) → table_short t ≡ false
    → draw_count * run.rank ≤ lent.draws → run.size * run.rank ≤ lent.factor → t.n ≤ lent.b → t.n + 1 ≤ lent.dual → search_workspace ≤ lent.workspace
    → is_stopped run.stage ≡ true → record_refused run t.n ≡ false → cost_table_number t ≡ 0 → bad_momentum run.rule ≡ false → width_refused width draw_count ≡ false
    → finish_number run t width draw_count lent ≡ 0
unfolding finish_number finish_short draws_short factor_short choice_short
finish_passes run t width draw_count lent there ds fs bs ms ws stage sound table rule settings =
    first_skip 31 _ _
    (any_not _ _ there (any_not _ _ (long _ _ _ ds) (any_not _ _ (long _ _ _ fs)
    (any_not _ _ (any_not _ _ (long _ _ _ bs) (any_not _ _ (long _ _ _ ms) any_none)) (any_not _ _ (le-ltb lent.workspace search_workspace ws) any_none)))))
    ∙ first_skip 32 _ _ (ap not stage) ∙ first_skip 33 _ _ sound ∙ first_next _ _ table ∙ first_skip 18 _ _ rule ∙ first_skip 19 _ _ settings ∙ first_end
