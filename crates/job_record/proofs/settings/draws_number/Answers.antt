use Prim.Native.Nat.{ℕ, ◌+◌, ◌*◌, ◌<◌, ◌≤◌}
use mathlib.Core.Path.{◌≡◌, refl, sym, ap, ◌∙◌}
use mathlib.Core.List.{List, [], ◌∷◌}
use mathlib.Core.Logic.{◌⊎◌, inl, inr}
use native.Mathlib.Omega.{arith}
use borrow.Author.Tests.{lt-ltb, le-ltb, eq-eqb, ne_eqb}
use lib.ListN.{length}
use lib.Dec.{ltb}
use Rattle.laws.specs.Refusal.{◌if◌, first}
use Rattle.std.proofs.lemmas.Bool.{cases_lt}
use Rattle.laws.proofs.Following.{answers, moves_on, answers_if, moves_on_if, passes_last}
use Rattle.limits.specs.Limits.{most_draws}
use Rattle.std.specs.Prelude.{Option}
use Rattle.job_reader.specs.Bytes.{big_endian, field_at, value_of}
use Rattle.job_record.specs.Reading.{field_number}
use Rattle.job_record.specs.Number.{bounded_number, draws_numbers}
use Rattle.job_record.proofs.Bounded.{bounded_passed}
use Rattle.job_record.proofs.FieldByField.{field_limit, field_there}
use Rattle.refusal.proofs.Passed.{passed}
use Rattle.job_record.proofs.Handed.{handed, refused}
use Rattle.job_record.proofs.settings.draws_number.Goals as goal

-- the draw count has passed its limit
module _ (s : List ℕ) (at rank : ℕ) {drawn : Option ℕ} {count : ℕ} (e : drawn ≡ field_at s at 2) (l : 0 ≡ field_number drawn (ltb most_draws) 19) (c : count ≡ value_of drawn) (h : at ≤ length s) where
  few : bounded_number s at 2 most_draws 19 ≡ 0
  few = sym (field_limit s at 2 e most_draws 19 l)

  is : count ≡ big_endian s at 2
  is = c ∙ ap value_of (field_there s at 2 e (bounded_passed s at 2 most_draws 18 few).0)

  none : count ≡ 0 → 19 ≡ first (draws_numbers s at rank)
  unfolding draws_numbers
  none z = moves_on_if 11 _ _ (le-ltb _ _ h) (moves_on _ _ {x = 0} (sym few) refl (answers_if 18 _ _ (eq-eqb _ _ (sym is ∙ z))))

  module _ (some : count ≡ 0 → ⊥) where
    -- up to the last two tests
    past_count : {r : ℕ} → r ≡ first (11 if ltb (length s) (at + 2 + count * rank * 8) ∷ 11 if ltb (at + 2 + count * rank * 8) (length s) ∷ []) → r ≡ first (draws_numbers s at rank)
    unfolding draws_numbers
    past_count e = moves_on_if 11 _ _ (le-ltb _ _ h) (moves_on _ _ {x = 0} (sym few) refl (rw (← is) (moves_on_if 19 _ _ (ne_eqb _ _ some) e)))

    not_whole : (length s ≡ at + 2 + count * rank * 8 → ⊥) → 11 ≡ first (draws_numbers s at rank)
    not_whole n = past_count (go (cases_lt (length s) (at + 2 + count * rank * 8)))
      where
        go : (length s < at + 2 + count * rank * 8) ⊎ (at + 2 + count * rank * 8 ≤ length s) → 11 ≡ first (11 if ltb (length s) (at + 2 + count * rank * 8) ∷ 11 if ltb (at + 2 + count * rank * 8) (length s) ∷ [])
        go (inl l) = answers_if 10 _ _ (lt-ltb _ _ l)
        go (inr l) = moves_on_if 11 _ _ (le-ltb _ _ l) (above l (cases_lt (at + 2 + count * rank * 8) (length s)))
          where
            above : at + 2 + count * rank * 8 ≤ length s → (at + 2 + count * rank * 8 < length s) ⊎ (length s ≤ at + 2 + count * rank * 8) → 11 ≡ first (11 if ltb (at + 2 + count * rank * 8) (length s) ∷ [])
            above l (inl b) = answers_if 10 _ _ (lt-ltb _ _ b)
            above l (inr m) = absurd (n (omega arith))

    whole : length s ≡ at + 2 + count * rank * 8 → 0 ≡ first (draws_numbers s at rank)
    whole e = past_count (moves_on_if 11 _ _ (le-ltb _ _ (omega arith)) (passes_last 11 _ (le-ltb _ _ (omega arith))))

pub returns-in_err-limit_number : goal.returns-in_err-limit_number
unfolding draws_numbers
returns-in_err-limit_number c = let p = passed c.from_residual.ensures.1 in
    moves_on_if _ _ _ (le-ltb _ _ c.if-job-at.false) (answers _ _ (field_limit c.args.job.now c.args.at 2 c.field_at-drawn.ensures most_draws 19 (handed p c.in_err-limit_number.ensures)) (refused p))

pub returns-then-count-eq0 : goal.returns-then-count-eq0
returns-then-count-eq0 c = none _ _ _ c.field_at-drawn.ensures c.in_ok-limit_number.ensures c.unwrap_or-count.ensures c.if-job-at.false c.if-count-eq0.true

pub returns-then-job-end : goal.returns-then-job-end
returns-then-job-end c = not_whole _ _ _ c.field_at-drawn.ensures c.in_ok-limit_number.ensures c.unwrap_or-count.ensures c.if-job-at.false c.if-count-eq0.false c.if-job-end.true

pub returns : goal.returns
returns c = whole _ _ _ c.field_at-drawn.ensures c.in_ok-limit_number.ensures c.unwrap_or-count.ensures c.if-job-at.false c.if-count-eq0.false c.if-job-end.false
