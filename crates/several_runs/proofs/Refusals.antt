-- A turn's number, both ways: where it isn't 0, the turn is turned down so as 02 says, and what turns it down is its number. Assumes nothing.
use Prim.Native.Nat.{ℕ, zero, suc, ◌<◌}
use mathlib.Core.Path.{◌≡◌, refl, sym, ◌∙◌}
use mathlib.Core.Bool.{Bool, true, false, false≢true}
use mathlib.Core.List.{[], ◌∷◌}
use native.Mathlib.Omega.{arith}
use borrow.Author.Tests.{ltb-true, eqb-true, eqb-false}
use Rattle.std.proofs.lemmas.Bool.{false_from_ne_true, true_from_ne_false}
use Rattle.laws.specs.Refusal.{or_else, first_of, any_of}
use Rattle.laws.proofs.Refusal.{first_here, first_skip, first_last, each, found, none_of}
use Rattle.laws.proofs.Any.{any_head}
use Rattle.limits.specs.Limits.{most_runs, least_turn, most_turn}
use Rattle.run_record.specs.declared.Run.{Run}
use Rattle.several_runs.specs.Turn.{Tables, bad_turn, bad_count, number_at, turn_number}
use Rattle.several_runs.specs.TurnedDown.{InRange, SomeRuns, TurnedDown, by_sweeps, by_runs, by_a_run}
use Rattle.several_runs.proofs.Counted.{turn_many, turn_few, count_few}

-- ---- 25, 26

in_range : (sweeps : ℕ) → bad_turn sweeps ≡ false → InRange sweeps
in_range sweeps e = (turn_many sweeps e, turn_few sweeps e)

-- of two tests one is true
either : (a b : Bool) → any_of (a ∷ b ∷ []) ≡ true → (a ≡ true → ⊥) → (b ≡ true → ⊥) → ⊥
unfolding any_of
either true b e not_a not_b = not_a refl
either false true e not_a not_b = not_b refl
either false false e not_a not_b = false≢true e

out_of_range : (sweeps : ℕ) → bad_turn sweeps ≡ true → InRange sweeps → ⊥
unfolding bad_turn
out_of_range sweeps e r = either _ _ e (λ l. omega (arith, ltb-true sweeps least_turn l, r.0)) (λ h. omega (arith, ltb-true most_turn sweeps h, r.1))

some_runs : (count : ℕ) → bad_count count ≡ false → SomeRuns count
unfolding bad_count
some_runs count e = (omega (arith, eqb-false count 0 (any_head _ _ e)), count_few count e)

not_some : (count : ℕ) → bad_count count ≡ true → SomeRuns count → ⊥
unfolding bad_count
not_some count e r = either _ _ e (λ n. omega (arith, eqb-true count 0 n, r.0)) (λ m. omega (arith, ltb-true most_runs count m, r.1))

-- ---- the first run that is refused

pub record First (f : ℕ → ℕ) (n number : ℕ) : Type 0 where
  pub place : ℕ
  pub below : place < n
  pub before : (j : ℕ) → j < place → f j ≡ 0
  pub is : number ≡ f place

first_of_lem : (f : ℕ → ℕ) (n : ℕ) → (first_of f n ≡ 0 → ⊥) → First f n (first_of f n)
unfolding first_of or_else
first_of_lem f zero nonzero = absurd (nonzero refl)
first_of_lem f (suc n) nonzero = by (first_of f n) refl nonzero (first_of_lem f n)
  where
    by : (so_far : ℕ) → first_of f n ≡ so_far → (or_else so_far (f n) ≡ 0 → ⊥) → ((first_of f n ≡ 0 → ⊥) → First f n (first_of f n)) → First f (suc n) (or_else so_far (f n))
    by zero e nonzero more = record { place = n; below = omega arith; before = each f n e; is = refl }
    by (suc k) e nonzero more =
        let m = more (λ z. let none : ◌≡◌ {A = ℕ} (suc k) 0 = sym e ∙ z in omega arith) in
        record { place = m.place; below = omega (arith, m.below); before = m.before; is = sym e ∙ m.is }

-- ---- both ways

module _ (sweeps count : ℕ) (at : ℕ → Run) (t : Tables) (lent : ℕ) where
  of_runs : bad_turn sweeps ≡ false → bad_count count ≡ false → turn_number sweeps count at t lent ≡ first_of (number_at at t lent) count
  unfolding turn_number
  of_runs e f = first_skip 25 _ _ e ∙ first_skip 26 _ _ f ∙ first_last _

  pub turned_down : (turn_number sweeps count at t lent ≡ 0 → ⊥) → TurnedDown sweeps count at t lent (turn_number sweeps count at t lent)
  unfolding turn_number
  turned_down nonzero = by (bad_turn sweeps) refl (bad_count count) refl
    where
      by : (turn : Bool) → bad_turn sweeps ≡ turn → (runs : Bool) → bad_count count ≡ runs → TurnedDown sweeps count at t lent (turn_number sweeps count at t lent)
      by true e runs f = by_sweeps (out_of_range sweeps e) (first_here 24 _ _ e)
      by false e true f = by_runs (in_range sweeps e) (not_some count f) (first_skip 25 _ _ e ∙ first_here 25 _ _ f)
      by false e false f =
          let is = of_runs e f in
          let m = first_of_lem (number_at at t lent) count (λ z. nonzero (is ∙ z)) in
          by_a_run (in_range sweeps e) (some_runs count f) m.place m.below m.before nonzero (is ∙ m.is)

  pub only_so : (number : ℕ) → TurnedDown sweeps count at t lent number → turn_number sweeps count at t lent ≡ number
  unfolding turn_number
  only_so number (by_sweeps bad e) = first_here 24 _ _ (true_from_ne_false (bad_turn sweeps) (λ z. bad (in_range sweeps z))) ∙ sym e
  only_so number (by_runs good bad e) =
      first_skip 25 _ _ (false_from_ne_true (bad_turn sweeps) (λ z. out_of_range sweeps z good)) ∙ first_here 25 _ _ (true_from_ne_false (bad_count count) (λ z. bad (some_runs count z))) ∙ sym e
  only_so number (by_a_run good some i l before nonzero e) =
      of_runs (false_from_ne_true (bad_turn sweeps) (λ z. out_of_range sweeps z good)) (false_from_ne_true (bad_count count) (λ z. not_some count z some))
      ∙ sym (found (number_at at t lent) i count (none_of (number_at at t lent) i before) l e nonzero)
