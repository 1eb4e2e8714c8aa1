-- The walk, step by step: what is kept of the choices visited, where the walk stands at first, and where each half of it stands.
-- Assumes nothing.
use mathlib.Core.Path.{◌≡◌, refl, sym, ap, ap₂, subst, ◌∙◌}
use mathlib.Core.Bool.{Bool, true, false, cond}
use mathlib.Core.List.{List}
use Prim.Native.Nat.{ℕ, zero, suc, ◌+◌, ◌-◌, ◌*◌, ◌^◌, ◌<◌, ◌≤◌}
use native.Mathlib.Nat.{pow-zero, pow-succ', mul_assoc, zero-mul}
use native.Mathlib.Omega.{arith}
use lib.Pow.{pow-add, pow_mono}
use lib.IntN.{ℤ, pos, neg_ℤ, nat_abs, ◌+ℤ◌, ◌*ℤ◌}
use lib.Signed.{lt_z}
use Rattle.laws.specs.Lists.{elem_z}
use Rattle.laws.proofs.Any.{cond_same}
use mir.Syntax.{w64}
use mir.Val.{SFits}
use mir.Facts.{to_z-of_z}
use Rattle.exhaustive.proofs.Terms.{word, word_is}
use Rattle.std.proofs.lemmas.Int.{fits_signed_from_abs}
use Rattle.laws.proofs.Integer.{parts, differences, ring, abs_add, abs_neg}
use Rattle.tables.specs.Table.{Table, InRange}
use Rattle.laws.proofs.Sums.{total_at}
use Rattle.tables.specs.Check.{Hall}
use Rattle.limits.specs.Limits.{most_wagons, most_entries, most_magnitude, most_sign_magnitude}
use Rattle.tables.proofs.Mirrors.{hall_symmetric}
use Rattle.rounding.specs.Rounding.{first_least}
use Rattle.exhaustive.specs.Choices.{walk_cost, least_number}
use Rattle.exhaustive.specs.Walk.{Best, LaidOut, Small, Standing, Raised, Raisable, Walked-on, Starts}
use Rattle.exhaustive.proofs.Gains.{gain_of, zero_cost, zero_gain, digit_shifts, digit_grows, cost_small, value_small}

-- ---- the best so far

-- one more choice
pub best_next : (f : ℕ → ℤ) (k : ℕ) (least : ℤ) (number : ℕ) → Best f k least number
    → Best f (k + 1) (cond (lt_z (f k) least) (f k) least) (cond (lt_z (f k) least) k number)
unfolding first_least
best_next f zero least number b = record {
  least_is = ap (λ z. cond (lt_z (f 0) least) (f 0) z) b.least_is ∙ cond_same (lt_z (f 0) least) (f 0);
  number_is = ap (λ z. cond (lt_z (f 0) least) 0 z) b.number_is ∙ cond_same (lt_z (f 0) least) 0;
}
best_next f (suc k) least number b =
    let back : suc k - 1 ≡ k = omega arith in
    let l : least ≡ f (first_least f k) = rw back at b.least_is in
    let m : number ≡ first_least f k = rw back at b.number_is in
    let e : suc k + 1 - 1 ≡ suc k = omega arith in
    record {
      least_is = rw (e, l) (pick (lt_z (f (suc k)) (f (first_least f k))));
      number_is = rw (e, l, m) refl;
    }
  where
    pick : (t : Bool) → cond t (f (suc k)) (f (first_least f k)) ≡ f (cond t (suc k) (first_least f k))
    pick true = refl
    pick false = refl

-- ---- a choice whose d lowest digits are 0 has those below 0 too

lower : (turn d j : ℕ) → j < d → (q : ℕ) × (turn * 2 ^ d ≡ q * 2 ^ suc j)
lower turn d j h =
    let e : d ≡ (d - suc j) + suc j = omega arith in
    (turn * 2 ^ (d - suc j), ap (λ (x : ℕ). turn * 2 ^ x) e ∙ ap (λ (x : ℕ). turn * x) (pow-add 2 (d - suc j) (suc j)) ∙ sym (mul_assoc turn (2 ^ (d - suc j)) (2 ^ suc j)))

-- what each digit adds is the difference of two costs
difference : (x y g : ℤ) → y ≡ x +ℤ g → nat_abs x ≤ most_sign_magnitude → nat_abs y ≤ most_sign_magnitude → nat_abs g ≤ 2 ^ 43
difference x y g e a b = rw is (omega (arith, abs_add y (neg_ℤ x), abs_neg x))
  where
    back : (x g : ℤ) → g ≡ x +ℤ g +ℤ neg_ℤ x
    back x g = rw (parts x, parts g) (simp differences (omega ring))

    is : g ≡ y +ℤ neg_ℤ x
    is = back x g ∙ ap (λ z. z +ℤ neg_ℤ x) (sym e)

pub double : (d : ℕ) → (d ≡ 0 → ⊥) → 2 ^ d ≡ 2 * 2 ^ (d - 1)
double zero z = absurd (z refl)
double (suc d) z = let e : suc d - 1 ≡ d = omega arith in rw e (pow-succ' 2 d)

module _ {d : ℕ} {cost : ℤ} {fields grid : List ℤ} {visited : ℕ} {least : ℤ} {number : ℕ} where
  pub field_small : Standing d cost fields grid visited least number → (j : ℕ) → j < d → nat_abs (elem_z fields j) ≤ 2 ^ 43
  field_small s j h =
      let (q, e) = lower s.turn d j h in
      let at : visited ≡ q * 2 ^ suc j = s.visited_is ∙ e in
      let is : elem_z fields j ≡ s.g j (q * 2 ^ suc j) = s.fields_are j h ∙ ap (s.g j) at in
      rw is (difference (s.f (q * 2 ^ suc j)) (s.f (q * 2 ^ suc j + 2 ^ j)) (s.g j (q * 2 ^ suc j)) (s.grows j q h) (s.costs_small _) (s.costs_small _))

  -- the cost given another way
  unfoldable pub same_stands : {cost' : ℤ} → cost' ≡ cost → Standing d cost fields grid visited least number → Standing d cost' fields grid visited least number
  same_stands e s = record {
    f = s.f;
    g = s.g;
    turn = s.turn;
    few = s.few;
    visited_is = s.visited_is;
    within = s.within;
    cost_is = e ∙ s.cost_is;
    fields_are = s.fields_are;
    grows = s.grows;
    shifts = s.shifts;
    costs_small = s.costs_small;
    grid_small = s.grid_small;
    best = s.best;
  }

  -- the one choice of no digits
  pub end_stands : (z : d ≡ 0) (s : Standing d cost fields grid visited least number) {least' : ℤ} {number' visited' : ℕ}
      → least' ≡ cond (lt_z cost least) cost least → number' ≡ cond (lt_z cost least) visited number → visited' ≡ visited + 1
      → Walked-on s.f d visited least' number' visited'
  end_stands z s e₁ e₂ e₃ =
      let p : 2 ^ d ≡ 1 = ap (λ (x : ℕ). 2 ^ x) z ∙ pow-zero 2 in
      let b = best_next s.f visited least number s.best in
      record {
        visited_on = e₃ ∙ ap (λ (x : ℕ). visited + x) (sym p);
        best_on = rw (p, e₁, e₂, s.cost_is) b;
      }

  module _ (z : d ≡ 0 → ⊥) (s : Standing d cost fields grid visited least number) where
    -- visited is a multiple of 2^(top + 1), for top = d - 1
    pub at_top : visited ≡ s.turn * 2 ^ suc (d - 1)
    at_top = let e : d ≡ suc (d - 1) = omega arith in s.visited_is ∙ ap (λ (x : ℕ). s.turn * 2 ^ x) e

    -- the choices with the top digit 0
    unfoldable pub low_stands : {cost' : ℤ} → cost' ≡ cost → Standing (d - 1) cost' fields grid visited least number
    low_stands e = record {
      f = s.f;
      g = s.g;
      turn = s.turn * 2;
      few = omega (arith, s.few);
      visited_is = s.visited_is ∙ ap (λ (x : ℕ). s.turn * x) (double d z) ∙ sym (mul_assoc s.turn 2 (2 ^ (d - 1)));
      within = omega (arith, s.within, double d z);
      cost_is = e ∙ s.cost_is;
      fields_are = λ j h. s.fields_are j (omega arith);
      grows = λ j q h. s.grows j q (omega arith);
      shifts = λ i j q l h. s.shifts i j q l (omega arith);
      costs_small = s.costs_small;
      grid_small = s.grid_small;
      best = s.best;
    }

    pub can_raise : Raisable (d - 1) fields grid
    can_raise = record {
      low = omega (arith, s.few);
      fields_small = λ i h. field_small s i (omega arith);
      grid_small = s.grid_small;
    }

    -- the cost with the top digit set
    pub top_cost : cost +ℤ elem_z fields (d - 1) ≡ s.f (visited + 2 ^ (d - 1))
    top_cost =
        ap₂ ◌+ℤ◌ (s.cost_is ∙ ap s.f at_top) (s.fields_are (d - 1) (omega arith) ∙ ap (s.g (d - 1)) at_top)
        ∙ sym (s.grows (d - 1) s.turn (omega arith)) ∙ ap (λ (x : ℕ). s.f (x + 2 ^ (d - 1))) (sym at_top)

    -- it is worked out in i64
    inner : word cost +ℤ word (elem_z fields (d - 1)) ≡ cost +ℤ elem_z fields (d - 1)
    inner = ap₂ ◌+ℤ◌ (word_is cost (rw s.cost_is (omega (arith, s.costs_small visited)))) (word_is (elem_z fields (d - 1)) (omega (arith, field_small s (d - 1) (omega arith))))

    pub more_fits : SFits w64 (word cost +ℤ word (elem_z fields (d - 1)))
    more_fits = rw (inner ∙ top_cost) (fits_signed_from_abs w64 _ (omega (arith, s.costs_small (visited + 2 ^ (d - 1)))))

    pub more_is : word (word cost +ℤ word (elem_z fields (d - 1))) ≡ cost +ℤ elem_z fields (d - 1)
    more_is = to_z-of_z more_fits ∙ inner

    -- the choices with the top digit 1
    unfoldable pub high_stands : {cost' : ℤ} {up : List ℤ} {least' : ℤ} {number' visited' : ℕ} → Walked-on s.f (d - 1) visited least' number' visited'
        → Raised (d - 1) fields grid up → cost' ≡ cost +ℤ elem_z fields (d - 1) → Standing (d - 1) cost' up grid visited' least' number'
    high_stands {least' = least'} {number' = number'} w r e = record {
      f = s.f;
      g = s.g;
      turn = s.turn * 2 + 1;
      few = omega (arith, s.few);
      visited_is = omega (arith, w.visited_on, s.visited_is ∙ ap (λ (x : ℕ). s.turn * x) (double d z));
      within = omega (arith, s.within, double d z, w.visited_on);
      cost_is = e ∙ top_cost ∙ ap s.f (sym w.visited_on);
      fields_are = λ j h.
          r.raised_is j h
          ∙ ap (λ z. z +ℤ pos 8 *ℤ elem_z grid ((d - 1) * 16 + j)) (s.fields_are j (omega arith) ∙ ap (s.g j) at_top)
          ∙ sym (s.shifts j (d - 1) s.turn h (omega arith))
          ∙ ap (λ (x : ℕ). s.g j (x + 2 ^ (d - 1))) (sym at_top) ∙ ap (s.g j) (sym w.visited_on);
      grows = λ j q h. s.grows j q (omega arith);
      shifts = λ i j q l h. s.shifts i j q l (omega arith);
      costs_small = s.costs_small;
      grid_small = s.grid_small;
      best = subst (λ (x : ℕ). Best s.f x least' number') (sym w.visited_on) w.best_on;
    }

    -- both
    pub both_stand : {least' : ℤ} {number' visited' visited'' : ℕ} → visited' ≡ visited + 2 ^ (d - 1) → Walked-on s.f (d - 1) visited' least' number' visited''
        → Walked-on s.f d visited least' number' visited''
    both_stand {least' = least'} {number' = number'} v w =
        let e : visited + 2 ^ d ≡ visited + 2 ^ (d - 1) + 2 ^ (d - 1) = omega (arith, double d z) in
        record {
          visited_on = w.visited_on ∙ ap (λ (x : ℕ). x + 2 ^ (d - 1)) v ∙ sym e;
          best_on = subst (λ (x : ℕ). Best s.f x least' number') (ap (λ (x : ℕ). x + 2 ^ (d - 1)) v ∙ sym e) w.best_on;
        }

-- the two choices of one digit
pub two_stand : {d : ℕ} {cost : ℤ} {fields grid : List ℤ} {visited : ℕ} {least : ℤ} {number : ℕ} → d ≡ 1 → (s : Standing d cost fields grid visited least number)
    → {more least' least'' : ℤ} {number' number'' visited' visited'' : ℕ}
    → least' ≡ cond (lt_z cost least) cost least → number' ≡ cond (lt_z cost least) visited number → visited' ≡ visited + 1 → more ≡ cost +ℤ elem_z fields (d - 1)
    → least'' ≡ cond (lt_z more least') more least' → number'' ≡ cond (lt_z more least') visited' number' → visited'' ≡ visited' + 1
    → Walked-on s.f d visited least'' number'' visited''
unfolding low_stands high_stands
two_stand {d} {fields = fields} {grid = grid} one s e₁ e₂ e₃ m e₄ e₅ e₆ =
    let z : d ≡ 0 → ⊥ = λ n. omega (arith, one, n) in
    let none : d - 1 ≡ 0 = omega (arith, one) in
    let w = end_stands none (low_stands z s refl) e₁ e₂ e₃ in
    let r : Raised (d - 1) fields grid fields = record { raised_is = λ i h. absurd (omega (arith, none)) } in
    both_stand z s w.visited_on (end_stands none (high_stands z s w r m) e₄ e₅ e₆)

-- ---- at first

-- the table within 16 wagons, and its costs
pub in_grid : {n : ℕ} {h : Table} {c : ℕ → ℤ} → n ≤ 16 → Hall most_wagons most_entries most_magnitude n h c → InRange 16 h
in_grid few hall = record {
  rows_in = λ k l. omega (arith, few, hall.in_range.rows_in k l);
  cols_in = λ k l. omega (arith, few, hall.in_range.cols_in k l);
}

pub costs_held : {n : ℕ} {h : Table} (c : List ℤ) → Hall most_wagons most_entries most_magnitude n h (elem_z c) → (j : ℕ) → j < n → nat_abs (elem_z c j) ≤ most_magnitude
costs_held {n} c hall j l = omega (arith, hall.magnitude, total_at n j (λ i. nat_abs (elem_z c i)) l)

module _ {n : ℕ} {h : Table} (c : List ℤ) {grid : List ℤ} (hall : Hall most_wagons most_entries most_magnitude n h (elem_z c)) (few : n ≤ 16) (laid : LaidOut h grid) where
  pub grid_values : Small grid
  grid_values = record { small = λ i j k l. rw (laid.value_is i j k l) (omega (arith, value_small h i j, hall.magnitude)) }

  unfoldable pub first_stands : {fields : List ℤ} → Starts n grid c fields → Standing n (pos 0) fields grid 0 (pos 0) 0
  unfolding first_least
  first_stands start = record {
    f = walk_cost n h (elem_z c);
    g = gain_of n h (elem_z c);
    turn = 0;
    few = few;
    visited_is = sym (zero-mul (2 ^ n));
    within = omega (arith, pow_mono few);
    cost_is = sym (zero_cost n h (elem_z c));
    fields_are = λ j l.
        start.start_is j l ∙ ap (λ z. pos 4 *ℤ z +ℤ pos 8 *ℤ elem_z c j) (laid.value_is j j (omega arith) (omega arith)) ∙ sym (zero_gain n h (elem_z c) j);
    grows = λ j q l. digit_grows n h (elem_z c) j q l (hall_symmetric hall);
    shifts = λ i j q l m.
        digit_shifts n h (elem_z c) i j q m
        ∙ ap (λ z. gain_of n h (elem_z c) i (q * 2 ^ suc j) +ℤ pos 8 *ℤ z) ((hall_symmetric hall).mirror i j (omega arith) m ∙ sym (laid.value_is j i (omega arith) (omega arith)));
    costs_small = cost_small n h (elem_z c) hall.in_range hall.magnitude;
    grid_small = grid_values;
    best = record { least_is = sym (zero_cost n h (elem_z c)); number_is = refl };
  }

  -- and at last
  pub all_walked : {fields : List ℤ} → Starts n grid c fields → {least : ℤ} {number visited : ℕ}
      → ((s : Standing n (pos 0) fields grid 0 (pos 0) 0) → Walked-on s.f n 0 least number visited)
      → (least ≡ walk_cost n h (elem_z c) (least_number n h (elem_z c))) × (number ≡ least_number n h (elem_z c)) × (visited ≡ 2 ^ n)
  unfolding first_stands least_number
  all_walked start w =
      let r = w (first_stands start) in
      let e : 0 + 2 ^ n ≡ 2 ^ n = omega arith in
      (rw e at r.best_on.least_is, rw e at r.best_on.number_is, r.visited_on ∙ e)
