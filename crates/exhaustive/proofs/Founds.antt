-- The first of least cost, and what it means: it costs no more than any choice.
-- Assumes nothing.
use mathlib.Core.Path.{◌≡◌, sym, ap, subst, ◌∙◌}
use mathlib.Core.List.{List}
use Prim.Native.Nat.{ℕ, ◌-◌, ◌^◌, ◌<◌}
use native.Mathlib.Omega.{arith}
use lib.Dec.{lit≤}
use lib.Pow.{pow_pos}
use lib.IntN.{ℤ}
use lib.Signed.{◌≤ℤ◌}
use lib.ListN.{length, drop, get_or-append}
use Rattle.laws.specs.Lists.{elem_z, over}
use Rattle.laws.proofs.Made.{length_tabulate}
use Rattle.tables.specs.Table.{Table, value_at}
use Rattle.tables.specs.Cost.{bit}
use Rattle.tables.specs.Check.{Hall}
use Rattle.limits.specs.Limits.{most_wagons, most_entries, most_magnitude}
use Rattle.tables.proofs.Choices.{cost_ext}
use Rattle.sign_table.proofs.Theorems.{floor_le_choice}
use Rattle.float_bound.proofs.Theorem.{bound_below_cost}
use Rattle.rounding.proofs.Least.{least_within, least_least, least_first}
use Rattle.std.specs.Int.{bit_at}
use Rattle.exhaustive.specs.Choices.{digits_of, cost_of, walk_cost, least_number}
use Rattle.exhaustive.specs.Contract.{Found}
use Rattle.exhaustive.specs.declared.Least.{Least}
use Rattle.exhaustive.proofs.Digits.{number_of}

module _ (n : ℕ) (h : Table) (c : ℕ → ℤ) where
  -- it is one of the choices
  pub least_below : least_number n h c < 2 ^ n
  unfolding least_number
  least_below = omega (arith, least_within (walk_cost n h c) (2 ^ n - 1), pow_pos n)

  -- every list of bytes costs at least as much
  pub least_of_all : (b : List ℕ) → walk_cost n h c (least_number n h c) ≤ℤ cost_of n h c b
  unfolding least_number walk_cost
  least_of_all b =
      let (k, below, agrees) = number_of n b in
      subst (λ (z : ℤ). walk_cost n h c (least_number n h c) ≤ℤ z) (cost_ext n (value_at h) c agrees) (least_least (walk_cost n h c) (2 ^ n - 1) k (omega (arith, below)))

  -- each choice before it costs more
  pub none_before : (k : ℕ) → k < least_number n h c → walk_cost n h c k ≤ℤ walk_cost n h c (least_number n h c) → ⊥
  unfolding least_number
  none_before k l e = least_first (walk_cost n h c) (2 ^ n - 1) k l e

  -- the bytes lent out cost what choice k costs
  pub over_cost : (k : ℕ) (b : List ℕ) → cost_of n h c (over (digits_of n k) b) ≡ walk_cost n h c k
  unfolding walk_cost
  over_cost k b = cost_ext n (value_at h) c (λ i l. ap bit (get_or-append (digits_of n k) (drop (length (digits_of n k)) b) 0 i (rw (length_tabulate (bit_at k) n) l)))

-- the whole
pub found : {n : ℕ} {h : Table} (c : List ℤ) {b b' : List ℕ} {x : Least} → Hall most_wagons most_entries most_magnitude n h (elem_z c)
    → b' ≡ over (digits_of n (least_number n h (elem_z c))) b → x.cost ≡ walk_cost n h (elem_z c) (least_number n h (elem_z c)) → x.visited ≡ 2 ^ n
    → Found n h (elem_z c) b x b'
found {n} {h} c {b} {b'} hall is cost visited = record {
  choice_is = is;
  cost_is = cost;
  visited_is = visited;
  own_cost = ap (cost_of n h (elem_z c)) is ∙ over_cost n h (elem_z c) (least_number n h (elem_z c)) b ∙ sym cost;
  least = λ b''. rw cost (least_of_all n h (elem_z c) b'');
  first_of = λ k l e. none_before n h (elem_z c) k l (rw cost at e);
  floor = rw (cost, ← (over_cost n h (elem_z c) (least_number n h (elem_z c)) b)) (floor_le_choice hall (over (digits_of n (least_number n h (elem_z c))) b));
  bound = rw (cost, ← (over_cost n h (elem_z c) (least_number n h (elem_z c)) b)) (bound_below_cost hall (lit≤ tt) (lit≤ tt) (over (digits_of n (least_number n h (elem_z c))) b));
}
