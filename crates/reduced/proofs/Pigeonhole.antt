-- Where each of m things has a place below n that no other has, m is at most n.
-- Assumes nothing.
use mathlib.Core.Path.{◌≡◌, subst}
use mathlib.Core.Bool.{true, false}
use Prim.Native.Nat.{ℕ, ◌<◌, ◌≤◌}
use native.Mathlib.Decide.{dec_lt}
use native.Mathlib.Omega.{arith}
use borrow.Author.Tests.{eqb-true, ne_eqb}
use lib.Dec.{eqb}
use lib.ListN.{length, get_or}
use Rattle.std.specs.List.{list_any}
use Rattle.std.proofs.lemmas.Map.Keys.{IsDistinct-from_apart}
use Rattle.std.proofs.lemmas.Map.Steps.{length-le_from_distinct_below}
use Rattle.std.proofs.lemmas.Map.Views.{Contains-from_any}
use Rattle.laws.specs.Lists.{tabulate}
use Rattle.laws.proofs.Made.{length_tabulate, get_d_tabulate}

module _ (At : ℕ → ℕ → Type 0) (m n : ℕ) (place : (i : ℕ) → i < m → (y : ℕ) × (y < n) × At i y) (once : (i j y : ℕ) → i < m → j < m → At i y → At j y → i ≡ j) where
  by : (i : ℕ) → Dec (i < m) → ℕ
  by i (yes h) = (place i h).0
  by i (no h) = 0

  by_is : (i : ℕ) (d : Dec (i < m)) → i < m → (by i d < n) × At i (by i d)
  unfolding by
  by_is i (yes h) l = ((place i h).1, (place i h).2)
  by_is i (no h) l = absurd (h l)

  -- the place of thing i
  at : ℕ → ℕ
  at i = by i (dec_lt i m)

  at_is : (i : ℕ) → i < m → (at i < n) × At i (at i)
  unfolding at
  at_is i l = by_is i (dec_lt i m) l

  apart : (i j d : ℕ) → i < j → j < length (tabulate at m) → eqb (get_or (tabulate at m) i d) (get_or (tabulate at m) j d) ≡ false
  apart i j d l h =
      let b : j < m = omega (arith, length_tabulate at m) in
      let a : i < m = omega arith in
      rw (get_d_tabulate at m i d a, get_d_tabulate at m j d b)
      (ne_eqb (at i) (at j) (λ e. let s : i ≡ j = once i j (at j) a b (subst (At i) e (at_is i a).1) (at_is j b).1 in omega arith))

  low : (q : ℕ) → list_any (eqb q) (tabulate at m) ≡ true → q < n
  low q e =
      let (k, h, is) = Contains-from_any eqb-true q (tabulate at m) e in
      let b : k < m = omega (arith, h, length_tabulate at m) in
      omega (arith, get_d_tabulate at m k q b, is, (at_is k b).0)

  pub pigeonhole : m ≤ n
  pigeonhole = omega (arith, length_tabulate at m, length-le_from_distinct_below (tabulate at m) n (IsDistinct-from_apart eqb (tabulate at m) apart) low)
