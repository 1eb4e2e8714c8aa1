-- `maxcut_oracle::objective::add_four` meets its contract. Each entry is above the diagonal. Assumes nothing.
use Prim.Native.Nat.{ℕ, ◌+◌}
use mathlib.Core.Path.{◌≡◌}
use mathlib.Core.List.{List}
use native.Mathlib.Omega.{arith}
use borrow.Author.Tests.{ne_eqb, lt-ltb}
use lib.Ieee.{Float}
use lib.ListN.{get_or}
use Rattle.ieee.specs.Floats.{◌+ᶠ◌, ◌*ᶠ◌, at, two64}
use Rattle.maxcut_oracle.specs.Objective.{Above, FourAbove, obj_turn, obj_four, pair_dot}
use Rattle.maxcut_oracle.proofs.objective.add_four.Goals as goal

module _ (rows cols : List ℕ) (values factor : List Float) (rank : ℕ) where
  -- an entry above the diagonal
  turn : (i e : ℕ) (sum product : Float) → Above rows cols i e → product ≡ pair_dot factor rank i (get_or cols e 0)
      → sum +ᶠ two64 *ᶠ at values e *ᶠ product ≡ obj_turn rows cols values factor rank e sum
  turn i e sum product a p = rw (a.same, ne_eqb i (get_or cols e 0) (omega arith), lt-ltb i (get_or cols e 0) a.above, p)

  -- four of them
  turns : (e : ℕ) (sum p q r s : Float) → FourAbove rows cols e
      → p ≡ pair_dot factor rank (get_or rows e 0) (get_or cols e 0) → q ≡ pair_dot factor rank (get_or rows e 0) (get_or cols (e + 1) 0)
      → r ≡ pair_dot factor rank (get_or rows e 0) (get_or cols (e + 2) 0) → s ≡ pair_dot factor rank (get_or rows e 0) (get_or cols (e + 3) 0)
      → sum +ᶠ two64 *ᶠ at values e *ᶠ p +ᶠ two64 *ᶠ at values (e + 1) *ᶠ q +ᶠ two64 *ᶠ at values (e + 2) *ᶠ r +ᶠ two64 *ᶠ at values (e + 3) *ᶠ s
      ≡ obj_four rows cols values factor rank e sum
  unfolding obj_four
  turns e sum p q r s f hp hq hr hs =
      let i = get_or rows e 0 in
      rw (turn i e _ p f.first hp, turn i (e + 1) _ q f.second hq, turn i (e + 2) _ r f.third hr, turn i (e + 3) _ s f.fourth hs)

pub returns : goal.returns
returns c = turns _ _ _ _ _ _ _ _ _ _ _ c.requires.rows_len.2 (rw c.index_at.ensures at c.dots_of_four-dots.ensures.0) (rw c.index_at.ensures at c.dots_of_four-dots.ensures.1) (rw c.index_at.ensures at c.dots_of_four-dots.ensures.2) (rw c.index_at.ensures at c.dots_of_four-dots.ensures.3)
