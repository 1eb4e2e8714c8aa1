-- What `keep_better` keeps is the better of the two choices. Assumes nothing.
use mathlib.Core.Bool.{Bool, true, false, cond}
use mathlib.Core.List.{List}
use mathlib.Core.Path.{◌≡◌, refl}
use Prim.Native.Nat.{ℕ}
use lib.IntN.{ℤ}
use lib.Signed.{lt_z}
use Rattle.local_search.specs.Level.{below}
use Rattle.local_search.specs.Children.{parent_of, better}

module _ (least objective : ℤ) (kept row : List ℕ) where
  by_case : (b : Bool) → parent_of (cond b objective least) (cond b row kept) ≡ cond b (parent_of objective row) (parent_of least kept)
  by_case true = refl
  by_case false = refl

  pub better_kept : {r : ℤ} {k : List ℕ} → r ≡ cond (lt_z objective least) objective least → k ≡ cond (lt_z objective least) row kept
      → parent_of r k ≡ better (parent_of least kept) (parent_of objective row)
  unfolding below
  better_kept e f = rw (e, f) (by_case (lt_z objective least))
