-- Which children the search may take besides: how many first signs may flip, and how far from a choice the flipped one may lie.
use Rattle.std.specs.Prelude.{ℕ, Bool, true, false, cond, List, eqb, ltb, leb, ℤ}
use Rattle.laws.specs.Lists.{elem}
use Rattle.sign_words.specs.Signs.{flip_sign, sign_digit}
use Rattle.sign_words.specs.Distance.{places_apart}
use Rattle.local_search.specs.Level.{Choice}
use Rattle.local_search.specs.SignSearch.{improves_c}
use Rattle.local_search.specs.Children.{change_of}

-- how many first signs may flip, and in how many signs a choice may differ from `from`
pub record Bounds : Type 0 where
  pub flips : ℕ
  pub most : ℕ
  pub from : List ℕ

abbrev pub bounds : ℕ → ℕ → List ℕ → Bounds
bounds flips most from = record { flips = flips; most = most; from = from }

-- x with sign i flipped differs from p in at most `most` signs
unfoldable pub near : ℕ → List ℕ → List ℕ → ℕ → Bool
near most p x i = leb (places_apart (flip_sign i x) p) most

-- sign i of x may flip: it is one of the first, and the flipped choice lies near enough
unfoldable pub within : Bounds → List ℕ → ℕ → Bool
within b x i = cond (ltb i b.flips) (near b.most b.from x i) false

-- sign i of x is not that of p
unfoldable pub apart_at : List ℕ → List ℕ → ℕ → Bool
apart_at x p i = cond (eqb (sign_digit (elem x i)) (sign_digit (elem p i))) false true

-- child i of a parent with these changes, whose signs are x, exists and goes back to p's sign
abbrev pub goes_back : List ℤ → List ℕ → List ℕ → Choice → ℕ → Bool
goes_back changes x p c i = cond (improves_c (change_of changes) c i) (apart_at x p i) false

-- it exists and stays near enough
abbrev pub stays_near : List ℤ → ℕ → List ℕ → List ℕ → Choice → ℕ → Bool
stays_near changes most p x c i = cond (improves_c (change_of changes) c i) (near most p x i) false
