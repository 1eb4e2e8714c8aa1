use Prim.Native.Nat.{ℕ, ◌<◌}
use mathlib.Core.Bool.{Bool, true, false, cond}
use mathlib.Core.List.{List, [], ◌∷◌}
use mathlib.Core.Path.{◌≡◌, refl, sym, ap, ◌∙◌, subst}
use lib.Dec.{eqb}
use lib.IntN.{ℤ}
use lib.ListN.{length}
use Rattle.laws.proofs.Any.{cond_self}
use Rattle.laws.specs.Lists.{elem}
use Rattle.sign_words.specs.Signs.{sign_digit}
use Rattle.sign_words.specs.Packed.{sign_in, unpacked}
use Rattle.sign_words.proofs.PackedLaws.{elem_unpacked}
use Rattle.local_search.specs.Level.{Choice, level_of}
use Rattle.local_search.specs.SignSearch.{improves_c}
use Rattle.local_search.specs.Children.{change_of, parent_choice, flip_w, Kept}
use Rattle.local_search.proofs.ExpandLaws.{no_child}
use Rattle.sign_search.specs.Within.{apart_at, goes_back}
use Rattle.laws.proofs.Any.{cond_same}
use Rattle.sign_search.proofs.within.back_child.Goals as goal

module _ (changes : List ℤ) (x p : List ℕ) (c : Choice) (i : ℕ) {r : Bool} (is : r ≡ apart_at x p i) where
  left_out : r ≡ false → goes_back changes x p c i ≡ false
  left_out z = ap (λ (b : Bool). cond (improves_c (change_of changes) c i) b false) (sym is ∙ z) ∙ cond_same (improves_c (change_of changes) c i) false

  taken_in : r ≡ true → improves_c (change_of changes) c i ≡ goes_back changes x p c i
  taken_in d = sym (ap (λ (b : Bool). cond (improves_c (change_of changes) c i) b false) (sym is ∙ d) ∙ cond_self (improves_c (change_of changes) c i))

-- the start's sign, read from its words
sign-is : (m : ℕ) (x origin : List ℕ) (i : ℕ) {r : Bool} {s : ℕ} → i < m → r ≡ cond (eqb (sign_digit (elem x i)) (sign_digit s)) false true → s ≡ sign_in origin i
    → r ≡ apart_at x (unpacked m origin) i
unfolding apart_at
sign-is m x origin i h e is = e ∙ ap (λ (t : ℕ). cond (eqb (sign_digit (elem x i)) (sign_digit t)) false true) (is ∙ sym (elem_unpacked m origin i h))

pub returns-then-not-differs : goal.returns-then-not-differs
returns-then-not-differs c = let a = c.args in
    no_child a.width _ _ a.count a.i a.parent.changes.now (goes_back a.parent.changes.now a.current.now (unpacked (length a.current.now) a.origin.now)) (parent_choice a.parent)
    (left_out a.parent.changes.now a.current.now (unpacked (length a.current.now) a.origin.now) (parent_choice a.parent) a.i (sign-is (length a.current.now) a.current.now a.origin.now a.i c.requires.2 c.differs.ensures c.sign_in-sign.ensures) c.if-not-differs.true) refl c.requires.0.used

pub returns : goal.returns
returns c = let a = c.args in
    let k = c.consider_child in
    let parent = parent_choice a.parent in
    subst (λ (b : Bool). Kept a.width (level_of (length a.parent.row.now) a.count a.objectives.now a.signs.now) (cond b (flip_w a.parent.changes.now a.i parent ∷ []) [])
    (level_of (length a.parent.row.now) k.result k.new.objectives k.new.signs) k.result)
    (taken_in a.parent.changes.now a.current.now (unpacked (length a.current.now) a.origin.now) parent a.i (sign-is (length a.current.now) a.current.now a.origin.now a.i c.requires.2 c.differs.ensures c.sign_in-sign.ensures) c.if-not-differs.false) k.ensures.kept
