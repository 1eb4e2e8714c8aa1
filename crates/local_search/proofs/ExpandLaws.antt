-- A level that takes in children one by one. Assumes nothing.
use Prim.Native.Nat.{ℕ, zero, suc, ◌+◌, ◌*◌, ◌-◌, ◌≤◌, ◌<◌}
use native.Mathlib.Nat.{zero-mul, suc-mul, mul-le-mul_right}
use native.Mathlib.Omega.{arith}
use native.Mathlib.Numerals.{add-one}
use mathlib.Core.Bool.{Bool, true, false, cond}
use mathlib.Core.List.{List, [], ◌∷◌, ◌++◌, append-nil, append_assoc}
use mathlib.Core.Path.{◌≡◌, refl, sym, ap, ap₂, ◌∙◌, subst}
use lib.IntN.{ℤ, pos, ◌+ℤ◌}
use lib.ListN.{length, take, drop, get_or, length-take, length-drop}
use lib.Seq.{drop-drop, length-take-le}
use Rattle.local_search.specs.LocalSearch.{All, insert, keep_best, best, children_of}
use Rattle.local_search.specs.Level.{Choice, below, word_child, rows, choices, level_of, Inserted}
use Rattle.local_search.specs.SignSearch.{improving, child_at}
use Rattle.local_search.specs.Children.{Kept, Appended, better, parent_of, change_of, flip_w}
use Rattle.local_search.proofs.LevelLaws.{turned}

keep_best_append : (w : ℕ) (l a b : List Choice) → keep_best below w l (a ++ b) ≡ keep_best below w (keep_best below w l a) b
unfolding keep_best
keep_best_append w l [] b = refl
keep_best_append w l (x ∷ a) b = keep_best_append w (take w (insert below x l)) a b

module _ (width : ℕ) (before after : List Choice) (count i : ℕ) (changes : List ℤ) (exists : Choice → ℕ → Bool) (parent : Choice) where
  pub child_kept : (objective : ℤ) → exists parent i ≡ true → objective ≡ parent.objective +ℤ change_of changes parent.signs i
      → Inserted before after width (word_child objective i parent.signs) count
      → Kept width before (child_at exists (flip_w changes) parent i) after count
  unfolding keep_best flip_w
  child_kept objective e o p =
      let c : Choice = word_child (parent.objective +ℤ change_of changes parent.signs i) i parent.signs in
      let put : after ≡ take width (insert below c before) =
      p.level ∙ ap (λ (z : ℤ). take width (insert below (word_child z i parent.signs) before)) o in
      record {
        level = put ∙ ap (keep_best below width before) (sym (ap (λ (b : Bool). cond b (c ∷ []) []) e));
        room = omega (arith, length-take width (insert below (word_child objective i parent.signs) before));
      }

  pub no_child : exists parent i ≡ false → after ≡ before → count ≤ width
      → Kept width before (child_at exists (flip_w changes) parent i) after count
  unfolding keep_best
  no_child e same room = record {
    level = same ∙ ap (keep_best below width before) (sym (ap (λ (b : Bool). cond b (flip_w changes i parent ∷ []) []) e));
    room = room;
  }

-- the loop over the children
module _ (width : ℕ) (before : List Choice) (changes : List ℤ) (exists : Choice → ℕ → Bool) (parent : Choice) where
  pub children_none : (count : ℕ) → count ≤ width → Kept width before (improving exists (flip_w changes) 0 parent) before count
  unfolding improving keep_best
  children_none count room = record { level = refl; room = room }

  pub children_one_more : (i : ℕ) (now after : List Choice) (count' count : ℕ) → Kept width before (improving exists (flip_w changes) i parent) now count'
      → Kept width now (child_at exists (flip_w changes) parent i) after count → Kept width before (improving exists (flip_w changes) (i + 1) parent) after count
  unfolding improving
  children_one_more i now after count' count p q = record {
    level = q.level ∙ ap (λ (l : List Choice). keep_best below width l (child_at exists (flip_w changes) parent i)) p.level
        ∙ sym (keep_best_append width before (improving exists (flip_w changes) i parent) (child_at exists (flip_w changes) parent i))
        ∙ ap (λ (k : ℕ). keep_best below width before (improving exists (flip_w changes) k parent)) (sym (add-one i));
    room = q.room;
  }

-- ---- a level's choices by index, as the loop over the parents reads them

pub choice_at : ℕ → List ℤ → List ℕ → ℕ → Choice
choice_at m os s k = parent_of (get_or os k (pos 0)) (take m (drop (k * m) s))

choice_zero : (m : ℕ) (o : ℤ) (os : List ℤ) (s : List ℕ) → parent_of o (take m s) ≡ choice_at m (o ∷ os) s 0
unfolding choice_at
choice_zero m o os s = ap (λ (k : ℕ). parent_of o (take m (drop k s))) (sym (zero-mul m))

choice_suc : (m k : ℕ) (o : ℤ) (os : List ℤ) (s : List ℕ) → choice_at m os (drop m s) k ≡ choice_at m (o ∷ os) s (suc k)
unfolding choice_at
choice_suc m k o os s = ap (λ (t : List ℕ). parent_of (get_or os k (pos 0)) (take m t)) (drop-drop (k * m) m s ∙ ap (λ (n : ℕ). drop n s) (sym (turned k m)))

level_snoc : (m k : ℕ) (os : List ℤ) (s : List ℕ) → k < length os → level_of m (suc k) os s ≡ level_of m k os s ++ (choice_at m os s k ∷ [])
unfolding level_of choices rows
level_snoc m k [] s q = absurd (omega arith)
level_snoc m zero (o ∷ os) s q = ap (λ (c : Choice). c ∷ []) (choice_zero m o os s)
level_snoc m (suc k) (o ∷ os) s q =
    ap (λ (l : List Choice). parent_of o (take m s) ∷ l)
    (level_snoc m k os (drop m s) (omega arith) ∙ ap (λ (c : Choice). level_of m k os (drop m s) ++ (c ∷ [])) (choice_suc m k o os s))

pub all_choices : (P : Choice → Type 0) (m k c : ℕ) (os : List ℤ) (s : List ℕ) → k < c → c ≤ length os → All P (level_of m c os s) → P (choice_at m os s k)
unfolding level_of choices rows
all_choices P m k zero os s p q a = absurd (omega arith)
all_choices P m k (suc c) [] s p q a = absurd (omega arith)
all_choices P m zero (suc c) (o ∷ os) s p q a = subst P (choice_zero m o os s) a.0
all_choices P m (suc k) (suc c) (o ∷ os) s p q a = subst P (choice_suc m k o os s) (all_choices P m k c os (drop m s) (omega arith) (omega arith) a.1)

children_of_append : {X : Type 0} (f : X → List X) (a b : List X) → children_of f (a ++ b) ≡ children_of f a ++ children_of f b
unfolding children_of
children_of_append f [] b = refl
children_of_append f (x ∷ a) b = ap (λ (l : List _). f x ++ l) (children_of_append f a b) ∙ sym (append_assoc (f x) (children_of f a) (children_of f b))

-- the loop over the parents
module _ (width m : ℕ) (f : Choice → List Choice) (os : List ℤ) (s : List ℕ) where
  pub parents_none : (after : List Choice) → after ≡ [] → Kept width [] (children_of f (level_of m 0 os s)) after 0
  unfolding level_of choices rows children_of keep_best
  parents_none after e = record { level = e; room = omega arith }

  pub parents_one_more : (k : ℕ) (now after : List Choice) (count' count : ℕ) → k < length os
      → Kept width [] (children_of f (level_of m k os s)) now count' → Kept width now (f (choice_at m os s k)) after count
      → Kept width [] (children_of f (level_of m (k + 1) os s)) after count
  unfolding children_of
  parents_one_more k now after count' count h p q =
      let c : Choice = choice_at m os s k in
      let all : children_of f (level_of m (k + 1) os s) ≡ children_of f (level_of m k os s) ++ f c =
      ap (λ (n : ℕ). children_of f (level_of m n os s)) (add-one k)
      ∙ ap (children_of f) (level_snoc m k os s h)
      ∙ children_of_append f (level_of m k os s) (c ∷ [])
      ∙ ap (λ (l : List Choice). children_of f (level_of m k os s) ++ l) (append-nil (f c)) in
      record {
        level = q.level ∙ ap (λ (l : List Choice). keep_best below width l (f c)) p.level
            ∙ sym (keep_best_append width [] (children_of f (level_of m k os s)) (f c)) ∙ ap (keep_best below width []) (sym all);
        room = q.room;
      }

-- row k as a part that is lent
module _ (m : ℕ) (os : List ℤ) (s : List ℕ) (k : ℕ) (room : k * m + m ≤ length s) where
  part_is : take (k * m + m - k * m) (drop (k * m) s) ≡ take m (drop (k * m) s)
  part_is = let e : k * m + m - k * m ≡ m = omega arith in ap (λ (n : ℕ). take n (drop (k * m) s)) e

  pub part_long : length (take (k * m + m - k * m) (drop (k * m) s)) ≡ m
  part_long = ap length part_is ∙ length-take-le m (drop (k * m) s) (simp length-drop (omega arith))

  pub parent_is : (o : ℤ) → o ≡ get_or os k (pos 0) → parent_of o (take (k * m + m - k * m) (drop (k * m) s)) ≡ choice_at m os s k
  unfolding choice_at
  parent_is o e = ap₂ parent_of e part_is

-- ---- the first level: children put behind one another

module _ (before after : List Choice) (count i : ℕ) (changes : List ℤ) (exists : Choice → ℕ → Bool) (parent : Choice) where
  pub child_appended : (y : Choice) → exists parent i ≡ true → y ≡ flip_w changes i parent → after ≡ before ++ (y ∷ []) → count ≤ i
      → Appended before (child_at exists (flip_w changes) parent i) after (count + 1) (suc i)
  child_appended y e f p room = record {
    level = p ∙ ap (λ (x : Choice). before ++ (x ∷ [])) f ∙ ap (λ (b : Bool). before ++ cond b (flip_w changes i parent ∷ []) []) (sym e);
    room = omega arith;
  }

module _ (changes : List ℤ) (exists : Choice → ℕ → Bool) (parent : Choice) where
  pub append_none : (after : List Choice) → after ≡ [] → Appended [] (improving exists (flip_w changes) 0 parent) after 0 0
  unfolding improving
  append_none after e = record { level = e; room = omega arith }

  pub append_one_more : (i : ℕ) (now after : List Choice) (count' count : ℕ) → Appended [] (improving exists (flip_w changes) i parent) now count' i
      → Appended now (child_at exists (flip_w changes) parent i) after count (suc i) → Appended [] (improving exists (flip_w changes) (i + 1) parent) after count (i + 1)
  unfolding improving
  append_one_more i now after count' count p q = record {
    level = q.level ∙ ap (λ (l : List Choice). l ++ child_at exists (flip_w changes) parent i) p.level
        ∙ ap (λ (k : ℕ). improving exists (flip_w changes) k parent) (sym (add-one i));
    room = omega arith;
  }

-- ---- the least of a level

best_snoc : (b x : Choice) (l : List Choice) → best below b (l ++ (x ∷ [])) ≡ better (best below b l) x
unfolding best
best_snoc b x [] = refl
best_snoc b x (y ∷ l) = best_snoc (better b y) x l

module _ (m : ℕ) (os : List ℤ) (s : List ℕ) (b : Choice) where
  pub least_none : b ≡ best below b (level_of m 0 os s)
  unfolding level_of rows choices best
  least_none = refl

  pub least_one_more : (k : ℕ) (now after x : Choice) → k < length os → now ≡ best below b (level_of m k os s) → after ≡ better now x → x ≡ choice_at m os s k
      → after ≡ best below b (level_of m (k + 1) os s)
  least_one_more k now after x h p q e =
      q ∙ ap₂ better p e ∙ sym (best_snoc b (choice_at m os s k) (level_of m k os s))
      ∙ ap (best below b) (sym (level_snoc m k os s h)) ∙ ap (λ (n : ℕ). best below b (level_of m n os s)) (sym (add-one k))

-- the room that one of `count` rows takes
pub part_room : {k count long : ℕ} (m : ℕ) → k < count → count * m ≤ long → k * m + m ≤ long
part_room {k = k} m p q = omega (arith, mul-le-mul_right m p, suc-mul k m)
