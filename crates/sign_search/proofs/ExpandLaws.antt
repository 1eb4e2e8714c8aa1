-- A parent's children by its listed changes are its children on the table, and a level's parents one by one. Assumes nothing.
use Prim.Native.Nat.{ℕ, zero, suc, ◌+◌, ◌*◌, ◌-◌, ◌≤◌, ◌<◌}
use native.Mathlib.Decide.{ℕ_discrete}
use native.Mathlib.Nat.{le_trans, mul-le-mul_right}
use native.Mathlib.Omega.{arith}
use borrow.Author.Tests.{eq-eqb, ne_eqb}
use mathlib.Core.Bool.{Bool, false, cond}
use mathlib.Core.List.{List, [], ◌∷◌, ◌++◌, map, map-append}
use mathlib.Core.Path.{◌≡◌, refl, sym, ap, ap₂, ◌∙◌, subst}
use lib.Dec.{eqb}
use lib.IntN.{ℤ, pos, ◌+ℤ◌}
use lib.Signed.{lt_z}
use lib.ListN.{length, take, drop, get_or, length-take, length-drop}
use mir.Syntax.{w64}
use mir.Val.{SFits}
use Rattle.laws.proofs.Any.{cond_self, cond_same}
use Rattle.sign_words.specs.Packed.{unpacked, Tidy}
use Rattle.sign_words.proofs.PackedLaws.{length_unpacked, unpacked_flip}
use Rattle.local_search.specs.LocalSearch.{All, keep_best, children_of}
use Rattle.local_search.specs.Level.{Choice, below, child_of, word_child, level_of, decoded, sign_level, TidyChoice, TidyLevel}
use Rattle.local_search.specs.SignSearch.{improving, improves_c, flip_c}
use Rattle.local_search.specs.Children.{change_of, flip_w, listed_children, ListedSafe, parent_of, Kept, Appends, Appended}
use Rattle.local_search.proofs.SignLaws.{improving_ext}
use Rattle.local_search.proofs.SearchLaws.{next_level_is}
use Rattle.local_search.proofs.ExpandLaws.{part_long, parent_is}
use Rattle.local_search.proofs.Decoded.{cond_map, kept_decoded, kept_tidy, tidy_children, all_sign_choices, children_of_decoded}
use Rattle.tables.specs.Table.{Table}
use Rattle.sign_search.specs.Search.{change_in}
use Rattle.sign_search.specs.Within.{Bounds, near, stays_near}
use Rattle.sign_search.specs.Clauses.{Changes, exists_in, table_children, TableSafe, RowExpands, RowAppends, LevelExpands, NextLevel}
use Rattle.sign_search.proofs.NearLaws.{near_start, near_nowhere, within_first, within_behind, improving_none, improving_cut}

-- ---- children that are taken over one by one

map_improving : {X Y : Type 0} (f : X → Y) (exists : X → ℕ → Bool) (flip : ℕ → X → X) (exists' : Y → ℕ → Bool) (flip' : ℕ → Y → Y) (x : X) (y : Y) (n : ℕ)
    → ((i : ℕ) → i < n → (exists x i ≡ exists' y i) × (f (flip i x) ≡ flip' i y)) → map f (improving exists flip n x) ≡ improving exists' flip' n y
unfolding improving
map_improving f exists flip exists' flip' x y zero h = refl
map_improving {X} {Y} f exists flip exists' flip' x y (suc n) h =
    map-append f (improving exists flip n x) (cond (exists x n) (flip n x ∷ []) [])
    ∙ ap₂ ◌++◌ (map_improving f exists flip exists' flip' x y n (λ i q. h i (omega arith)))
    (cond_map f (exists x n) (flip n x) ∙ ap₂ (λ (b : Bool) (z : Y). cond b (z ∷ []) []) (h n (omega arith)).0 (h n (omega arith)).1)

-- a parent w in words, with m signs, and the bounds
module _ (t : Table) (m : ℕ) (o : ℤ) (w : List ℕ) (changes : List ℤ) (is : Changes t (unpacked m w) changes) (b : Bounds) (few : b.flips ≤ m) where
  abbrev parent : Choice
  parent = parent_of o w

  abbrev exists : Choice → ℕ → Bool
  exists = stays_near changes b.most b.from (unpacked m w)

  abbrev pub near_children : List Choice
  near_children = improving exists (flip_w changes) b.flips parent

  same_child : m ≤ 64 * length w → (i : ℕ) → i < b.flips → decoded m (flip_w changes i parent) ≡ flip_c (change_in t) i (parent_of o (unpacked m w))
  unfolding flip_w flip_c word_child child_of
  same_child held i h =
      let inside : i < length (unpacked m w) = omega (arith, length_unpacked m w) in
      ap₂ (λ (z : ℤ) (x : List ℕ). parent_of (o +ℤ z) x) (is.are i inside) (unpacked_flip i w (omega arith) m (omega arith))

  same_test : (i : ℕ) → i < b.flips → exists parent i ≡ exists_in t b (parent_of o (unpacked m w)) i
  same_test i h =
      let inside : i < length (unpacked m w) = omega (arith, length_unpacked m w) in
      ap₂ (λ (z : ℤ) (c : Bool). cond (lt_z z (pos 0)) c false) (is.are i inside) (sym (within_first b (unpacked m w) i h))

  packed_children : m ≤ 64 * length w → map (decoded m) near_children ≡ table_children t b m (parent_of o (unpacked m w))
  packed_children held =
      map_improving (decoded m) exists (flip_w changes) (exists_in t b) (flip_c (change_in t)) parent (parent_of o (unpacked m w)) b.flips (λ i h. (same_test i h, same_child held i h))
      ∙ sym (improving_cut (exists_in t b) (flip_c (change_in t)) (parent_of o (unpacked m w)) b.flips m few
      (λ i p q. ap (λ (c : Bool). cond (lt_z (change_in t (unpacked m w) i) (pos 0)) c false) (within_behind b (unpacked m w) i p) ∙ cond_same (lt_z (change_in t (unpacked m w) i) (pos 0)) false))

  listed_safe : TableSafe t (parent_of o (unpacked m w)) → ListedSafe changes b.flips o
  listed_safe safe i h =
      let inside : i < length (unpacked m w) = omega (arith, length_unpacked m w) in
      subst (λ (z : ℤ). SFits w64 (o +ℤ z)) (sym (is.are i inside)) (safe i inside)

  pub row_kept : (width c₁ c₂ : ℕ) (o₁ o₂ : List ℤ) (s₁ s₂ : List ℕ) → m ≤ 64 * length w
      → Kept width (level_of (length w) c₁ o₁ s₁) near_children (level_of (length w) c₂ o₂ s₂) c₂
      → Kept width (sign_level (length w) m c₁ o₁ s₁) (table_children t b m (parent_of o (unpacked m w))) (sign_level (length w) m c₂ o₂ s₂) c₂
  unfolding sign_level
  row_kept width c₁ c₂ o₁ o₂ s₁ s₂ held k =
      subst (λ (l : List Choice). Kept width (map (decoded m) (level_of (length w) c₁ o₁ s₁)) l (map (decoded m) (level_of (length w) c₂ o₂ s₂)) c₂) (packed_children held)
      (kept_decoded m width (level_of (length w) c₁ o₁ s₁) near_children (level_of (length w) c₂ o₂ s₂) c₂ k)

  pub row_tidy : (width c₁ c₂ : ℕ) (o₁ o₂ : List ℤ) (s₁ s₂ : List ℕ) → m ≤ 64 * length w
      → Kept width (level_of (length w) c₁ o₁ s₁) near_children (level_of (length w) c₂ o₂ s₂) c₂
      → Tidy m w → TidyLevel (length w) m c₁ o₁ s₁ → TidyLevel (length w) m c₂ o₂ s₂
  row_tidy width c₁ c₂ o₁ o₂ s₁ s₂ held k s a =
      kept_tidy exists changes m parent held s b.flips width (level_of (length w) c₁ o₁ s₁) (level_of (length w) c₂ o₂ s₂) c₂ few k a

  -- ---- level 1, of which each sign may flip, or none

  pub row_appends : (first objectives signs : ℕ) → first ≤ b.flips → RowAppends t (length w) (parent_of o (unpacked m w)) (length changes) objectives signs
      → Appends changes first parent objectives signs
  row_appends first objectives signs h p = record {
    objectives_room = omega (arith, length_unpacked m w);
    signs_room = (let fewer : first ≤ length (unpacked m w) = omega (arith, length_unpacked m w) in le_trans (mul-le-mul_right (length w) fewer) p.signs_room);
    signs_held = omega (arith, length_unpacked m w);
    changes_many = omega (arith, length_unpacked m w);
    safe = λ i q. listed_safe p.safe i (omega arith);
  }

  none_listed : listed_children changes 0 parent ≡ []
  unfolding improving
  none_listed = refl

  -- the children of the start, from which distances are counted
  first_children : (first : ℕ) → b.from ≡ unpacked m w → first ≡ cond (eqb b.most 0) 0 b.flips → listed_children changes first parent ≡ near_children
  first_children first e f = go (ℕ_discrete b.most 0)
    where
      go : Dec (b.most ≡ 0) → listed_children changes first parent ≡ near_children
      go (yes z) =
          ap (λ (k : ℕ). listed_children changes k parent) (f ∙ ap (λ (c : Bool). cond c 0 b.flips) (eq-eqb b.most 0 z))
          ∙ none_listed
          ∙ sym (improving_none exists (flip_w changes) parent b.flips (λ i h. ap (λ (c : Bool). cond (lt_z (get_or changes i (pos 0)) (pos 0)) c false)
          (ap (λ (y : List ℕ). near b.most y (unpacked m w) i) e ∙ near_nowhere (unpacked m w) i b.most (omega (arith, length_unpacked m w)) z) ∙ cond_same (lt_z (get_or changes i (pos 0)) (pos 0)) false))
      go (no d) =
          ap (λ (k : ℕ). listed_children changes k parent) (f ∙ ap (λ (c : Bool). cond c 0 b.flips) (ne_eqb b.most 0 d))
          ∙ improving_ext (improves_c (change_of changes)) exists (flip_w changes) (flip_w changes) parent b.flips
          (λ i h. (
            sym (ap (λ (c : Bool). cond (lt_z (get_or changes i (pos 0)) (pos 0)) c false)
                (ap (λ (y : List ℕ). near b.most y (unpacked m w) i) e ∙ near_start (unpacked m w) i b.most (omega (arith, length_unpacked m w)) d) ∙ cond_self (lt_z (get_or changes i (pos 0)) (pos 0))),
            refl,
          ))

  pub row_appended : (first c : ℕ) (os : List ℤ) (s : List ℕ) → b.from ≡ unpacked m w → first ≡ cond (eqb b.most 0) 0 b.flips → first ≤ b.flips → m ≤ 64 * length w
      → Appended [] (listed_children changes first parent) (level_of (length w) c os s) c first
      → Appended [] (table_children t b m (parent_of o (unpacked m w))) (sign_level (length w) m c os s) c m
  unfolding sign_level
  row_appended first c os s e f h held k = record {
    level = ap (map (decoded m)) (k.level ∙ first_children first e f) ∙ packed_children held;
    room = omega arith;
  }

  pub row_first_tidy : (first c : ℕ) (os : List ℤ) (s : List ℕ) → b.from ≡ unpacked m w → first ≡ cond (eqb b.most 0) 0 b.flips → m ≤ 64 * length w
      → Appended [] (listed_children changes first parent) (level_of (length w) c os s) c first → Tidy m w → TidyLevel (length w) m c os s
  row_first_tidy first c os s e f held k tidy =
      subst (All (TidyChoice m)) (sym (k.level ∙ first_children first e f)) (tidy_children exists changes m parent held tidy b.flips few)

-- the first m of a slice, as a part that is lent
pub part_size : (m : ℕ) (l : List ℕ) → m ≤ length l → length (take (m - 0) (drop 0 l)) ≡ m
part_size m l h = simp (length-take, length-drop) (omega arith)

-- what a row leaves tidy, of a part that is lent
pub part_tidy : (m n w : ℕ) (part : List ℕ) (c₁ c₂ : ℕ) (o₁ o₂ : List ℤ) (s₁ s₂ : List ℕ) → w ≡ n
    → (Tidy m part → TidyLevel w m c₁ o₁ s₁ → TidyLevel w m c₂ o₂ s₂) → Tidy m part → TidyLevel n m c₁ o₁ s₁ → TidyLevel n m c₂ o₂ s₂
part_tidy m n w part c₁ c₂ o₁ o₂ s₁ s₂ e f = subst (λ (k : ℕ). Tidy m part → TidyLevel k m c₁ o₁ s₁ → TidyLevel k m c₂ o₂ s₂) e f

-- row k of a level as a part that is lent
pub parent_expands : (t : Table) (n m : ℕ) (os : List ℤ) (s : List ℕ) (k : ℕ) (room : k * n + n ≤ length s) (o : ℤ) (count width kept changes objectives signs : ℕ)
    → o ≡ get_or os k (pos 0) → k < count → kept ≤ width → LevelExpands t n m count width os s changes objectives signs
    → RowExpands t (length (take (k * n + n - k * n) (drop (k * n) s))) (parent_of o (unpacked m (take (k * n + n - k * n) (drop (k * n) s)))) kept width changes objectives signs
parent_expands t n m os s k room o count width kept changes objectives signs e h used p =
    let part : List ℕ = take (k * n + n - k * n) (drop (k * n) s) in
    let long : length part ≡ n = part_long n os s k room in
    let many : length (unpacked m part) ≡ m = length_unpacked m part in
    record {
      some = p.some;
      used = used;
      changes_room = rw many p.changes_room;
      objectives_room = p.objectives_room;
      signs_room = rw long p.signs_room;
      signs_held = omega arith;
      words_few = omega arith;
      table = rw many p.table;
      safe = subst (λ (c : Choice). TableSafe t (decoded m c)) (sym (parent_is n os s k room o e)) (all_sign_choices (TableSafe t) n m k count os s h p.from_objectives_room p.safe);
    }

pub parent_kept : (t : Table) (b : Bounds) (width m n w : ℕ) (p q : Choice) (c₁ c₂ : ℕ) (o₁ o₂ : List ℤ) (s₁ s₂ : List ℕ) → w ≡ n → p ≡ q
    → Kept width (sign_level w m c₁ o₁ s₁) (table_children t b m (decoded m p)) (sign_level w m c₂ o₂ s₂) c₂ → Kept width (sign_level n m c₁ o₁ s₁) (table_children t b m (decoded m q)) (sign_level n m c₂ o₂ s₂) c₂
parent_kept t b width m n w p q c₁ c₂ o₁ o₂ s₁ s₂ e f k = rw (e, f) at k

pub next_level_lem : (t : Table) (b : Bounds) (n m width k count c : ℕ) (os : List ℤ) (s : List ℕ) (after : List Choice) → k ≡ count
    → Kept width [] (children_of (λ x. table_children t b m (decoded m x)) (level_of n k os s)) after c → NextLevel t b m width (sign_level n m count os s) after c
next_level_lem t b n m width k count c os s after e p = record {
  level = p.level ∙ ap (keep_best below width []) (children_of_decoded (table_children t b m) n m k os s)
      ∙ ap (λ (i : ℕ). keep_best below width [] (children_of (table_children t b m) (sign_level n m i os s))) e
      ∙ sym (next_level_is below (table_children t b m) width (sign_level n m count os s));
  room = p.room;
}
