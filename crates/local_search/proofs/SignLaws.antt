-- The search on signs: what it finds, and that it is the search with the objectives carried along. Assumes nothing.
use Prim.Native.Nat.{ℕ, zero, suc, ◌+◌, ◌*◌, ◌≤◌, ◌<◌}
use native.Mathlib.Omega.{arith}
use mathlib.Core.Bool.{Bool, true, false, cond}
use mathlib.Core.List.{List, [], ◌∷◌, ◌++◌, cons≢nil, append-eq-nil_iff}
use native.Mathlib.Decide.{dec_lt}
use mathlib.Core.Path.{◌≡◌, refl, sym, ap, ap₂, ◌∙◌, subst}
use lib.Dec.{ltb}
use lib.IntN.{ℤ, pos, ◌+ℤ◌, ◌*ℤ◌}
use lib.Signed.{lt_z}
use mir.Syntax.{w64}
use mir.Val.{SFits}
use lib.ListN.{length}
use Rattle.std.specs.List.{AllZip}
use Rattle.local_search.specs.LocalSearch.{All, Found, levels, Levels, found_in, searched}
use Rattle.local_search.specs.Level.{Choice, below, flip_sign, child_of}
use Rattle.local_search.specs.SignSearch.{improving, lower, improves, keeping, sign_search, improves_c, flip_c, children_c, Lawful}
use Rattle.local_search.proofs.All.{all_append}
use Rattle.local_search.proofs.Same.{same_append, same_cond, same_searched}
use Rattle.local_search.proofs.SearchLaws.{searched_improves, searched_levels, levels_end}
use Rattle.local_search.proofs.Heights.{lt_z_shift, lt_z_change, falls_four}
use Rattle.local_search.proofs.LevelLaws.{flipped_length}

-- ---- children by index

module _ {X : Type 0} (exists : X → ℕ → Bool) (flip : ℕ → X → X) (x : X) where
  all_improving : (P : X → Type 0) (n : ℕ) → ((i : ℕ) → i < n → exists x i ≡ true → P (flip i x)) → All P (improving exists flip n x)
  unfolding improving
  all_improving P zero h = tt
  all_improving P (suc n) h =
      all_append P (improving exists flip n x) (cond (exists x n) (flip n x ∷ []) []) (all_improving P n (λ i q. h i (omega arith))) (go (exists x n) refl)
    where
      go : (b : Bool) → exists x n ≡ b → All P (cond b (flip n x ∷ []) [])
      go true e = (h n (omega arith) e, tt)
      go false e = tt

  none_improving : (n : ℕ) → improving exists flip n x ≡ [] → (i : ℕ) → i < n → exists x i ≡ false
  unfolding improving
  none_improving zero e i q = absurd (omega arith)
  none_improving (suc n) e i q = go (λ (h : i < n). none_improving n front.0 i h) (dec_lt i n)
    where
      front : (improving exists flip n x ≡ []) × (cond (exists x n) (flip n x ∷ []) [] ≡ [])
      front = append-eq-nil_iff.0 e

      last : (b : Bool) → cond b (flip n x ∷ []) [] ≡ [] → b ≡ false
      last true h = absurd (cons≢nil h)
      last false h = refl

      go : (i < n → exists x i ≡ false) → Dec (i < n) → exists x i ≡ false
      go f (yes h) = f h
      go f (no h) = let same : n ≡ i = omega arith in subst (λ (k : ℕ). exists x k ≡ false) same (last (exists x n) front.1)

-- two filters and flips that agree on the first n signs
pub improving_ext : {X : Type 0} (exists exists' : X → ℕ → Bool) (flip flip' : ℕ → X → X) (x : X) (n : ℕ)
    → ((i : ℕ) → i < n → (exists x i ≡ exists' x i) × (flip i x ≡ flip' i x)) → improving exists flip n x ≡ improving exists' flip' n x
unfolding improving
improving_ext exists exists' flip flip' x zero h = refl
improving_ext {X} exists exists' flip flip' x (suc n) h =
    ap₂ ◌++◌ (improving_ext exists exists' flip flip' x n (λ i q. h i (omega arith)))
    (ap₂ (λ (b : Bool) (y : X). cond b (y ∷ []) []) (h n (omega arith)).0 (h n (omega arith)).1)

module _ {X Y : Type 0} (R : X → Y → Type 0) (exists : X → ℕ → Bool) (flip : ℕ → X → X) (exists' : Y → ℕ → Bool) (flip' : ℕ → Y → Y) (x : X) (y : Y) where
  pub same_improving : (n : ℕ) → ((i : ℕ) → i < n → (exists x i ≡ exists' y i) × R (flip i x) (flip' i y)) → AllZip R (improving exists flip n x) (improving exists' flip' n y)
  unfolding improving
  same_improving zero h = tt
  same_improving (suc n) h =
      let top = h n (omega arith) in
      same_append R (improving exists flip n x) (cond (exists x n) (flip n x ∷ []) []) (improving exists' flip' n y) (cond (exists' y n) (flip' n y ∷ []) [])
      (same_improving n (λ i q. h i (omega arith)))
      (same_cond R (exists x n) (exists' y n) (flip n x ∷ []) [] (flip' n y ∷ []) [] top.0 (top.1, tt) tt)

module _ {m : ℕ} {objective : List ℕ → ℤ} {change : List ℕ → ℕ → ℤ} {floor : ℤ} {height : List ℕ → ℕ} (lawful : Lawful m objective change floor height) where
  orders : (x y : List ℕ) → length x ≡ m → length y ≡ m → lower objective x y ≡ ltb (height x) (height y)
  orders x y p q = ap₂ lt_z (lawful.above_floor x p) (lawful.above_floor y q) ∙ lt_z_shift floor (pos (height x)) (pos (height y))

  fall : (x : List ℕ) → length x ≡ m → (i : ℕ) → i < m → improves change x i ≡ true → height (flip_sign i x) + 4 ≤ height x
  fall x p i q e =
      let four = lawful.fours x i p q in
      let to : floor +ℤ pos (height (flip_sign i x)) ≡ floor +ℤ pos (height x) +ℤ (pos 4 *ℤ four.0) =
      sym (lawful.above_floor (flip_sign i x) (flipped_length i x ∙ p)) ∙ lawful.changes x i p q ∙ ap₂ ◌+ℤ◌ (lawful.above_floor x p) four.1 in
      falls_four floor (height x) (height (flip_sign i x)) four.0 (ap (λ (z : ℤ). lt_z z (pos 0)) (sym four.1) ∙ e) to

  -- a filter of improving children, and what it keeps of every choice that the search reaches
  pub record Filter (exists : List ℕ → ℕ → Bool) (Keeps : List ℕ → Type 0) : Type 1 where
    pub improving : (x : List ℕ) (i : ℕ) → exists x i ≡ true → improves change x i ≡ true
    pub keeps : (x : List ℕ) (i : ℕ) → length x ≡ m → i < m → Keeps x → exists x i ≡ true → Keeps (flip_sign i x)

  -- what is found has no child that exists, and each round has taken 4 eighths off at least
  pub record Found-improved (exists : List ℕ → ℕ → Bool) (Keeps : List ℕ → Type 0) (start : List ℕ) (found : Found (List ℕ)) : Type 0 where
    pub sized : length found.answer ≡ m
    pub kept : Keeps found.answer
    pub fall : height found.answer + 4 * found.rounds ≤ height start
    pub no_child : (i : ℕ) → i < m → exists found.answer i ≡ false

  module _ {exists : List ℕ → ℕ → Bool} {Keeps : List ℕ → Type 0} (filter : Filter exists Keeps) where
    abbrev Sized : List ℕ → Type 0
    Sized x = (length x ≡ m) × Keeps x

    falls : (x : List ℕ) → Sized x → All (λ y. Sized y × (height y + 4 ≤ height x)) (improving exists flip_sign m x)
    falls x p =
        all_improving exists flip_sign x (λ y. Sized y × (height y + 4 ≤ height x)) m
        (λ i q e. ((flipped_length i x ∙ p.0, filter.keeps x i p.0 q p.1 e), fall x p.0 i q (filter.improving x i e)))

    pub sign_search_lem : (W fuel : ℕ) (start : List ℕ) → 1 ≤ W → length start ≡ m → Keeps start → height start ≤ fuel
        → Found-improved exists Keeps start (sign_search objective exists m W fuel start)
    unfolding sign_search
    sign_search_lem W fuel start w p k q =
        let children = improving exists flip_sign m in
        let r = searched_improves (lower objective) children Sized height (λ x y g h. orders x y g.0 h.0) falls W fuel start w q (p, k) in
        record {
          sized = r.good.0;
          kept = r.good.1;
          fall = r.falls_by_rounds;
          no_child = none_improving exists flip_sign (searched (lower objective) children W fuel start).answer m r.no_child;
        }

    -- the levels end within the start's height, and whatever levels end so are those of the search
    pub sign_levels_end : (W fuel : ℕ) (start : List ℕ) → length start ≡ m → Keeps start → height start ≤ fuel
        → Levels (lower objective) (improving exists flip_sign m) W (improving exists flip_sign m start) (levels (lower objective) (improving exists flip_sign m) W fuel (improving exists flip_sign m start))
    sign_levels_end W fuel start p k q =
        levels_end (lower objective) (improving exists flip_sign m) Sized height (λ x y g h. orders x y g.0 h.0) falls W fuel start q (p, k)

    pub sign_levels : (W fuel : ℕ) (start : List ℕ) (ls : List (List (List ℕ))) → length start ≡ m → Keeps start → height start ≤ fuel
        → Levels (lower objective) (improving exists flip_sign m) (suc W) (improving exists flip_sign m start) ls
        → sign_search objective exists m (suc W) fuel start ≡ found_in (lower objective) start ls
    unfolding sign_search
    sign_levels W fuel start ls p k q r =
        searched_levels (lower objective) (improving exists flip_sign m) Sized height (λ x y g h. orders x y g.0 h.0) falls W fuel start ls q (p, k) r

  -- 01's search, whose children are all that improve: no single flip lowers the objective of what it finds
  pub no_flip : (x : List ℕ) (i : ℕ) → length x ≡ m → i < m → improves change x i ≡ false → lt_z (objective (flip_sign i x)) (objective x) ≡ false
  no_flip x i p q e = ap (λ (z : ℤ). lt_z z (objective x)) (lawful.changes x i p q) ∙ lt_z_change (objective x) (change x i) ∙ e

  -- children that are kept besides: what is found holds what they hold, and none of them lowers it
  pub keeping_filter : (keep : List ℕ → ℕ → Bool) (Keeps : List ℕ → Type 0)
      → ((x : List ℕ) (i : ℕ) → length x ≡ m → i < m → Keeps x → keep x i ≡ true → Keeps (flip_sign i x)) → Filter (keeping change keep) Keeps
  keeping_filter keep Keeps holds = record {
    improving = λ x i e. (both (improves change x i) (keep x i) e).0;
    keeps = λ x i p q k e. holds x i p q k (both (improves change x i) (keep x i) e).1;
  }
    where
      both : (a b : Bool) → cond a b false ≡ true → (a ≡ true) × (b ≡ true)
      both true b e = (refl, e)
      both false b e = (e, cc)

  pub no_kept_flip : (keep : List ℕ → ℕ → Bool) (x : List ℕ) (i : ℕ) → length x ≡ m → i < m → keeping change keep x i ≡ false → keep x i ≡ true
      → lt_z (objective (flip_sign i x)) (objective x) ≡ false
  no_kept_flip keep x i p q e k = no_flip x i p q (first (improves change x i) (keep x i) e k)
    where
      first : (a b : Bool) → cond a b false ≡ false → b ≡ true → a ≡ false
      first true b e k = cc
      first false b e k = refl

  -- ---- objectives carried along

  abbrev pub Carried : List ℕ → Choice → Type 0
  Carried x c = (c.signs ≡ x) × (c.objective ≡ objective x) × (length x ≡ m)

  module _ (exists : List ℕ → ℕ → Bool) where
    abbrev pub exists_c : Choice → ℕ → Bool
    exists_c c i = exists c.signs i

    carried_children : (x : List ℕ) (c : Choice) → Carried x c → AllZip Carried (improving exists flip_sign m x) (children_c change exists_c m c)
    unfolding flip_c child_of
    carried_children x c r =
        same_improving Carried exists flip_sign exists_c (flip_c change) x c m
        (λ i q. (
          ap (λ (s : List ℕ). exists s i) (sym r.0),
          (ap (flip_sign i) r.0, ap₂ (λ (o : ℤ) (s : List ℕ). o +ℤ change s i) r.1 r.0 ∙ sym (lawful.changes x i r.2 q), flipped_length i x ∙ r.2),
        ))

    pub carried_search : (W fuel : ℕ) (x : List ℕ) (c : Choice) → Carried x c
        → Carried (sign_search objective exists m W fuel x).answer (searched below (children_c change exists_c m) W fuel c).answer
        × ((sign_search objective exists m W fuel x).rounds ≡ (searched below (children_c change exists_c m) W fuel c).rounds)
    unfolding sign_search below
    carried_search W fuel x c r =
        same_searched Carried (lower objective) below (λ u v a b p q. ap₂ lt_z (sym p.1) (sym q.1))
        (improving exists flip_sign m) (children_c change exists_c m) carried_children W fuel x c r

  -- ---- the same laws for choices with their objectives, as the buffers have them

  abbrev pub Good : Choice → Type 0
  Good c = (length c.signs ≡ m) × (c.objective ≡ objective c.signs)

  pub orders_choices : (c d : Choice) → Good c → Good d → below c d ≡ ltb (height c.signs) (height d.signs)
  unfolding below
  orders_choices c d p q = ap₂ lt_z p.1 q.1 ∙ orders c.signs d.signs p.0 q.0

  pub falls_choices : (exists : Choice → ℕ → Bool) → ((c : Choice) (i : ℕ) → exists c i ≡ true → improves_c change c i ≡ true)
      → (c : Choice) → Good c → All (λ d. Good d × (height d.signs + 4 ≤ height c.signs)) (children_c change exists m c)
  unfolding flip_c child_of
  falls_choices exists within c p =
      all_improving exists (flip_c change) c (λ d. Good d × (height d.signs + 4 ≤ height c.signs)) m
      (λ i q e. ((flipped_length i c.signs ∙ p.0, ap (λ (o : ℤ). o +ℤ change c.signs i) p.1 ∙ sym (lawful.changes c.signs i p.0 q)), fall c.signs p.0 i q (within c i e)))

  pub child_fits : ((x : List ℕ) → length x ≡ m → SFits w64 (objective x)) → (c : Choice) → Good c → (i : ℕ) → i < m → SFits w64 (c.objective +ℤ change c.signs i)
  child_fits bounded c p i q =
      subst (SFits w64) (lawful.changes c.signs i p.0 q ∙ ap (λ (o : ℤ). o +ℤ change c.signs i) (sym p.1))
      (bounded (flip_sign i c.signs) (flipped_length i c.signs ∙ p.0))
