-- A child enters a level exactly where its objective is below the limit, so that those which are not leave the level as it is. Assumes nothing.
use Prim.Native.Nat.{ℕ, zero, suc, ◌-◌, ◌≤◌, ◌<◌}
use native.Mathlib.Decide.{dec_lt, dec_le}
use native.Mathlib.Numerals.{add-one}
use native.Mathlib.Omega.{arith}
use borrow.Author.Tests.{lt-ltb, le-ltb}
use mathlib.Core.Bool.{Bool, true, false, cond}
use mathlib.Core.List.{List}
use mathlib.Core.Path.{◌≡◌, refl, sym, ap, ap₂, ◌∙◌, subst}
use lib.Dec.{ltb}
use lib.IntN.{ℤ, pos, ◌+ℤ◌}
use lib.Signed.{lt_z}
use lib.ListN.{length, take, get_or}
use lib.Seq.{get_or-take, length-take-le}
use Rattle.laws.proofs.Any.{cond_self}
use Rattle.std.proofs.lemmas.Bool.{false_from_ne_true}
use Rattle.std.proofs.lemmas.Int.{ints}
use Rattle.local_search.specs.LocalSearch.{keep_best}
use Rattle.local_search.specs.Level.{Choice, below, place_of, level_of, Ascending}
use Rattle.local_search.specs.SignSearch.{improving, improves_c, child_at}
use Rattle.local_search.specs.Children.{change_of, flip_w, Kept}
use Rattle.local_search.specs.Enters.{finds_room, enters, limit_of, below_limit, FirstFrom, none, first}
use Rattle.std.specs.Prelude.{Option, Some, None}
use Rattle.local_search.proofs.Heights.{lt_z_change}
use Rattle.local_search.proofs.LevelLaws.{objectives_of}
use Rattle.local_search.proofs.OrderLaws.{kept_rising, place_start, place_above, place_below}
use Rattle.local_search.proofs.EntersMeans.{enters_means}
use Rattle.local_search.proofs.ExpandLaws.{children_one_more}

-- ---- the limit

module _ (width count : ℕ) (os : List ℤ) (o : ℤ) where
  abbrev last : ℤ
  last = get_or os (count - 1) (pos 0)

  abbrev lower_of : Bool → ℤ
  lower_of b = cond b last o

  pub limit_with_room : count < width → limit_of width count os o ≡ o
  unfolding limit_of
  limit_with_room h = ap (λ (b : Bool). cond b o (lower_of (lt_z last o))) (lt-ltb count width h)

  pub limit_full : width ≤ count → limit_of width count os o ≡ lower_of (lt_z last o)
  unfolding limit_of
  limit_full h = ap (λ (b : Bool). cond b o (lower_of (lt_z last o))) (le-ltb count width h)

-- below both is below the lower of them
below_both : (x last o : ℤ) → cond (lt_z x o) (lt_z x last) false ≡ lt_z x (cond (lt_z last o) last o)
below_both x last o = go (lt_z last o) refl (lt_z x o) refl (lt_z x last) refl
  where
    go : (a : Bool) → lt_z last o ≡ a → (b : Bool) → lt_z x o ≡ b → (c : Bool) → lt_z x last ≡ c → cond b c false ≡ lt_z x (cond a last o)
    go true p true q c r = sym r
    go true p false q c r = sym (false_from_ne_true (lt_z x last) (λ e. omega (arith, ints)))
    go false p true q true r = sym q
    go false p true q false r = absurd (omega (arith, ints))
    go false p false q c r = sym q

module _ (width count : ℕ) (os : List ℤ) (x : ℤ) (fits : count ≤ length os) where
  room_left : count < width → finds_room width (take count os) x ≡ true
  unfolding finds_room
  room_left h = lt-ltb (place_of x (take count os)) width (omega (arith, place_start x os count fits))

  -- a full level has room for what is below its last
  room_full : 1 ≤ width → count ≡ width → Ascending (take count os) → finds_room width (take count os) x ≡ lt_z x (get_or os (count - 1) (pos 0))
  unfolding finds_room
  room_full some full rising = go (lt_z x (get_or os (count - 1) (pos 0))) refl
    where
      inside : count - 1 < length (take count os)
      inside = omega (arith, length-take-le count os fits)

      same : get_or (take count os) (count - 1) (pos 0) ≡ get_or os (count - 1) (pos 0)
      same = get_or-take count os (count - 1) (pos 0) (omega arith)

      go : (b : Bool) → lt_z x (get_or os (count - 1) (pos 0)) ≡ b → ltb (place_of x (take count os)) width ≡ b
      go true e = lt-ltb (place_of x (take count os)) width (omega (arith, place_above x (take count os) (count - 1) inside (ap (lt_z x) same ∙ e)))
      go false e = le-ltb (place_of x (take count os)) width (omega (arith, place_below x (take count os) (count - 1) rising inside (ap (lt_z x) same ∙ e)))

pub enters_below : (width count : ℕ) (os changes : List ℤ) (parent : Choice) (i : ℕ) → 1 ≤ width → count ≤ width → count ≤ length os → Ascending (take count os)
    → enters width (take count os) changes parent i ≡ below_limit changes parent.objective (limit_of width count os parent.objective) i
unfolding enters
enters_below width count os changes parent i some few fits rising = go (dec_lt count width)
  where
    o : ℤ
    o = parent.objective

    x : ℤ
    x = parent.objective +ℤ get_or changes i (pos 0)

    improves_is : lt_z (get_or changes i (pos 0)) (pos 0) ≡ lt_z x o
    improves_is = sym (lt_z_change parent.objective (get_or changes i (pos 0)))

    go : Dec (count < width) → cond (lt_z (get_or changes i (pos 0)) (pos 0)) (finds_room width (take count os) x) false ≡ lt_z x (limit_of width count os o)
    go (yes h) =
        ap₂ (λ (a b : Bool). cond a b false) improves_is (room_left width count os x fits h)
        ∙ cond_self (lt_z x o) ∙ ap (lt_z x) (sym (limit_with_room width count os o h))
    go (no n) =
        ap₂ (λ (a b : Bool). cond a b false) improves_is (room_full width count os x fits some (omega arith) rising)
        ∙ below_both x (get_or os (count - 1) (pos 0)) o ∙ ap (lt_z x) (sym (limit_full width count os o (omega arith)))

-- ---- the first that is below the limit

pub same_first : (changes : List ℤ) (o : ℤ) {limit limit' : ℤ} {from m : ℕ} {r : Option ℕ} → limit ≡ limit'
    → FirstFrom (below_limit changes o limit) from m r → FirstFrom (below_limit changes o limit') from m r
same_first changes o {from} {m} {r} e p = subst (λ (b : ℤ). FirstFrom (below_limit changes o b) from m r) e p

module _ {test : ℕ → Bool} {from m : ℕ} where
  -- what is known of the one that is found
  pub first_is : {r : ℕ} → FirstFrom test from m (Some r) → (from ≤ r) × (r < m) × ((i : ℕ) → from ≤ i → i < r → test i ≡ false)
  first_is (first r onward inside passed found) = (onward, inside, passed)

  pub none_is : FirstFrom test from m None → (i : ℕ) → from ≤ i → i < m → test i ≡ false
  none_is (none passed) = passed

-- ---- the children that are passed over

module _ (width : ℕ) (before : List Choice) (changes : List ℤ) (parent : Choice) where
  abbrev listed : ℕ → List Choice
  listed i = improving (improves_c (change_of changes)) (flip_w changes) i parent

  abbrev Listed : List Choice → ℕ → ℕ → Type 0
  Listed level count i = Kept width before (listed i) level count

  child_stays : (level : List Choice) (count i : ℕ) → keep_best below width level (child_at (improves_c (change_of changes)) (flip_w changes) parent i) ≡ level
      → Listed level count i → Listed level count (suc i)
  child_stays level count i stay k =
      subst (Listed level count) (add-one i)
      (children_one_more width before changes (improves_c (change_of changes)) parent i level level count count k (record { level = sym stay; room = k.room }))

  children_stay : (level : List Choice) (count from to : ℕ) → from ≤ to
      → ((i : ℕ) → from ≤ i → i < to → keep_best below width level (child_at (improves_c (change_of changes)) (flip_w changes) parent i) ≡ level)
      → Listed level count from → Listed level count to
  children_stay level count from zero h stay k = let e : from ≡ zero = omega arith in subst (Listed level count) e k
  children_stay level count from (suc to) h stay k =
      go (dec_le from to) (λ (p : from ≤ to). child_stays level count to (stay to p (omega arith)) (children_stay level count from to p (λ i a b. stay i a (omega arith)) k))
    where
      go : Dec (from ≤ to) → (from ≤ to → Listed level count (suc to)) → Listed level count (suc to)
      go (yes p) f = f p
      go (no n) f = let e : from ≡ suc to = omega arith in subst (Listed level count) e k

  pub passed_over : (m count : ℕ) (os : List ℤ) (s : List ℕ) (from to : ℕ) → 1 ≤ width → width ≤ length os → Ascending (objectives_of before) → from ≤ to
      → ((i : ℕ) → from ≤ i → i < to → below_limit changes parent.objective (limit_of width count os parent.objective) i ≡ false)
      → Listed (level_of m count os s) count from → Listed (level_of m count os s) count to
  passed_over m count os s from to some room rising onward passed k =
      let few : count ≤ width = k.room in
      let fits : count ≤ length os = omega arith in
      let now-rising : Ascending (take count os) = kept_rising width m count os s before (listed from) count fits rising k in
      children_stay (level_of m count os s) count from to onward
      (λ i a b. (enters_means width m count os s changes parent i few fits).stays (enters_below width count os changes parent i some few fits now-rising ∙ passed i a b)) k
