-- The walk over the entries, turn by turn: what it leaves is the submatrix of the free wagons.
-- Assumes nothing.
use mathlib.Core.Path.{◌≡◌, refl, sym, ◌∙◌, ap, ap₂}
use mathlib.Core.Logic.{◌⊎◌, inl, inr}
use mathlib.Core.Bool.{Bool, true, false, cond}
use mathlib.Core.List.{List, ◌++◌, append-nil}
use Prim.Native.Nat.{ℕ, zero, suc, ◌+◌, ◌<◌, ◌≤◌}
use native.Mathlib.Omega.{arith}
use native.Mathlib.Numerals.{add-one}
use borrow.Author.Tests.{lt-ltb, le-ltb}
use lib.ListN.{length, set, replicate, length-replicate}
use lib.Seq.{sets, set-set}
use lib.Dec.{ltb}
use lib.IntN.{ℤ, pos}
use Rattle.std.proofs.lemmas.Bool.{cases_lt}
use Rattle.laws.specs.Lists.{elem, kept, over, fill, only_if, put_if, next_if}
use Rattle.laws.proofs.Made.{length_kept, kept_lengths, kept_next, kept_count}
use Rattle.laws.proofs.MapFirst.{get_d_map_first}
use Rattle.laws.proofs.Parts.{over_sets}
use Rattle.tables.specs.Table.{Table}
use Rattle.tables.specs.Stored.{Wrote, Room}
use Rattle.tables.specs.Check.{Hall}
use Rattle.limits.specs.Limits.{most_wagons, most_entries}
use Rattle.reduced.specs.Submatrix.{value_in, reduced_places}
use Rattle.pinned.specs.Pinned.{is_free, free_of, place_of, free_entry, LastFree, Put, Renumbered}
use Rattle.pinned.proofs.Renumber.{among_free, place_test, rows_free, cols_free, values_free, many_free}

-- ---- the places

pub place_so : (states : List ℕ) (i before : ℕ) {place : ℕ} → before ≡ length (free_of i states) → place ≡ cond (is_free states i) before most_wagons → place ≡ place_of states i
unfolding place_of
place_so states i before e p = p ∙ ap (λ x. cond (is_free states i) x most_wagons) e

pub place_next : (states : List ℕ) (i before : ℕ) {place next : ℕ} → i < most_wagons → before ≡ length (free_of i states) → place ≡ place_of states i
    → next ≡ next_if (ltb place most_wagons) before → next ≡ length (free_of (i + 1) states)
unfolding free_of
place_next states i before l e p q =
    q ∙ ap (λ x. next_if (ltb x most_wagons) before) p ∙ ap (λ t. next_if t before) (place_test states i l) ∙ kept_count (is_free states) (λ j. j) i before e

-- ---- one entry

module _ (places : List ℕ) (row column : ℕ → ℕ) (l : ℕ) where
  pub entry_held : most_wagons ≤ elem places (row l) → free_entry places row column l ≡ false
  unfolding free_entry
  entry_held h = rw (le-ltb (elem places (row l)) most_wagons h)

  pub entry_column : elem places (row l) < most_wagons → free_entry places row column l ≡ ltb (elem places (column l)) most_wagons
  unfolding free_entry
  entry_column h = rw (lt-ltb (elem places (row l)) most_wagons h)

pub put_none : {A : Type 0} {keep : Bool} (at : ℕ) (x : A) (xs : List A) → keep ≡ false → Put keep at x xs xs
put_none at x xs e = record { here = λ t. cc; others = λ v. refl }

pub put_here : {A : Type 0} (keep : Bool) (at : ℕ) (x : A) (xs : List A) → Put keep at x xs (set xs at x)
put_here keep at x xs = record { here = λ t. refl; others = λ v. set-set xs at x v }

-- ---- entry after entry: behind those that are kept one place may hold anything, and doesn't where the last one is kept

pub record Walked {A : Type 0} (keep : ℕ → Bool) (f : ℕ → A) (l at : ℕ) (xs ys : List A) : Type 0 where
  pub whole : ((k : ℕ) → suc k ≡ l → keep k ≡ true) → ys ≡ over (kept keep f l) xs
  pub others : (v : A) → set ys at v ≡ set (over (kept keep f l) xs) at v

module _ {A : Type 0} (keep : ℕ → Bool) (f : ℕ → A) where
  walked_none : (xs : List A) → Walked keep f 0 0 xs xs
  unfolding kept
  walked_none xs = record { whole = λ _. refl; others = λ v. refl }

  walked_next : (d : A) {l at : ℕ} {xs ys ys' : List A} → at ≡ length (kept keep f l) → at < length xs → Walked keep f l at xs ys → Put (keep l) at (f l) ys ys'
      → Walked keep f (l + 1) (next_if (keep l) at) xs ys'
  walked_next d {l} {at} {xs} {ys} {ys'} e room w p = go (keep l) refl p (kept_next keep f l at xs (over (kept keep f l) xs) d e room refl)
    where
      go : (t : Bool) → keep l ≡ t → Put t at (f l) ys ys' → put_if t at (f l) (over (kept keep f l) xs) ≡ over (kept keep f (l + 1)) xs
          → Walked keep f (l + 1) (next_if t at) xs ys'
      go true k q n =
          let all : ys' ≡ over (kept keep f (l + 1)) xs = q.here refl ∙ w.others (f l) ∙ n in
          record { whole = λ _. all; others = λ v. ap (λ (zs : List A). set zs (at + 1) v) all }
      go false k q n =
          record {
            whole = λ last. cc (last l (sym (add-one l)));
            others = λ v. q.others v ∙ w.others v ∙ ap (λ (zs : List A). set zs at v) n;
          }

  -- nothing is kept from `end` on
  kept_stop : (count end : ℕ) → end ≤ count → ((l : ℕ) → end ≤ l → l < count → keep l ≡ false) → kept keep f count ≡ kept keep f end
  unfolding kept
  kept_stop zero end up none = let e : end ≡ 0 = omega arith in rw e
  kept_stop (suc count) end up none = go (cases_lt count end) (λ h. kept_stop count end h (λ l a b. none l a (omega arith)))
    where
      less : (xs : List A) (t : Bool) → t ≡ false → xs ++ only_if t (f count) ≡ xs
      less xs t e = rw e (append-nil xs)

      one : end ≤ count → kept keep f (suc count) ≡ kept keep f count
      one h = less (kept keep f count) (keep count) (none count h (omega arith))

      go : (count < end) ⊎ (end ≤ count) → (end ≤ count → kept keep f count ≡ kept keep f end) → kept keep f (suc count) ≡ kept keep f end
      go (inl h) ih = let e : end ≡ suc count = omega arith in rw e
      go (inr h) ih = one h ∙ ih h

  kept_ext : (keep' : ℕ → Bool) (g : ℕ → A) (n : ℕ) → ((l : ℕ) → l < n → keep l ≡ keep' l) → ((l : ℕ) → l < n → f l ≡ g l) → kept keep f n ≡ kept keep' g n
  unfolding kept
  kept_ext keep' g zero a b = refl
  kept_ext keep' g (suc n) a b =
      ap₂ ◌++◌ (kept_ext keep' g n (λ l h. a l (omega arith)) (λ l h. b l (omega arith))) (ap₂ only_if (a n (omega arith)) (b n (omega arith)))

-- ---- the loop

pub record Walking (places : List ℕ) (h : Table) (l at : ℕ) (rows cols : List ℕ) (values : List ℤ) (rows' cols' : List ℕ) (values' : List ℤ) : Type 0 where
  pub many : at ≡ length (kept (free_entry places h.row h.column) h.value l)
  pub rows_so : Walked (free_entry places h.row h.column) (λ k. elem places (h.row k)) l at rows rows'
  pub cols_so : Walked (free_entry places h.row h.column) (λ k. elem places (h.column k)) l at cols cols'
  pub values_so : Walked (free_entry places h.row h.column) h.value l at values values'

module _ (places : List ℕ) (h : Table) where
  abbrev keep : ℕ → Bool
  keep = free_entry places h.row h.column

  pub walk_begin : (rows cols : List ℕ) (values : List ℤ) → Walking places h 0 0 rows cols values rows cols values
  unfolding kept
  walk_begin rows cols values =
      record {
        many = refl;
        rows_so = walked_none keep (λ k. elem places (h.row k)) rows;
        cols_so = walked_none keep (λ k. elem places (h.column k)) cols;
        values_so = walked_none keep h.value values;
      }

  module _ {l at : ℕ} {rows cols : List ℕ} {values : List ℤ} {rows' cols' : List ℕ} {values' : List ℤ} (w : Walking places h l at rows cols values rows' cols' values') where
    pub walk_few : at ≤ l
    walk_few = omega (arith, w.many, length_kept keep h.value l)

    pub walk_room : l < h.count → Room 0 h.count rows cols values → length rows' ≡ length rows → length cols' ≡ length cols → length values' ≡ length values → Room at 1 rows' cols' values'
    walk_room b room x y z =
        record {
          rows_room = omega (arith, walk_few, room.rows_room);
          cols_room = omega (arith, walk_few, room.cols_room);
          values_room = omega (arith, walk_few, room.values_room);
        }

    pub walk_turn : {at' : ℕ} {rows'' cols'' : List ℕ} {values'' : List ℤ} → l < h.count → Room 0 h.count rows cols values
        → Put (keep l) at (elem places (h.row l)) rows' rows'' → Put (keep l) at (elem places (h.column l)) cols' cols'' → Put (keep l) at (h.value l) values' values''
        → at' ≡ next_if (keep l) at → Walking places h (l + 1) at' rows cols values rows'' cols'' values''
    walk_turn b room p q s e =
        rw e
        (record {
          many = kept_count keep h.value l at w.many;
          rows_so =
              walked_next keep (λ k. elem places (h.row k)) 0 (w.many ∙ kept_lengths keep h.value (λ k. elem places (h.row k)) l) (omega (arith, walk_few, room.rows_room)) w.rows_so p;
          cols_so =
              walked_next keep (λ k. elem places (h.column k)) 0 (w.many ∙ kept_lengths keep h.value (λ k. elem places (h.column k)) l) (omega (arith, walk_few, room.cols_room)) w.cols_so q;
          values_so = walked_next keep h.value (pos 0) w.many (omega (arith, walk_few, room.values_room)) w.values_so s;
        })

    pub walk_done : LastFree keep h.count l → Renumbered places h rows cols values rows' cols' values' at
    walk_done end =
        record {
          rows_are = w.rows_so.whole end.last ∙ ap (λ (zs : List ℕ). over zs rows) (sym (kept_stop keep (λ k. elem places (h.row k)) h.count l end.inside end.beyond));
          cols_are = w.cols_so.whole end.last ∙ ap (λ (zs : List ℕ). over zs cols) (sym (kept_stop keep (λ k. elem places (h.column k)) h.count l end.inside end.beyond));
          values_are = w.values_so.whole end.last ∙ ap (λ (zs : List ℤ). over zs values) (sym (kept_stop keep h.value h.count l end.inside end.beyond));
          many = w.many ∙ ap length (sym (kept_stop keep h.value h.count l end.inside end.beyond));
        }

-- ---- the whole

module _ {limit n : ℕ} {h : Table} {c : ℕ → ℤ} (ok : Hall most_wagons most_entries limit n h c) (states : List ℕ) {places free : List ℕ}
    (is : places ≡ fill (place_of states) n (replicate most_wagons most_wagons)) (map : free ≡ free_of n states) where
  place_at : (i : ℕ) → i < n → elem places i ≡ place_of states i
  place_at i l =
      rw is (get_d_map_first (λ j _. place_of states j) n (replicate most_wagons most_wagons) i 0 l (rw (length-replicate {A = ℕ} most_wagons most_wagons) (omega (arith, ok.wagons))))

  placed_free : (i : ℕ) → i < n → ltb (elem places i) most_wagons ≡ is_free states i
  placed_free i l = ap (λ x. ltb x most_wagons) (place_at i l) ∙ place_test states i (omega (arith, ok.wagons))

  same_entries : (l : ℕ) → l < h.count → free_entry places h.row h.column l ≡ among_free h states l
  unfolding free_entry
  same_entries l b = ap₂ (λ s t. cond s t false) (placed_free (h.row l) (ok.in_range.rows_in l b)) (placed_free (h.column l) (ok.in_range.cols_in l b))

  listing : {A : Type 0} (f g : ℕ → A) → ((l : ℕ) → l < h.count → f l ≡ g l) → kept (free_entry places h.row h.column) f h.count ≡ kept (among_free h states) g h.count
  listing f g e = kept_ext (free_entry places h.row h.column) f (among_free h states) g h.count same_entries e

  small : n ≤ 65536
  small = omega (arith, ok.wagons)

  -- the places of the rows' wagons, or the columns'
  places_listed : (index : ℕ → ℕ) → ((l : ℕ) → l < h.count → index l < n)
      → kept (free_entry places h.row h.column) (λ l. elem places (index l)) h.count ≡ kept (among_free h states) (λ l. place_of states (index l)) h.count
  places_listed index low = listing (λ l. elem places (index l)) (λ l. place_of states (index l)) (λ l b. place_at (index l) (low l b))

  values_listed : kept (free_entry places h.row h.column) h.value h.count ≡ kept (among_free h states) h.value h.count
  values_listed = listing h.value h.value (λ l b. refl)

  front : {A : Type 0} (f : ℕ → A) {xs : List A} (l : List A) → xs ≡ kept (among_free h states) f h.count → h.count ≤ length l → over (kept (among_free h states) f h.count) l ≡ sets l 0 xs
  front f l e room = rw (e, over_sets (kept (among_free h states) f h.count) l (omega (arith, length_kept (among_free h states) f h.count)))

  -- the theorem
  module _ {rows cols : List ℕ} {values : List ℤ} {rows' cols' : List ℕ} {values' : List ℤ} {count : ℕ} (room : Room 0 h.count rows cols values)
      (made : Renumbered places h rows cols values rows' cols' values' count) where
    pub entries_wrote : Wrote (value_in h free) (reduced_places h free) 0 rows cols values rows' cols' values'
    entries_wrote =
        rw map
        (record {
          rows_are = made.rows_are ∙ ap (λ (zs : List ℕ). over zs rows) (places_listed h.row ok.in_range.rows_in) ∙ front (λ l. place_of states (h.row l)) rows (rows_free small ok.in_range ok.rising states) (omega (arith, room.rows_room));
          cols_are = made.cols_are ∙ ap (λ (zs : List ℕ). over zs cols) (places_listed h.column ok.in_range.cols_in) ∙ front (λ l. place_of states (h.column l)) cols (cols_free small ok.in_range ok.rising states) (omega (arith, room.cols_room));
          values_are =
              made.values_are ∙ ap (λ (zs : List ℤ). over zs values) values_listed ∙ front h.value values (values_free small ok.in_range ok.rising states) (omega (arith, room.values_room));
        })

    pub entries_many : count ≡ length (reduced_places h free)
    entries_many = rw map (made.many ∙ ap length values_listed ∙ sym (many_free small ok.in_range ok.rising states))
