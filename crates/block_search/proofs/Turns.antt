-- The blocks in turn: what a turn of the loop makes, and what holds of every choice on the way.
--     clearing      what an accepted call promises (`Cleared`)
-- Assumes nothing.
use Prim.Native.Nat.{ℕ, zero, suc, ◌+◌, ◌-◌, ◌≤◌, ◌<◌}
use native.Mathlib.Numerals.{add-one}
use native.Mathlib.Omega.{arith}
use mathlib.Core.Bool.{Bool, true, false, cond}
use mathlib.Core.List.{List, [], ◌∷◌}
use mathlib.Core.Path.{◌≡◌, refl, sym, ap, ◌∙◌}
use lib.IntN.{ℤ, ◌-ℤ◌}
use lib.ListN.{length, take, drop}
use lib.Seq.{length-take-le, get_or-take}
use Rattle.std.specs.List.{sum_by}
use Rattle.std.proofs.lemmas.List.Sums.{sum_by-cons}
use Rattle.laws.specs.Sum.{total}
use Rattle.laws.specs.Turns.{up_to}
use Rattle.laws.specs.Lists.{elem, tabulate, over}
use Rattle.laws.proofs.Made.{tabulate_take, length_tabulate, over_all}
use Rattle.laws.proofs.Sums.{total_le}
use Rattle.laws.proofs.Totals.{total_front}
use Rattle.laws.proofs.UpTo.{up_to_next}
use Rattle.std.proofs.lemmas.Int.{ints}
use Rattle.tables.specs.Table.{Table}
use Rattle.tables.specs.Check.{Hall}
use Rattle.reduced.specs.Indices.{put_each, Once}
use Rattle.reduced.proofs.Put.{Last, found, none, put_last, length_put}
use Rattle.block_search.specs.Blocks.{BlockCall, named, block_of, block_moves, searched_from, fall_from, choice_from, block_fall, pinned_choice, first_choice, choice_after, fall_of, house_moves}
use Rattle.block_search.specs.Clauses.{Low, PinsFit}
use Rattle.block_search.specs.Call.{call_cost, Cleared}
use Rattle.block_search.proofs.Named.{is_named}
use Rattle.block_search.proofs.Apart.{apart_same}
use Rattle.block_search.proofs.Held.{low_beyond, fall_is, fall_up, stays, one_better, all_better, low_after, long_after}

-- ---- where a block lies

pub block_ends : (sizes : List ℕ) {k at size lent : ℕ} → k < length sizes → total (length sizes) (elem sizes) ≤ lent → at ≡ total k (elem sizes) → size ≡ elem sizes k → at + size ≤ lent
unfolding total
block_ends sizes {k} h room a e = omega (arith, total_le (length sizes) (suc k) (elem sizes) h, room, a, e)

-- all sizes in one sum
pub sizes_summed : (sizes : List ℕ) → sum_by (λ x. x) sizes ≡ total (length sizes) (elem sizes)
unfolding total
sizes_summed [] = refl
sizes_summed (x ∷ xs) = sum_by-cons (λ y. y) x xs ∙ ap (λ s. x + s) (sizes_summed xs) ∙ sym (total_front (length xs) (elem (x ∷ xs)))

pub total_next : (f : ℕ → ℕ) (k : ℕ) {at end : ℕ} → at ≡ total k f → end ≡ at + f k → end ≡ total (k + 1) f
unfolding total
total_next f k a e = rw (add-one k) (e ∙ ap (λ i. i + f k) a)

pub part_is : (sizes wagons : List ℕ) (k : ℕ) {at end : ℕ} → at ≡ total k (elem sizes) → end ≡ at + elem sizes k → take (end - at) (drop at wagons) ≡ block_of sizes wagons k
unfolding block_of
part_is sizes wagons k {at} {end} a e = let s : end - at ≡ elem sizes k = omega (arith, e) in rw (s, a)

-- ---- a turn

module _ (n : ℕ) (h : Table) (c : ℕ → ℤ) (W : ℕ) (moves : ℕ → ℕ → Bool) (b₀ : List ℕ) where
  pub choice_none : b₀ ≡ choice_from n h c W moves b₀ 0
  unfolding choice_from up_to
  choice_none = refl

  module _ (k : ℕ) (b : List ℕ) (e : b ≡ choice_from n h c W moves b₀ k) where
    pub fall_next : {r : ℤ} → r ≡ fall_from n h c W (moves k) b → r ≡ block_fall n h c W moves b₀ k
    unfolding block_fall
    fall_next q = q ∙ ap (λ (x : List ℕ). fall_from n h c W (moves k) x) e

    pub choice_next : {b' : List ℕ} → b' ≡ searched_from n h c W (moves k) b → b' ≡ choice_from n h c W moves b₀ (k + 1)
    unfolding choice_from
    choice_next q = q ∙ up_to_next (λ (j : ℕ) (x : List ℕ). searched_from n h c W (moves j) x) k b₀ b e

  module _ {most capacity limit : ℕ} (hall : Hall most capacity limit n h c) (some : 1 ≤ W) (low : Low b₀) (long : length b₀ ≡ n) where
    after : (k : ℕ) → Low (choice_from n h c W moves b₀ k) × (length (choice_from n h c W moves b₀ k) ≡ n)
    unfolding choice_from up_to
    after zero = (low, long)
    after (suc k) = let p = after k in (
      low_after n (moves k) (choice_from n h c W moves b₀ k) p.0 hall W some,
      long_after n (moves k) (choice_from n h c W moves b₀ k) p.0 hall W some,
    )

    pub blocks_low : (k : ℕ) → Low (choice_from n h c W moves b₀ k)
    blocks_low k = (after k).0

    pub block_fall_lem : (k : ℕ) → fall_from n h c W (moves k) (choice_from n h c W moves b₀ k) ≡ block_fall n h c W moves b₀ k
    unfolding block_fall
    block_fall_lem k = refl

    pub block_choice : (k : ℕ) → searched_from n h c W (moves k) (choice_from n h c W moves b₀ k) ≡ choice_from n h c W moves b₀ (suc k)
    unfolding choice_from up_to
    block_choice k = refl

-- ---- the first choice

module _ (n : ℕ) (pinned stores present : List ℕ) (fits : PinsFit n pinned stores present) where
  pub first_long : length (pinned_choice n pinned stores present) ≡ n
  unfolding pinned_choice
  first_long = length_put (elem pinned) (elem stores) (length pinned) (take n present) ∙ length-take-le n present fits.present_there

  stands : (i : ℕ) → i < n → Last (elem pinned) (elem stores) (length pinned) i (elem present i) (elem (pinned_choice n pinned stores present) i)
  unfolding pinned_choice
  stands i h =
      let l = put_last {A = ℕ} (elem pinned) (elem stores) (length pinned) (take n present) i 0 (rw (length-take-le n present fits.present_there) h) in
      rw (get_or-take n present i 0 h) at l

  pub first_low : Low (pinned_choice n pinned stores present)
  first_low = low_beyond (pinned_choice n pinned stores present) n first_long (λ i l. go i l (stands i l))
    where
      go : (i : ℕ) → i < n → {y : ℕ} → Last (elem pinned) (elem stores) (length pinned) i (elem present i) y → y ≤ 1
      go i h (found j l e rest) = fits.stores_low j l
      go i h (none away) = fits.present_low i h

  pub pin_set : Once pinned → (k : ℕ) → k < length pinned → elem (pinned_choice n pinned stores present) (elem pinned k) ≡ elem stores k
  pin_set once k h = go (stands (elem pinned k) (fits.wagons_there.below k h))
    where
      go : {y : ℕ} → Last (elem pinned) (elem stores) (length pinned) (elem pinned k) (elem present (elem pinned k)) y → y ≡ elem stores k
      go (found j l e rest) = ap (elem stores) (once.same j k l h e)
      go (none away) = absurd (away k h refl)

  pub present_kept : (i : ℕ) → i < n → named pinned i ≡ false → elem (pinned_choice n pinned stores present) i ≡ elem present i
  present_kept i h e = go (stands i h)
    where
      go : {y : ℕ} → Last (elem pinned) (elem stores) (length pinned) i (elem present i) y → y ≡ elem present i
      go (found j l q rest) = cc (is_named pinned i j l q)
      go (none away) = refl

-- the code: the first bytes copied, and the stores put over them
pub first_made : (n : ℕ) (pinned stores present b : List ℕ) {mid out : List ℕ} → n ≤ length present → length b ≡ n → mid ≡ over (tabulate (elem present) n) b
    → out ≡ put_each (elem pinned) (elem stores) (length pinned) mid → out ≡ pinned_choice n pinned stores present
unfolding pinned_choice
first_made n pinned stores present b long s e g =
    g ∙ ap (put_each (elem pinned) (elem stores) (length pinned)) (e ∙ over_all (tabulate (elem present) n) b (s ∙ sym (length_tabulate (elem present) n)) ∙ tabulate_take present n 0 long)

-- ---- the theorem

-- who moves with a block
abbrev moved : BlockCall → ℕ → ℕ → Bool
moved q = block_moves q.pinned q.sizes q.wagons

module _ {most capacity limit : ℕ} (q : BlockCall) (hall : Hall most capacity limit q.n q.table q.costs) (some : 1 ≤ q.width)
    (pins : PinsFit q.n q.pinned q.stores q.present) (once : Once q.pinned) where
  low : (k : ℕ) → Low (choice_after q k)
  low k =
      blocks_low q.n q.table q.costs q.width (moved q) (first_choice q) hall some
      (first_low q.n q.pinned q.stores q.present pins) (first_long q.n q.pinned q.stores q.present pins) k

  next : (k : ℕ) → searched_from q.n q.table q.costs q.width (moved q k) (choice_after q k) ≡ choice_after q (suc k)
  next k =
      block_choice q.n q.table q.costs q.width (moved q) (first_choice q) hall some
      (first_low q.n q.pinned q.stores q.present pins) (first_long q.n q.pinned q.stores q.present pins) k

  fall : (k : ℕ) → fall_from q.n q.table q.costs q.width (moved q k) (choice_after q k) ≡ fall_of q k
  fall k =
      block_fall_lem q.n q.table q.costs q.width (moved q) (first_choice q) hall some
      (first_low q.n q.pinned q.stores q.present pins) (first_long q.n q.pinned q.stores q.present pins) k

  abbrev end : ℕ
  end = length q.sizes

  falls : (k : ℕ) → call_cost q (choice_after q k) -ℤ call_cost q (choice_after q (suc k)) ≡ fall_of q k
  falls k = ap (λ (x : List ℕ). call_cost q (choice_after q k) -ℤ call_cost q x) (sym (next k)) ∙ fall_is q.n (moved q k) (choice_after q k) (low k) hall q.width some ∙ fall k

  -- a pinned wagon is where it was first set
  stay : (k i : ℕ) → i < q.n → moved q k i ≡ false → elem (choice_after q (suc k)) i ≡ elem (choice_after q k) i
  stay k i a e = ap (λ (x : List ℕ). elem x i) (sym (next k)) ∙ stays q.n (moved q k) (choice_after q k) (low k) hall q.width some i a e

  pin_there : (j : ℕ) → j < length q.pinned → elem q.pinned j < q.n
  pin_there j l = pins.wagons_there.below j l

  pin_named : (j : ℕ) → j < length q.pinned → named q.pinned (elem q.pinned j) ≡ true
  pin_named j l = is_named q.pinned (elem q.pinned j) j l refl

  kept : (k j : ℕ) → j < length q.pinned → elem (choice_after q k) (elem q.pinned j) ≡ elem q.stores j
  kept zero j l =
      ap (λ (x : List ℕ). elem x (elem q.pinned j)) (sym (choice_none q.n q.table q.costs q.width (moved q) (first_choice q)))
      ∙ pin_set q.n q.pinned q.stores q.present pins once j l
  kept (suc k) j l =
      stay k (elem q.pinned j) (pin_there j l) (ap (λ (t : Bool). cond t false (named (block_of q.sizes q.wagons k) (elem q.pinned j))) (pin_named j l)) ∙ kept k j l

  pub clearing : Cleared q
  clearing = record {
    pins_set = pin_set q.n q.pinned q.stores q.present pins once;
    others_present = present_kept q.n q.pinned q.stores q.present pins;
    begins = sym (choice_none q.n q.table q.costs q.width (moved q) (first_choice q));
    in_turn = λ k l. sym (next k);
    falls_are = λ k l. falls k;
    falls_up = λ k l. rw (← (fall k)) (fall_up q.n (moved q k) (choice_after q k) (low k) hall q.width some);
    others_stay = λ k i l a e. stay k i a (grind arith);
    keeps = kept;
    keeps_last = λ j l. stays q.n (house_moves q) (choice_after q end) (low end) hall q.width some (elem q.pinned j) (pin_there j l)
        (ap (λ (t : Bool). cond t false true) (pin_named j l)) ∙ kept end j l;
    house_falls = omega (
      arith,
      ints,
      fall_is q.n (house_moves q) (choice_after q end) (low end) hall q.width some,
      fall_up q.n (house_moves q) (choice_after q end) (low end) hall q.width some,
    );
    one_wagon = λ b' d e. one_better q.n (house_moves q) (choice_after q end) (low end) hall q.width some b' d (ap (λ (t : Bool). cond t false true) e);
    all_wagons = λ b' d. all_better q.n (house_moves q) (choice_after q end) (low end) hall q.width some b'
        (λ i l e. d.differ i l (grind arith)) (λ i l e. d.stay i l (grind arith));
    as_before = apart_same q;
    long = long_after q.n (house_moves q) (choice_after q end) (low end) hall q.width some;
    bytes = (low_after q.n (house_moves q) (choice_after q end) (low end) hall q.width some).low;
  }
