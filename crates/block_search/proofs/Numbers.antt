-- What holds of the slices where 31 is not answered, and of a call where no number is. Assumes nothing.
use Prim.Native.Nat.{ℕ, ◌≤◌, ◌<◌}
use native.Mathlib.Omega.{arith}
use borrow.Author.Tests.{ltb-false, le-ltb}
use mathlib.Core.Bool.{Bool, true, false}
use mathlib.Core.List.{List, [], ◌∷◌}
use mathlib.Core.Path.{◌≡◌, refl, ◌∙◌}
use lib.IntN.{ℤ}
use lib.ListN.{length}
use Rattle.std.specs.Prelude.{Result, Ok, Err}
use Rattle.std.specs.Result.{is_err}
use Rattle.refusal.specs.Number.{numbered}
use Rattle.refusal.specs.declared.Refusal.{Refusal}
use Rattle.refusal.proofs.Passed.{some_number}
use Rattle.laws.specs.Sum.{total}
use Rattle.laws.specs.Lists.{elem}
use Rattle.laws.specs.Refusal.{◌if◌, any_of}
use Rattle.laws.proofs.Any.{any_head, any_rest, below_false}
use Rattle.laws.proofs.Refusal.{first_head, first_rest, clear}
use Rattle.limits.specs.Limits.{most_wagons, most_entries, most_magnitude, most_size, most_width, most_blocks, search_workspace}
use Rattle.tables.specs.Table.{Lent}
use Rattle.tables.specs.CostTable.{CostTable, quadratic, linear}
use Rattle.tables.specs.Check.{Hall}
use Rattle.tables.proofs.Checks.{long_enough, table_lent, hall_accepted}
use Rattle.reduced.specs.Indices.{outside, twice, index_refused, Within, Once}
use Rattle.reduced.proofs.Distinct.{outside_within, twice_once}
use Rattle.block_search.specs.Numbers.{above_one, bad_list, bad_pins, bad_blocks, bad_width, list_number, choices_short, blocks_short, lists_short, call_short, block_number}
use Rattle.block_search.specs.Clauses.{PinsFit, ClearFits}

-- ---- a list of wagons is refused as a map of the reduced pair is

same_bad : (n : ℕ) (list : List ℕ) → n ≤ most_wagons → index_refused most_size n list list ≡ bad_list n list
unfolding index_refused bad_list any_of
same_bad n list h = rw (le-ltb most_size n (omega arith)) (go (outside n list) (twice list))
  where
    go : (a b : Bool) → any_of (a ∷ b ∷ a ∷ []) ≡ any_of (a ∷ b ∷ [])
    go true b = refl
    go false true = refl
    go false false = refl

pub list_judged : (n : ℕ) (list : List ℕ) → n ≤ most_wagons → {A : Type 0} (r : Result A Refusal) → numbered r ≡ 20 if index_refused most_size n list list → is_err r ≡ bad_list n list
list_judged n list h r e = judged (index_refused most_size n list list) r e ∙ same_bad n list h
  where
    judged : (t : Bool) {A : Type 0} (r : Result A Refusal) → numbered r ≡ 20 if t → is_err r ≡ t
    judged true (Ok x) e = absurd (omega arith)
    judged true (Err x) e = refl
    judged false (Ok x) e = refl
    judged false (Err x) e = absurd (some_number x e)

-- ---- the slices are long enough for what is in range

pub record LongCall (n count : ℕ) (rows cols : List ℕ) (values c : List ℤ) (pinned stores present sizes wagons : List ℕ) (choice falls workspace : ℕ) : Type 0 where
  pub table_long : count ≤ most_entries → Lent count rows cols values
  pub costs_long : n ≤ most_wagons → n ≤ length c
  pub present_long : n ≤ most_wagons → n ≤ length present
  pub choice_long : n ≤ most_wagons → n ≤ choice
  pub stores_long : length pinned ≤ length stores
  pub wagons_long : length sizes ≤ most_blocks → total (length sizes) (elem sizes) ≤ length wagons
  pub falls_long : length sizes ≤ most_blocks → length sizes ≤ falls
  pub workspace_long : search_workspace ≤ workspace

pub slices_long : {n count : ℕ} {rows cols : List ℕ} {values c : List ℤ} {pinned stores present sizes wagons : List ℕ} {choice falls workspace : ℕ}
    → call_short n count rows cols values c pinned stores present sizes wagons choice falls workspace ≡ false
    → LongCall n count rows cols values c pinned stores present sizes wagons choice falls workspace
unfolding call_short choices_short lists_short blocks_short
slices_long {n} {sizes = sizes} e =
    let e₁ = any_rest _ _ e in
    let e₂ = any_rest _ _ e₁ in
    let e₃ = any_rest _ _ e₂ in
    let cs = any_head _ _ e₁ in
    let ls = any_head _ _ e₂ in
    let bs = any_head _ _ (any_rest _ _ ls) in
    record {
      table_long = λ h. table_lent (any_head _ _ e) h;
      costs_long = λ h. long_enough (any_head _ _ cs) (le-ltb most_wagons n h);
      present_long = λ h. long_enough (any_head _ _ (any_rest _ _ cs)) (le-ltb most_wagons n h);
      choice_long = λ h. long_enough (any_head _ _ (any_rest _ _ (any_rest _ _ cs))) (le-ltb most_wagons n h);
      stores_long = long_enough (any_head _ _ ls) refl;
      wagons_long = λ h. long_enough (any_head _ _ bs) (le-ltb most_blocks (length sizes) h);
      falls_long = λ h. long_enough (any_head _ _ (any_rest _ _ bs)) (le-ltb most_blocks (length sizes) h);
      workspace_long = long_enough (any_head _ _ e₃) refl;
    }

-- ---- a width that isn't refused is in range

pub width_some : (width : ℕ) → bad_width width ≡ false → 1 ≤ width
unfolding bad_width
width_some width e = ltb-false width 1 (any_head _ _ e)

pub width_few : (width : ℕ) → bad_width width ≡ false → width ≤ most_width
unfolding bad_width
width_few width e = ltb-false most_width width (any_head _ _ (any_rest _ _ e))

-- ---- where no number applies

pub record Ready (t : CostTable) (pinned stores present sizes wagons : List ℕ) (width choice falls workspace : ℕ) : Type 0 where
  pub lent : Lent t.count t.rows t.cols t.values
  pub costs_there : t.n ≤ length t.c
  pub hall : Hall most_wagons most_entries most_magnitude t.n (quadratic t) (linear t)
  pub width_some : 1 ≤ width
  pub pins : PinsFit t.n pinned stores present
  pub pins_once : Once pinned
  pub choice_there : t.n ≤ choice
  pub space_there : search_workspace ≤ workspace
  pub fits : (b : List ℕ) (space : ℕ) → length b ≡ t.n → search_workspace ≤ space → ClearFits t.n width pinned stores present sizes wagons b falls space

module _ (t : CostTable) (pinned stores present sizes wagons : List ℕ) (width choice falls workspace : ℕ)
    (e : block_number t.n t.count t.rows t.cols t.values t.c pinned stores present sizes wagons width choice falls workspace ≡ 0) where
  not_short : call_short t.n t.count t.rows t.cols t.values t.c pinned stores present sizes wagons choice falls workspace ≡ false
  unfolding block_number
  not_short = clear _ 30 (first_head _ _ e)

  pub hall_good : Hall most_wagons most_entries most_magnitude t.n (quadratic t) (linear t)
  unfolding block_number
  hall_good = hall_accepted (first_head _ _ (first_rest _ _ e))

  lists_good : list_number t.n pinned stores present sizes wagons width ≡ 0
  unfolding block_number
  lists_good = first_head _ _ (first_rest _ _ (first_rest _ _ e))

  pins_good : bad_pins t.n pinned stores ≡ false
  unfolding list_number
  pins_good = clear _ 20 (first_head _ _ lists_good)

  blocks_good : bad_blocks t.n present sizes wagons ≡ false
  unfolding list_number
  blocks_good = clear _ 21 (first_head _ _ (first_rest _ _ lists_good))

  width_good : bad_width width ≡ false
  unfolding list_number
  width_good = clear _ 18 (first_head _ _ (first_rest _ _ (first_rest _ _ lists_good)))

  pinned_within : Within t.n pinned
  unfolding bad_pins bad_list
  pinned_within = outside_within t.n pinned (any_head _ _ (any_head _ _ pins_good))

  pub pinned_once : Once pinned
  unfolding bad_pins bad_list
  pinned_once = twice_once pinned (any_head _ _ (any_rest _ _ (any_head _ _ pins_good)))

  stores_low : (k : ℕ) → k < length pinned → elem stores k ≤ 1
  unfolding bad_pins above_one
  stores_low k h = ltb-false 1 (elem stores k) (below_false _ (length pinned) (any_head _ _ (any_rest _ _ pins_good)) k h)

  present_low : (i : ℕ) → i < t.n → elem present i ≤ 1
  unfolding bad_blocks above_one
  present_low i h = ltb-false 1 (elem present i) (below_false _ t.n (any_head _ _ blocks_good) i h)

  few_blocks : length sizes ≤ most_blocks
  unfolding bad_blocks
  few_blocks = ltb-false most_blocks (length sizes) (any_head _ _ (any_rest _ _ blocks_good))

  pub pins_fit : PinsFit t.n pinned stores present
  pins_fit = let l = slices_long not_short in record {
    wagons_there = pinned_within;
    stores_there = l.stores_long;
    present_there = l.present_long hall_good.wagons;
    stores_low = stores_low;
    present_low = present_low;
  }

  -- what the call asks of the search, and what it lends to it: the choice is cut to n bytes, the workspace to what is asked
  pub ready : Ready t pinned stores present sizes wagons width choice falls workspace
  ready = let l = slices_long not_short in record {
    lent = l.table_long hall_good.entries;
    costs_there = l.costs_long hall_good.wagons;
    hall = hall_good;
    width_some = width_some width width_good;
    pins = pins_fit;
    pins_once = pinned_once;
    choice_there = l.choice_long hall_good.wagons;
    space_there = l.workspace_long;
    fits =
        λ b space m s. record {
          width_some = width_some width width_good;
          width_few = width_few width width_good;
          pins = pins_fit;
          wagons_there = l.wagons_long few_blocks;
          blocks_few = few_blocks;
          falls_room = l.falls_long few_blocks;
          choice_many = m;
          space_room = s;
        };
  }
