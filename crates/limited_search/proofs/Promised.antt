-- What a caller is promised, drawn from the call's contract alone: of a refusal, of the workspace, and of the choice that an accepted call leaves. Assumes
-- nothing.
use Prim.Native.Nat.{ℕ, ◌≤◌, ◌<◌}
use mathlib.Core.List.{List}
use mathlib.Core.Path.{◌≡◌, sym, subst, ◌∙◌}
use lib.IntN.{ℤ}
use lib.Signed.{◌≤ℤ◌}
use lib.ListN.{drop}
use Rattle.laws.specs.Lists.{elem, elem_z}
use Rattle.limits.specs.Limits.{search_workspace}
use Rattle.tables.specs.Table.{Table, table_of}
use Rattle.finalize.specs.Finalize.{cost_of}
use Rattle.finalize.specs.Demand3.{DifferInOne}
use Rattle.limited_search.specs.Near.{wagons_moved}
use Rattle.limited_search.specs.Call.{LimitedSearches, number_of}
use Rattle.std.specs.Prelude.{Result}

module _ {n count : ℕ} {rows cols : List ℕ} {values c : List ℤ} {p : List ℕ} {k width : ℕ} {choice workspace choice' workspace' : List ℕ} {r : Result (ℤ × ℕ) ℕ}
    (s : LimitedSearches n count rows cols values c p k width choice workspace choice' workspace' r) where
  abbrev pub h : Table
  h = table_of count rows cols values

  -- any other number than 0 leaves both slices as they were
  pub refused_leaves : (number_of r ≡ 0 → ⊥) → (choice' ≡ choice) × (workspace' ≡ workspace)
  refused_leaves d = s.refused (λ e. d (s.numbered ∙ e))

  -- whatever is answered, the workspace past what the call asks stays
  pub tail_stays : drop search_workspace workspace' ≡ drop search_workspace workspace
  tail_stays = s.kept

  -- where 0 is answered: "the result lies within k"
  pub lies_within : number_of r ≡ 0 → wagons_moved n choice' p ≤ k
  lies_within e = (s.near (sym s.numbered ∙ e)).within_k

  -- "costs no more than p"
  pub costs_no_more : number_of r ≡ 0 → cost_of n h (elem_z c) choice' ≤ℤ cost_of n h (elem_z c) p
  costs_no_more e = let t = s.near (sym s.numbered ∙ e) in subst (λ (z : ℤ). z ≤ℤ cost_of n h (elem_z c) p) t.cost_is t.no_dearer

  -- "and no choice that lies within k and differs from it in one wagon costs less"
  pub none_betters : number_of r ≡ 0 → (b' : List ℕ) → DifferInOne n choice' b' → wagons_moved n b' p ≤ k → cost_of n h (elem_z c) choice' ≤ℤ cost_of n h (elem_z c) b'
  none_betters e b' d l = let t = s.near (sym s.numbered ∙ e) in subst (λ (z : ℤ). z ≤ℤ cost_of n h (elem_z c) b') t.cost_is (t.one_wagon b' d l)

  -- "With k = 0 it is p"
  pub stays_put : number_of r ≡ 0 → k ≡ 0 → (i : ℕ) → i < n → elem choice' i ≡ elem p i
  stays_put e z i q = (s.near (sym s.numbered ∙ e)).none_moved z i q
