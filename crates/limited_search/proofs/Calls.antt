-- The call's contract where no number applies. Assumes nothing.
use Prim.Native.Nat.{ℕ, ◌-◌}
use mathlib.Core.List.{List, ◌++◌}
use mathlib.Core.Path.{◌≡◌, sym, ap₂, subst, ◌∙◌}
use lib.IntN.{ℤ}
use lib.ListN.{length, drop}
use mir.Syntax.{w64}
use mir.Val.{to_z, of_z}
use Rattle.laws.specs.Lists.{over}
use Rattle.laws.proofs.Made.{tabulate_all}
use Rattle.limits.specs.Limits.{most_wagons, most_entries, most_magnitude, search_workspace}
use Rattle.tables.specs.Table.{Table}
use Rattle.tables.specs.CostTable.{CostTable, quadratic, linear}
use Rattle.tables.specs.Check.{Hall}
use Rattle.tables.specs.Cost.{decoded_byte}
use Rattle.sign_table.specs.SignTable.{sign_table}
use Rattle.sign_table.proofs.Theorems.{hall_sign_table}
use Rattle.sign_search.specs.Search.{objective_in}
use Rattle.sdp_local_search.proofs.Calls.{written, tail_kept}
use Rattle.finalize.specs.Finalize.{choice_of}
use Rattle.finalize.proofs.Assembled.{objective_held}
use Rattle.limited_search.specs.Numbers.{limited_number}
use Rattle.limited_search.specs.Search.{limited_found, Leaves}
use Rattle.limited_search.specs.Near.{Near}
use Rattle.limited_search.specs.Call.{LimitedSearches}
use Rattle.std.specs.Prelude.{Ok}
use Rattle.block_search.proofs.Numbers.{width_some}
use Rattle.limited_search.proofs.Numbers.{hall_good, present_low, width_good}
use Rattle.limited_search.proofs.Nearness.{near_found}

choice_whole : (n : ℕ) (signs xs : List ℕ) → length xs ≡ n → over (choice_of n signs) xs ≡ choice_of n signs
unfolding choice_of
choice_whole n signs xs long = tabulate_all (decoded_byte n signs) n xs long

module _ (q : CostTable) (present : List ℕ) (k width : ℕ) (choice workspace : List ℕ)
    (none : limited_number q.n q.count q.rows q.cols q.values q.c present k width (length choice) (length workspace) ≡ 0) where
  abbrev t : Table
  t = sign_table q.n (quadratic q) (linear q)

  abbrev answer : List ℕ
  answer = (limited_found t q.n present k width).answer

  hall : Hall most_wagons most_entries most_magnitude q.n (quadratic q) (linear q)
  hall = hall_good q present k width (length choice) (length workspace) none

  -- the choice found goes to the front of `choice`, its figures are answered
  pub searches : (part part' used : List ℕ) (least : ℤ) (rounds : ℕ) → length part ≡ q.n → length part' ≡ q.n → length used ≡ search_workspace
      → Leaves t q.n present k width part part' least rounds
      → LimitedSearches q.n q.count q.rows q.cols q.values q.c present k width choice workspace (part' ++ drop (q.n - 0) choice) (used ++ drop (search_workspace - 0) workspace)
      (Ok (to_z w64 (of_z w64 least), rounds))
  searches part part' used least rounds whole long fills l =
      let is : part' ≡ choice_of q.n answer = l.choice_is ∙ choice_whole q.n answer part whole in
      let wrote : part' ++ drop (q.n - 0) choice ≡ over (choice_of q.n answer) choice = written q.n part' (choice_of q.n answer) choice long is in
      record {
        numbered = sym none;
        refused = λ q. absurd (q none);
        answers = λ e. ap₂ (λ (x : ℤ) (y : ℕ). Ok (x, y)) (objective_held (hall_sign_table hall) answer l.least_is ∙ l.least_is) l.rounds_are;
        writes = λ e. wrote;
        kept = tail_kept search_workspace used workspace fills;
        near =
            λ e. subst (λ (b : List ℕ). Near q.n (quadratic q) (linear q) present k b (objective_in t answer) (limited_found t q.n present k width).rounds) (sym wrote)
            (near_found hall present (present_low q present k width (length choice) (length workspace) none) k width
            (width_some width (width_good q present k width (length choice) (length workspace) none)) choice);
      }
