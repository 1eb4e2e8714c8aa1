-- What holds of the slices where 31 is not answered, and of the table where no number is. Assumes nothing.
use Prim.Native.Nat.{ℕ, ◌≤◌}
use borrow.Author.Tests.{ltb-false, le-ltb}
use mathlib.Core.Bool.{Bool, false}
use mathlib.Core.List.{List}
use mathlib.Core.Path.{◌≡◌, refl}
use lib.IntN.{ℤ}
use lib.ListN.{length}
use Rattle.laws.proofs.Any.{any_head, any_rest}
use Rattle.laws.proofs.Refusal.{first_head, first_rest, clear}
use Rattle.tables.specs.Table.{Table, table_of, Lent}
use Rattle.tables.specs.Check.{Accepted}
use Rattle.tables.proofs.Checks.{long_enough, table_lent, table_accepted}
use Rattle.limits.specs.Limits.{most_signs, most_sign_entries, most_width, search_workspace}
use Rattle.sign_search.specs.Clauses.{Sound}
use Rattle.sign_search.proofs.Theorems.{accepted_mirrors}
use Rattle.sign_search.proofs.TurnLaws.{rising_climbs}
use Rattle.sdp_local_search.specs.BeamSearch.{Limits, base_limits, search_short, search_refusal}

-- the slices are long enough for what is in range
pub record Long (most : Limits) (m count : ℕ) (rows cols : List ℕ) (values : List ℤ) (start out workspace : ℕ) : Type 0 where
  pub table_long : count ≤ most.entries → Lent count rows cols values
  pub start_long : m ≤ most.signs → m ≤ start
  pub out_long : m ≤ most.signs → m ≤ out
  pub workspace_long : most.workspace ≤ workspace

pub slices_long : {most : Limits} {m count : ℕ} {rows cols : List ℕ} {values : List ℤ} {start out workspace : ℕ}
    → search_short most m count (length rows) (length cols) (length values) start out workspace ≡ false
    → Long most m count rows cols values start out workspace
unfolding search_short
slices_long {most = most} {m = m} e =
    let e₁ = any_rest _ _ e in
    let e₂ = any_rest _ _ e₁ in
    let e₃ = any_rest _ _ e₂ in
    record {
      table_long = λ h. table_lent (any_head _ _ e) h;
      start_long = λ h. long_enough (any_head _ _ e₁) (le-ltb most.signs m h);
      out_long = λ h. long_enough (any_head _ _ e₂) (le-ltb most.signs m h);
      workspace_long = long_enough (any_head _ _ e₃) refl;
    }

pub search_lent : (m : ℕ) {count : ℕ} {rows cols : List ℕ} {values : List ℤ} (start out workspace : ℕ)
    → search_short base_limits m count (length rows) (length cols) (length values) start out workspace ≡ false → count ≤ most_sign_entries → Lent count rows cols values
search_lent m start out workspace e h = (slices_long e).table_long h

-- where no number applies
module _ (most : Limits) (m width : ℕ) (too_short : Bool) (t : Table) (e : search_refusal most m width too_short t ≡ 0) where
  pub not_short : too_short ≡ false
  unfolding search_refusal
  not_short = clear too_short 30 (first_head _ _ e)

  pub accepted_table : Accepted most.signs most.entries most.magnitude m t
  unfolding search_refusal
  accepted_table = table_accepted (first_head _ _ (first_rest _ _ e))

  pub narrow : width ≤ most.width
  unfolding search_refusal
  narrow = ltb-false most.width width (clear _ 18 (first_head _ _ (first_rest _ _ (first_rest _ _ e))))

-- what the search then asks, of a call with slices of these lengths
pub record Ready (m count : ℕ) (rows cols : List ℕ) (values : List ℤ) (width start out workspace : ℕ) : Type 0 where
  pub lent : Lent count rows cols values
  pub sound : Sound m (table_of count rows cols values)
  pub signs_few : m ≤ most_signs
  pub width_few : width ≤ most_width
  pub start_there : m ≤ start
  pub out_there : m ≤ out
  pub workspace_there : search_workspace ≤ workspace

pub call_ready : {m count : ℕ} {rows cols : List ℕ} {values : List ℤ} {width start out workspace : ℕ}
    → search_refusal base_limits m width (search_short base_limits m count (length rows) (length cols) (length values) start out workspace) (table_of count rows cols values) ≡ 0
    → Ready m count rows cols values width start out workspace
call_ready {m} {count} {rows} {cols} {values} {width} {start} {out} {workspace} e =
    let t = table_of count rows cols values in
    let too_short = search_short base_limits m count (length rows) (length cols) (length values) start out workspace in
    let ok = accepted_table base_limits m width too_short t e in
    let long : Long base_limits m count rows cols values start out workspace = slices_long (not_short base_limits m width too_short t e) in
    record {
      lent = long.table_long ok.entries;
      sound = record { mirrors = accepted_mirrors ok; climbs = rising_climbs t ok.rising; small = ok.magnitude };
      signs_few = ok.signs;
      width_few = narrow base_limits m width too_short t e;
      start_there = long.start_long ok.signs;
      out_there = long.out_long ok.signs;
      workspace_there = long.workspace_long;
    }
