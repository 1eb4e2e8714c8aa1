-- Where rows start: the first entry whose row is at least i. Nothing here asks that the rows rise.
--     start_le      it is at most the number of entries
--     start_most    it is at most any entry whose row is at least i
--     start_more    it is past any entry that it has reached and whose row is below i
--     start_found   the first of those from an entry on, where it is not before that entry, whose row is at least i
--     start_rise    it rises with i
--     start_below   the entries before it lie in rows below i
--     row_entries   the entries from row i's start up to the next row's are row i's, where rows rise
-- Assumes nothing.
use mathlib.Core.Path.{◌≡◌, refl, ◌∙◌}
use mathlib.Core.Bool.{Bool, true, false}
use mathlib.Core.List.{List, [], ◌∷◌}
use Prim.Native.Nat.{ℕ, zero, suc, ◌+◌, ◌-◌, ◌≤◌, ◌<◌, zero-le, suc-le-suc}
use native.Mathlib.Omega.{arith}
use borrow.Author.Tests.{ltb-true, lt-ltb, le-ltb}
use lib.Dec.{ltb}
use mathlib.Core.Logic.{⊎_elim}
use lib.ListN.{length, get_or, take, drop, length-drop}
use lib.Seq.{get_or-take, get_or-drop, length-take-le}
use Rattle.std.proofs.lemmas.Bool.{cases_lt}
use Rattle.prepared_table.specs.Work.{start_past, row_start}

past_le : (b : Bool) (n : ℕ) → start_past b n ≤ suc n
past_le true n = omega arith
past_le false n = omega arith

pub start_le : (rows : List ℕ) (i : ℕ) → row_start rows i ≤ length rows
unfolding row_start
start_le [] i = zero-le
start_le (r ∷ rows) i = omega (arith, past_le (ltb r i) (row_start rows i), start_le rows i)

pub start_most : (rows : List ℕ) (i e : ℕ) → e < length rows → i ≤ get_or rows e 0 → row_start rows i ≤ e
unfolding row_start
start_most [] i e h l = elim h [ ]
start_most (r ∷ rows) i zero h l = rw (le-ltb r i l) zero-le
start_most (r ∷ rows) i (suc e) h l =
    omega (arith, past_le (ltb r i) (row_start rows i), start_most rows i e (omega arith) l)

more_past : (b : Bool) (n e : ℕ) → suc e ≤ start_past b n → (e ≤ n → e + 1 ≤ n) → suc e + 1 ≤ start_past b n
more_past true n e h k = omega (arith, k (omega arith))
more_past false n e h k = omega arith

pub start_more : (rows : List ℕ) (i e : ℕ) → e < length rows → get_or rows e 0 < i → e ≤ row_start rows i → e + 1 ≤ row_start rows i
unfolding row_start
start_more [] i e h l k = elim h [ ]
start_more (r ∷ rows) i zero h l k = rw (lt-ltb r i l) (omega arith)
start_more (r ∷ rows) i (suc e) h l k =
    more_past (ltb r i) (row_start rows i) e k (start_more rows i e (omega arith) l)

-- looked for from an entry on that it is not before
module _ (rows : List ℕ) (i from : ℕ) (reached : from ≤ row_start rows i) where
  abbrev rest : List ℕ
  rest = take (length rows - from) (drop from rows)

  rest_length : length rest ≡ length rows - from
  rest_length = length-take-le (length rows - from) (drop from rows) (omega (arith, length-drop from rows))

  rest_at : (k : ℕ) → from + k < length rows → get_or rest k 0 ≡ get_or rows (from + k) 0
  rest_at k l = get_or-take (length rows - from) (drop from rows) k 0 (omega arith) ∙ get_or-drop from rows k 0

  start_passed : (k : ℕ) → from + k ≤ length rows → ((e : ℕ) → e < k → get_or rest e 0 < i) → from + k ≤ row_start rows i
  start_passed zero l below = omega (arith, reached)
  start_passed (suc k) l below =
      omega (arith, start_more rows i (from + k) (omega arith) (omega (arith, rest_at k (omega arith), below k (omega arith))) (start_passed k (omega arith) (λ e h. below e (omega arith))))

  pub start_found : (k : ℕ) → k < length rest → i ≤ get_or rest k 0 → ((e : ℕ) → e < k → get_or rest e 0 < i) → from + k ≡ row_start rows i
  start_found k l here below =
      let b : from + k < length rows = omega (arith, l, rest_length) in
      omega (arith, start_passed k (omega arith) below, start_most rows i (from + k) b (omega (arith, rest_at k b, here)))

  pub start_behind : ((e : ℕ) → e < length rest → get_or rest e 0 < i) → length rows ≡ row_start rows i
  start_behind below =
      omega (arith, start_le rows i, start_passed (length rows - from) (omega (arith, start_le rows i, reached)) (λ e h. below e (omega (arith, h, rest_length))), reached)

past_rise : (a b : Bool) (n m : ℕ) → (a ≡ true → b ≡ true) → n ≤ m → start_past a n ≤ start_past b m
past_rise true true n m k h = suc-le-suc h
past_rise true false n m k h = cc (k refl)
past_rise false b n m k h = zero-le

pub start_rise : (rows : List ℕ) (i : ℕ) → row_start rows i ≤ row_start rows (i + 1)
unfolding row_start
start_rise [] i = zero-le
start_rise (r ∷ rows) i =
    past_rise (ltb r i) (ltb r (i + 1)) (row_start rows i) (row_start rows (i + 1))
    (λ e. let h : r < i = ltb-true r i e in lt-ltb r (i + 1) (omega arith))
    (start_rise rows i)

-- an entry before the start of row i lies in a row below i
pub start_below : (rows : List ℕ) (i e : ℕ) → e < row_start rows i → get_or rows e 0 < i
unfolding row_start
start_below [] i e h = omega arith
start_below (r ∷ rows) i e h = before (ltb r i) refl (λ k. start_below rows i k) e h
  where
    before : (b : Bool) → ltb r i ≡ b → ((k : ℕ) → k < row_start rows i → get_or rows k 0 < i)
        → (e : ℕ) → e < start_past b (row_start rows i) → get_or (r ∷ rows) e 0 < i
    before true k rest zero l = ltb-true r i k
    before true k rest (suc e) l = rest e (omega arith)
    before false k rest e l = omega arith

-- the entries of row i, of rows that rise: those from its start up to the next row's
pub row_entries : (rows : List ℕ) → ((a b : ℕ) → a ≤ b → b < length rows → get_or rows a 0 ≤ get_or rows b 0)
    → (i e : ℕ) → e < length rows → row_start rows i ≤ e → e < row_start rows (i + 1) → get_or rows e 0 ≡ i
row_entries rows rise i e h l k =
    let s : i ≤ get_or rows (row_start rows i) 0 =
    ⊎_elim (λ (n : get_or rows (row_start rows i) 0 < i). omega (arith, start_more rows i (row_start rows i) (omega arith) n (omega arith)))
    (λ (n : i ≤ get_or rows (row_start rows i) 0). n) (cases_lt (get_or rows (row_start rows i) 0) i) in
    omega (arith, start_below rows (i + 1) e k, rise (row_start rows i) e l h)
