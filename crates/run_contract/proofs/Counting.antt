-- The total of a run is the number of pairs of sweep and row, under rules 3 and 4, whose norm isn't ≥ 1E-24 (02, Note 2).
--     standing_pairs    of every list of calls from an open: the total equals the number of pairs
--     pair_is           which pairs these are
--     pairs_once        none is counted twice
--     log_numbered      the sweeps are numbered 1, 2, 3, .. up to the sweeps done (`log_length`)
--     standing_kept     the total never is above m times the sweeps done, so no record of a run is 33 by that
--     seen_standing     the same of the port: at every position of every list of calls, refused ones included
-- By induction on sweeps and calls. Assumes nothing.
use Prim.Native.Nat.{ℕ, zero, suc, ◌+◌, ◌*◌, ◌≤◌, ◌<◌}
use mathlib.Core.Path.{◌≡◌, refl, sym, ap, ◌∙◌, subst}
use mathlib.Core.Bool.{Bool, true, false, not, cond}
use mathlib.Core.List.{List, [], ◌∷◌, ◌++◌}
use mathlib.Core.Logic.{◌⊎◌, inl, inr}
use mathlib.Core.Option.{Option, some, none}
use native.Mathlib.Numerals.{add-one}
use native.Mathlib.Omega.{arith}
use borrow.Author.Tests.{not-true}
use lib.Ieee.{Float, le}
use lib.ListN.{length, get_or, take, length-append}
use Rattle.std.specs.Prelude.{Ok}
use Rattle.laws.specs.Lists.{only_if, kept}
use Rattle.std.proofs.lemmas.Bool.{cases_lt}
use Rattle.ieee.specs.Floats.{tiny, zero64}
use Rattle.coordinate_sweep.specs.Sweep.{standing_to}
use Rattle.step_rules.specs.declared.StepRule.{StepRule}
use Rattle.step_rules.specs.declared.StepRule.TheVariants.{Grad, GradAdv, Coord, CoordNoStep, CoordMomentum}
use Rattle.step_rules.specs.Rule.{standing_in}
use Rattle.step_rules.proofs.Standing.{standing_in_few}
use Rattle.run_record.specs.declared.Run.{Run}
use Rattle.run_sweep.specs.Work.{Work}
use Rattle.run_sweep.specs.Sweep.{State, advanced, run_after}
use Rattle.run_sweep.proofs.Loop.{one_more}
use Rattle.run_contract.specs.Calls.{Settings, Opens, used, finish_result}
use Rattle.run_contract.specs.Schedule.{coordinate_momentum}
use Rattle.run_contract.specs.PlainRun.{Plain, Call, plain_open, with_rule, rows_left, record_of, plain_after, FinishCall, finish_of, Seen, plain_seen, plain_trace}
use Rattle.run_contract.specs.Chain.{Chain}
use Rattle.run_contract.specs.Log.{Made, made_from, log, plain_end, Pair, pair, norm_in, is_left, stood_by, stood_in, pairs, Among, Once, Numbered, Coordinate, rule_3, rule_4, Stood}
use Rattle.run_contract.proofs.Follows.{state_of, turned, turns}
use Rattle.run_contract.proofs.OnLists.{plain_run}
use Rattle.run_contract.proofs.EachSweep.{of_list}

-- ---- one sweep: its pairs are as many as the rows that it leaves

pub length_only : {A : Type 0} (b : Bool) (x : A) → length (only_if (not b) x) ≡ cond b 0 1
length_only true x = refl
length_only false x = refl

left_count : (s : Made) (beta : Float) (f : ℕ → Pair) (n : ℕ)
    → length (kept (is_left s beta) f n) ≡ standing_to s.work.cols s.work.values s.work.starts s.rank beta s.factor n
unfolding kept standing_to
left_count s beta f zero = refl
left_count s beta f (suc n) = rw (length-append, left_count s beta f n, length_only (le tiny (norm_in s beta n)) (f n)) refl

stood_count : (rule : StepRule) (s : Made)
    → length (stood_by (coordinate_momentum rule) s) ≡ standing_in rule s.work.cols s.work.values s.work.starts s.size s.rank s.factor
unfolding standing_in
stood_count (Grad alpha) s = refl
stood_count (GradAdv alpha) s = refl
stood_count (Coord alpha) s = refl
stood_count CoordNoStep s = left_count s zero64 (pair s.number) s.size
stood_count (CoordMomentum beta) s = left_count s beta (pair s.number) s.size

sweep_count : (w : Work) (p : Plain) → length (stood_in (made_from w p)) ≡ rows_left w p
unfolding rows_left
sweep_count w p = stood_count p.rule (made_from w p)

left_few : (w : Work) (p : Plain) → rows_left w p ≤ p.size
unfolding rows_left
left_few w p = standing_in_few p.rule w.cols w.values w.starts p.size p.rank p.factor

-- what one sweep with its check does to sweeps done, size and total
turned_sweeps : (w : Work) (p : Plain) → (turned w p).sweeps ≡ p.sweeps + 1
unfolding state_of record_of run_after advanced
turned_sweeps w p = ap (λ (s : State). s.run.sweeps) (turns w p)

pub turned_size : (w : Work) (p : Plain) → (turned w p).size ≡ p.size
unfolding state_of record_of run_after advanced
turned_size w p = ap (λ (s : State). s.run.size) (turns w p)

turned_standing : (w : Work) (p : Plain) → (turned w p).standing ≡ p.standing + rows_left w p
unfolding state_of record_of run_after advanced
turned_standing w p = ap (λ (s : State). s.run.standing) (turns w p)

-- ---- lists

pairs_append : (xs ys : List Made) → length (pairs (xs ++ ys)) ≡ length (pairs xs) + length (pairs ys)
unfolding pairs
pairs_append [] ys = let e : length (pairs ys) ≡ 0 + length (pairs ys) = omega arith in e
pairs_append (s ∷ xs) ys =
    length-append (stood_in s) (pairs (xs ++ ys)) ∙ rw (pairs_append xs ys, length-append (stood_in s) (pairs xs)) (omega arith)

pairs_none : length (pairs []) ≡ 0
unfolding pairs
pairs_none = refl

pairs_more : (s : Made) (sweeps : List Made) → length (pairs (s ∷ sweeps)) ≡ length (stood_in s) + length (pairs sweeps)
unfolding pairs
pairs_more s sweeps = length-append (stood_in s) (pairs sweeps)

-- ---- one state to another by some sweeps: the total rises by the pairs, the sweeps done by the sweeps, and the size stays

record Grown (p q : Plain) (sweeps : List Made) : Type 0 where
  total_is : q.standing ≡ p.standing + length (pairs sweeps)
  sweeps_are : q.sweeps ≡ p.sweeps + length sweeps
  size_is : q.size ≡ p.size
  numbers_are : Numbered p.sweeps sweeps
  few_stay : p.standing ≤ p.size * p.sweeps → q.standing ≤ q.size * q.sweeps

grown_none : (p : Plain) → Grown p p []
grown_none p =
    record { total_is = let z = pairs_none in omega arith; sweeps_are = omega arith; size_is = refl; numbers_are = tt; few_stay = λ l. l }

numbered_append : (n k : ℕ) (xs ys : List Made) → Numbered n xs → k ≡ n + length xs → Numbered k ys → Numbered n (xs ++ ys)
numbered_append n k [] ys a e b = let z : k ≡ n = omega arith in subst (λ (m : ℕ). Numbered m ys) z b
numbered_append n k (s ∷ xs) ys a e b = (a.0, numbered_append (suc n) k xs ys a.1 (omega arith) b)

grown_join : (p q r : Plain) (xs ys : List Made) → Grown p q xs → Grown q r ys → Grown p r (xs ++ ys)
grown_join p q r xs ys a b =
    let n = pairs_append xs ys in
    let l = length-append xs ys in
    record {
      total_is = omega (arith, a.total_is, b.total_is, n);
      sweeps_are = omega (arith, a.sweeps_are, b.sweeps_are, l);
      size_is = b.size_is ∙ a.size_is;
      numbers_are = numbered_append p.sweeps q.sweeps xs ys a.numbers_are a.sweeps_are b.numbers_are;
      few_stay = λ l. b.few_stay (a.few_stay l);
    }

grown_one : (w : Work) (p : Plain) → Grown p (turned w p) (made_from w p ∷ [])
grown_one w p =
    let n = pairs_more (made_from w p) [] in
    let z = pairs_none in
    let c = sweep_count w p in
    record {
      total_is = omega (arith, turned_standing w p, n, z, c);
      sweeps_are = omega (arith, turned_sweeps w p);
      size_is = turned_size w p;
      numbers_are = (add-one p.sweeps, tt);
      few_stay = λ l. rw (turned_standing w p, turned_size w p, turned_sweeps w p) (one_more p.standing p.size p.sweeps (rows_left w p) l (left_few w p));
    }

grown_rule : (p : Plain) (rule : StepRule) → Grown p (with_rule p rule) []
unfolding with_rule
grown_rule p rule =
    let g = grown_none p in
    record { total_is = g.total_is; sweeps_are = g.sweeps_are; size_is = refl; numbers_are = tt; few_stay = λ l. l }

grown_list : (p : Plain) (calls : List Call) → Grown p (plain_end p calls) (log p calls)
grown_list = of_list Grown grown_none grown_join grown_one grown_rule

-- ---- from an open

open_none : (o : Settings) → ((plain_open o).standing ≡ 0) × ((plain_open o).sweeps ≡ 0)
unfolding plain_open
open_none o = (refl, refl)

pub standing_pairs : (o : Settings) (calls : List Call) → (plain_end (plain_open o) calls).standing ≡ length (pairs (log (plain_open o) calls))
standing_pairs o calls = omega (arith, (grown_list (plain_open o) calls).total_is, (open_none o).0)

pub log_length : (o : Settings) (calls : List Call) → (plain_end (plain_open o) calls).sweeps ≡ length (log (plain_open o) calls)
log_length o calls = omega (arith, (grown_list (plain_open o) calls).sweeps_are, (open_none o).1)

pub log_numbered : (o : Settings) (calls : List Call) → Numbered 0 (log (plain_open o) calls)
log_numbered o calls = subst (λ (n : ℕ). Numbered n (log (plain_open o) calls)) (open_none o).1 (grown_list (plain_open o) calls).numbers_are

pub standing_kept : (o : Settings) (calls : List Call) → (plain_end (plain_open o) calls).standing ≤ (plain_end (plain_open o) calls).size * (plain_end (plain_open o) calls).sweeps
standing_kept o calls = (grown_list (plain_open o) calls).few_stay (let z = (open_none o).0 in omega (arith, z))

-- ---- which pairs they are

among_left : {A : Type 0} (x : A) (xs ys : List A) → Among x xs → Among x (xs ++ ys)
among_left x [] ys a = absurd a
among_left x (y ∷ xs) ys (inl e) = inl e
among_left x (y ∷ xs) ys (inr a) = inr (among_left x xs ys a)

among_right : {A : Type 0} (x : A) (xs ys : List A) → Among x ys → Among x (xs ++ ys)
among_right x [] ys a = a
among_right x (y ∷ xs) ys a = inr (among_right x xs ys a)

pub among_split : {A : Type 0} (x : A) (xs ys : List A) → Among x (xs ++ ys) → Among x xs ⊎ Among x ys
among_split x [] ys a = inr a
among_split x (y ∷ xs) ys (inl e) = inl (inl e)
among_split x (y ∷ xs) ys (inr a) = by (among_split x xs ys a)
  where
    by : Among x xs ⊎ Among x ys → Among x (y ∷ xs) ⊎ Among x ys
    by (inl b) = inl (inr b)
    by (inr b) = inr b

-- of an element that is kept: its index, which is to be kept
module _ {A : Type 0} (keep : ℕ → Bool) (f : ℕ → A) (x : A) where
  only_at : (b : Bool) (y : A) → Among x (only_if b y) → (b ≡ true) × (x ≡ y)
  only_at true y (inl e) = (refl, e)
  only_at true y (inr a) = absurd a
  only_at false y a = absurd a

  kept_at : (n : ℕ) → Among x (kept keep f n) → (i : ℕ) × (i < n) × (keep i ≡ true) × (x ≡ f i)
  unfolding kept
  kept_at zero a = absurd a
  kept_at (suc n) a = by (kept_at n) (among_split x (kept keep f n) (only_if (keep n) (f n)) a)
    where
      by : (Among x (kept keep f n) → (i : ℕ) × (i < n) × (keep i ≡ true) × (x ≡ f i))
          → Among x (kept keep f n) ⊎ Among x (only_if (keep n) (f n)) → (i : ℕ) × (i < suc n) × (keep i ≡ true) × (x ≡ f i)
      by below (inl b) = let (i, l, k, e) = below b in (i, omega (arith, l), k, e)
      by below (inr b) = let (k, e) = only_at (keep n) (f n) b in (n, omega arith, k, e)

at_only : {A : Type 0} (b : Bool) (x : A) → b ≡ true → Among x (only_if b x)
at_only true x e = inl refl
at_only false x e = let no : ◌≡◌ {A = ℕ} 0 1 = cc in absurd (omega arith)

at_kept : {A : Type 0} (keep : ℕ → Bool) (f : ℕ → A) (n i : ℕ) → i < n → keep i ≡ true → Among (f i) (kept keep f n)
unfolding kept
at_kept keep f zero i l k = absurd (omega arith)
at_kept keep f (suc n) i l k = by (λ b. at_kept keep f n i b k) (cases_lt i n)
  where
    by : (i < n → Among (f i) (kept keep f n)) → (i < n) ⊎ (n ≤ i) → Among (f i) (kept keep f n ++ only_if (keep n) (f n))
    by below (inl b) = among_left (f i) (kept keep f n) (only_if (keep n) (f n)) (below b)
    by below (inr b) =
        let e : n ≡ i = omega arith in
        among_right (f i) (kept keep f n) (only_if (keep n) (f n)) (subst (λ (j : ℕ). Among (f i) (only_if (keep j) (f j))) (sym e) (at_only (keep i) (f i) k))

-- of one sweep
record StoodOne (rule : StepRule) (s : Made) (number row : ℕ) : Type 0 where
  beta : Float
  under : Coordinate rule beta
  numbered : s.number ≡ number
  row_there : row < s.size
  norm_small : le tiny (norm_in s beta row) ≡ false

stood_by_lem : (rule : StepRule) (beta : Float) (s : Made) (number row : ℕ) → Coordinate rule beta → Among (pair number row) (stood_by (some beta) s) → StoodOne rule s number row
stood_by_lem rule beta s number row c a =
    let (i, l, k, e) = kept_at (is_left s beta) (pair s.number) (pair number row) s.size a in
    let r : row ≡ i = ap (λ (q : Pair). q.row) e in
    record {
      beta = beta;
      under = c;
      numbered = sym (ap (λ (q : Pair). q.sweep_number) e);
      row_there = omega (arith, l, r);
      norm_small = subst (λ (j : ℕ). le tiny (norm_in s beta j) ≡ false) (sym r) (not-true (le tiny (norm_in s beta i)) k);
    }

stood_one : (rule : StepRule) (s : Made) (number row : ℕ) → Among (pair number row) (stood_by (coordinate_momentum rule) s) → StoodOne rule s number row
stood_one (Grad alpha) s number row a = absurd a
stood_one (GradAdv alpha) s number row a = absurd a
stood_one (Coord alpha) s number row a = absurd a
stood_one CoordNoStep s number row a = stood_by_lem CoordNoStep zero64 s number row rule_3 a
stood_one (CoordMomentum beta) s number row a = stood_by_lem (CoordMomentum beta) beta s number row (rule_4 beta) a

by_kept : (beta : Float) (s : Made) (row : ℕ) → row < s.size → le tiny (norm_in s beta row) ≡ false → Among (pair s.number row) (stood_by (some beta) s)
by_kept beta s row l small = at_kept (is_left s beta) (pair s.number) s.size row l (ap not small)

one_stood : (rule : StepRule) (s : Made) (row : ℕ) (beta : Float) → Coordinate rule beta → row < s.size → le tiny (norm_in s beta row) ≡ false
    → Among (pair s.number row) (stood_by (coordinate_momentum rule) s)
one_stood rule s row beta rule_3 l small = by_kept zero64 s row l small
one_stood rule s row beta (rule_4 b) l small = by_kept b s row l small

-- of a list of sweeps
pair_shows : (sweeps : List Made) (number row : ℕ) → Among (pair number row) (pairs sweeps) → Stood sweeps number row
unfolding pairs
pair_shows [] number row a = absurd a
pair_shows (s ∷ sweeps) number row a = by (pair_shows sweeps number row) (among_split (pair number row) (stood_in s) (pairs sweeps) a)
  where
    by : (Among (pair number row) (pairs sweeps) → Stood sweeps number row)
        → Among (pair number row) (stood_in s) ⊎ Among (pair number row) (pairs sweeps) → Stood (s ∷ sweeps) number row
    by rest (inl b) =
        let o = stood_one s.rule s number row b in
        record { one = s; among = inl refl; numbered = o.numbered; beta = o.beta; under = o.under; row_there = o.row_there; norm_small = o.norm_small }
    by rest (inr b) =
        let o = rest b in
        record { one = o.one; among = inr o.among; numbered = o.numbered; beta = o.beta; under = o.under; row_there = o.row_there; norm_small = o.norm_small }

pair_of : (sweeps : List Made) (s : Made) (row : ℕ) (beta : Float) → Among s sweeps → Coordinate s.rule beta → row < s.size → le tiny (norm_in s beta row) ≡ false
    → Among (pair s.number row) (pairs sweeps)
unfolding pairs
pair_of [] s row beta a c l small = absurd a
pair_of (t ∷ sweeps) s row beta (inl e) c l small =
    subst (λ (u : Made). Among (pair s.number row) (stood_in u ++ pairs sweeps)) e
    (among_left (pair s.number row) (stood_in s) (pairs sweeps) (one_stood s.rule s row beta c l small))
pair_of (t ∷ sweeps) s row beta (inr a) c l small = among_right (pair s.number row) (stood_in t) (pairs sweeps) (pair_of sweeps s row beta a c l small)

pair_shown : (sweeps : List Made) (number row : ℕ) → Stood sweeps number row → Among (pair number row) (pairs sweeps)
pair_shown sweeps number row o =
    subst (λ (n : ℕ). Among (pair n row) (pairs sweeps)) o.numbered
    (pair_of sweeps o.one row o.beta o.among o.under o.row_there o.norm_small)

-- any row of a sweep under rule 3 or 4 whose norm at its turn isn't ≥ 1E-24 is meant
pub stood_any : (sweeps : List Made) (s : Made) (row : ℕ) (beta : Float) → Among s sweeps → Coordinate s.rule beta → row < s.size → le tiny (norm_in s beta row) ≡ false
    → Stood sweeps s.number row
stood_any sweeps s row beta a c l small = record { one = s; among = a; numbered = refl; beta = beta; under = c; row_there = l; norm_small = small }

pub pair_is : (o : Settings) (calls : List Call) (number row : ℕ)
    → (Among (pair number row) (pairs (log (plain_open o) calls)) → Stood (log (plain_open o) calls) number row)
    × (Stood (log (plain_open o) calls) number row → Among (pair number row) (pairs (log (plain_open o) calls)))
pair_is o calls number row = (pair_shows (log (plain_open o) calls) number row, pair_shown (log (plain_open o) calls) number row)

-- ---- each once

once_append : {A : Type 0} (xs ys : List A) → Once xs → Once ys → ((x : A) → Among x xs → Among x ys → ⊥) → Once (xs ++ ys)
once_append [] ys a b apart = b
once_append {A = A} (x ∷ xs) ys a b apart = (first, once_append xs ys a.1 b (λ y m n. apart y (inr m) n))
  where
    by : Among x xs ⊎ Among x ys → ⊥
    by (inl m) = a.0 m
    by (inr n) = apart x (inl refl) n

    first : Among x (xs ++ ys) → ⊥
    first m = by (among_split x xs ys m)

once_only : {A : Type 0} (b : Bool) (x : A) → Once (only_if b x)
once_only true x = ((λ a. a), tt)
once_only false x = tt

once_kept : (keep : ℕ → Bool) (number n : ℕ) → Once (kept keep (pair number) n)
unfolding kept
once_kept keep number zero = tt
once_kept keep number (suc n) = once_append (kept keep (pair number) n) (only_if (keep n) (pair number n)) (once_kept keep number n) (once_only (keep n) (pair number n)) apart
  where
    apart : (q : Pair) → Among q (kept keep (pair number) n) → Among q (only_if (keep n) (pair number n)) → ⊥
    apart q a b =
        let (i, l, k, e) = kept_at keep (pair number) q n a in
        let (k', e') = only_at keep (pair number) q (keep n) (pair number n) b in
        let same : n ≡ i = sym (ap (λ (z : Pair). z.row) e') ∙ ap (λ (z : Pair). z.row) e in
        omega (arith, l, same)

once_stood : (m : Option Float) (s : Made) → Once (stood_by m s)
once_stood none s = tt
once_stood (some beta) s = once_kept (is_left s beta) s.number s.size

number_of : (m : Option Float) (s : Made) (q : Pair) → Among q (stood_by m s) → q.sweep_number ≡ s.number
number_of none s q a = absurd a
number_of (some beta) s q a = let (i, l, k, e) = kept_at (is_left s beta) (pair s.number) q s.size a in ap (λ (z : Pair). z.sweep_number) e

later_number : (n : ℕ) (sweeps : List Made) (q : Pair) → Numbered n sweeps → Among q (pairs sweeps) → n < q.sweep_number
unfolding pairs
later_number n [] q o a = absurd a
later_number n (s ∷ sweeps) q o a = by (later_number (suc n) sweeps q o.1) (among_split q (stood_in s) (pairs sweeps) a)
  where
    by : (Among q (pairs sweeps) → suc n < q.sweep_number) → Among q (stood_in s) ⊎ Among q (pairs sweeps) → n < q.sweep_number
    by rest (inl b) = let e = number_of (coordinate_momentum s.rule) s q b in omega (arith, e, o.0)
    by rest (inr b) = let l = rest b in omega (arith, l)

once_pairs : (n : ℕ) (sweeps : List Made) → Numbered n sweeps → Once (pairs sweeps)
unfolding pairs
once_pairs n [] o = tt
once_pairs n (s ∷ sweeps) o =
    once_append (stood_in s) (pairs sweeps) (once_stood (coordinate_momentum s.rule) s) (once_pairs (suc n) sweeps o.1) apart
  where
    apart : (q : Pair) → Among q (stood_in s) → Among q (pairs sweeps) → ⊥
    apart q a b =
        let e = number_of (coordinate_momentum s.rule) s q a in
        let l = later_number (suc n) sweeps q o.1 b in
        omega (arith, e, l, o.0)

pub pairs_once : (o : Settings) (calls : List Call) → Once (pairs (log (plain_open o) calls))
pairs_once o calls = once_pairs 0 (log (plain_open o) calls) (log_numbered o calls)

-- ---- of the port, at every position of a list

run_at : (p : Plain) (calls : List Call) (k : ℕ) (d : Seen) → k < length calls → (get_or (plain_trace p calls) k d).run ≡ record_of (plain_end p (take (suc k) calls))
unfolding plain_seen plain_end
run_at p [] k d l = absurd (omega arith)
run_at p (call ∷ calls) zero d l = refl
run_at p (call ∷ calls) (suc k) d l = run_at (plain_after p call) calls k d (omega arith)

module _ (o : Settings) (factor factor' : List Float) (run : Run) (calls : List Call) (seen : List Seen) (opens : Opens o factor (Ok run) factor')
    (chain : Chain run (take (used run) factor') calls seen) (k : ℕ) (d : Seen) (l : k < length calls) where
  seen_run : (get_or seen k d).run ≡ record_of (plain_end (plain_open o) (take (suc k) calls))
  seen_run = ap (λ (s : List Seen). (get_or s k d).run) (plain_run o factor factor' run calls seen opens chain) ∙ run_at (plain_open o) calls k d l

  pub seen_standing : (get_or seen k d).run.standing ≡ length (pairs (log (plain_open o) (take (suc k) calls)))
  unfolding record_of
  seen_standing = ap (λ (r : Run). r.standing) seen_run ∙ standing_pairs o (take (suc k) calls)

  pub seen_kept : (get_or seen k d).run.standing ≤ (get_or seen k d).run.size * (get_or seen k d).run.sweeps
  unfolding record_of
  seen_kept =
      subst (λ (r : Run). r.standing ≤ r.size * r.sweeps) (sym seen_run)
      ((grown_list (plain_open o) (take (suc k) calls)).few_stay (let z = (open_none o).0 in omega (arith, z)))

-- finish's result holds the total
pub given_standing : (p : Plain) (f : FinishCall) → (finish_of p f).result.standing ≡ p.standing
unfolding finish_of finish_result record_of
given_standing p f = refl
