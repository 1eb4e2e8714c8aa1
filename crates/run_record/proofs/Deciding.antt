-- Tests that decide a proposition, put together, and the first number of a list of tests as the first of a list of clauses. Assumes nothing.
use Prim.Native.Nat.{ℕ, zero, suc, ◌<◌, ◌≤◌}
use mathlib.Core.Path.{◌≡◌, refl, sym, ap, ◌∙◌, subst}
use mathlib.Core.Bool.{Bool, true, false, not, ◌&&◌, ◌||◌, cond, false≢true}
use mathlib.Core.List.{List, [], ◌∷◌, ◌++◌}
use mathlib.Core.Logic.{◌⊎◌}
use native.Mathlib.Omega.{arith}
use lib.Dec.{leb, eqb}
use borrow.Author.Tests.{ltb-true, lt-ltb, leb-true, le-leb, eqb-true, eq-eqb}
use Rattle.std.specs.Bool.{Decides}
use Rattle.std.proofs.lemmas.Bool.Decides.{Decides-like, Decides-and, Decides-or}
use Rattle.laws.specs.Refusal.{◌if◌, or_else, first, any_of, short}
use Rattle.laws.specs.Lists.{any_below}
use Rattle.laws.proofs.Any.{below_true, below_at}
use Rattle.run_record.specs.Conditions.{Clause, ◌when◌, Holds, NoneBefore, Answered}

-- what isn't false is true
pub stable : {test : Bool} {p : Type 0} → Decides test p → ((p → ⊥) → ⊥) → p
stable {test = true} d n = d.0 refl
stable {test = false} d n = absurd (n (λ p. false≢true (d.1 p)))

-- ---- numbers

pub at_most : (a b : ℕ) → Decides (leb a b) (a ≤ b)
at_most a b = (leb-true a b, le-leb a b)

-- ---- connectives, by `cond`

pub or_else_lem : {a b : Bool} {p q : Type 0} → Decides a p → Decides b q → Decides (cond a true b) (p ⊎ q)
or_else_lem {a = true} {b} d e = Decides-or true b d e
or_else_lem {a = false} {b} d e = Decides-or false b d e

pub and_then : {a b : Bool} {p q : Type 0} → Decides a p → Decides b q → Decides (cond a b false) (p × q)
and_then {a = true} {b} d e = Decides-and true b d e
and_then {a = false} {b} d e = Decides-and false b d e

-- one of a list
pub record DecidesAny (tests : List Bool) (p : Type 0) : Type 0 where
  pub any : Decides (any_of tests) p

pub none_left : DecidesAny [] ⊥
unfolding any_of
none_left = record { any = (false≢true, λ x. absurd x) }

pub one_or : {a : Bool} {bs : List Bool} {p q : Type 0} → Decides a p → DecidesAny bs q → DecidesAny (a ∷ bs) (p ⊎ q)
unfolding any_of
one_or {a = true} {bs} d e = record { any = Decides-or true (any_of bs) d e.any }
one_or {a = false} {bs} d e = record { any = Decides-or false (any_of bs) d e.any }

pub reads_any : {tests : List Bool} {p q : Type 0} → (p → q) → (q → p) → DecidesAny tests p → DecidesAny tests q
reads_any {tests} to from d = record { any = Decides-like (any_of tests) to from d.any }

-- some index below n
pub some_below : {test : ℕ → Bool} {p : ℕ → Type 0} (n : ℕ) → ((k : ℕ) → Decides (test k) (p k)) → Decides (any_below n test) ((k : ℕ) × (k < n) × p k)
some_below {test} {p} n d =
    ((λ e. let (k, l, t) = below_true test n e in (k, l, (d k).0 t)), (λ r. below_at test n r.0 r.1 ((d r.0).1 r.2)))

-- a slice that is too short: what its length rests on stands, and it is shorter
pub too_short_lem : {refused : Bool} {p : Type 0} (needed lent : ℕ) → Decides refused p → Decides (short refused needed lent) ((p → ⊥) × (lent < needed))
unfolding short
too_short_lem {refused = true} needed lent d = ((λ e. absurd (false≢true e)), (λ r. absurd (r.0 (d.0 refl))))
too_short_lem {refused = false} needed lent d = ((λ e. ((λ p. false≢true (d.1 p)), ltb-true lent needed e)), (λ r. lt-ltb lent needed r.1))

-- ---- the first of a list

-- k is the number of the first clause whose condition holds, 0 where none holds
pub data FirstOf (k : ℕ) : List Clause → Type 1 where
  no_more : k ≡ 0 → FirstOf k []
  here : {c : Clause} {rest : List Clause} → c.condition → k ≡ c.number → FirstOf k (c ∷ rest)
  later : {c : Clause} {rest : List Clause} → (c.condition → ⊥) → FirstOf k rest → FirstOf k (c ∷ rest)

-- the first of a list of numbers is that of a list of clauses
pub record Follows (numbers : List ℕ) (clauses : List Clause) : Type 1 where
  pub first_is : FirstOf (first numbers) clauses

pub ends : Follows [] []
unfolding first
ends = record { first_is = no_more refl }

pub then_if : (k : ℕ) {test : Bool} {p : Type 0} {ks : List ℕ} {rest : List Clause} → Decides test p → Follows ks rest → Follows (suc k if test ∷ ks) (suc k when p ∷ rest)
unfolding first or_else
then_if k {test = true} d more = record { first_is = here (d.0 refl) refl }
then_if k {test = false} d more = record { first_is = later (λ p. false≢true (d.1 p)) more.first_is }

-- a list that begins with the first of another
first_flat : (js ks : List ℕ) → first (first js ∷ ks) ≡ first (js ++ ks)
unfolding first or_else
first_flat [] ks = refl
first_flat (zero ∷ js) ks = first_flat js ks
first_flat (suc j ∷ js) ks = refl

pub flat : (js ks : List ℕ) {clauses : List Clause} → Follows (js ++ ks) clauses → Follows (first js ∷ ks) clauses
flat js ks {clauses} f = record { first_is = subst (λ (k : ℕ). FirstOf k clauses) (sym (first_flat js ks)) f.first_is }

-- ---- what a first number says

-- there is one only
first_only : {j k : ℕ} {clauses : List Clause} → FirstOf j clauses → FirstOf k clauses → j ≡ k
first_only (no_more e) (no_more f) = e ∙ sym f
first_only (here p e) (here q f) = e ∙ sym f
first_only (here p e) (later n more) = absurd (n p)
first_only (later n more) (here q f) = absurd (n q)
first_only (later n more) (later m rest) = first_only more rest

-- no clause before it holds
none_before : {k : ℕ} {clauses : List Clause} → FirstOf k clauses → NoneBefore k clauses
none_before (no_more e) = tt
none_before {k} (here {c} {rest} p e) = rw (eq-eqb k c.number e) tt
none_before {k} (later {c} {rest} m more) = by (eqb k c.number) (none_before more)
  where
    by : (b : Bool) → NoneBefore k rest → cond b (Unit {0}) ((c.condition → ⊥) × NoneBefore k rest)
    by true n = tt
    by false n = (m, n)

-- its own does, if no two clauses have one number
abbrev pub is_among : ℕ → List Clause → Bool
is_among k [] = false
is_among k (c ∷ rest) = eqb k c.number || is_among k rest

abbrev pub distinct : List Clause → Bool
distinct [] = true
distinct (c ∷ rest) = not (is_among c.number rest) && distinct rest

among : {k : ℕ} {clauses : List Clause} → FirstOf k clauses → (k ≡ 0 → ⊥) → is_among k clauses ≡ true
among (no_more e) n = absurd (n e)
among {k} (here {c} {rest} p e) n = ap (λ (b : Bool). b || is_among k rest) (eq-eqb k c.number e)
among {k} (later {c} {rest} m more) n = by (eqb k c.number) (among more n)
  where
    by : (b : Bool) → is_among k rest ≡ true → (b || is_among k rest) ≡ true
    by true e = refl
    by false e = e

own_holds : {k : ℕ} {clauses : List Clause} → FirstOf k clauses → distinct clauses ≡ true → (k ≡ 0 → ⊥) → Holds k clauses
own_holds (no_more e) d n = absurd (n e)
own_holds {k} (here {c} {rest} p e) d n = rw (eq-eqb k c.number e) p
own_holds {k} (later {c} {rest} m more) d n = by (is_among c.number rest) refl (eqb k c.number) refl d (λ e. own_holds more e n)
  where
    by : (a : Bool) → is_among c.number rest ≡ a → (b : Bool) → eqb k c.number ≡ b → (not a && distinct rest) ≡ true
        → (distinct rest ≡ true → Holds k rest) → cond b c.condition (Holds k rest)
    by true s b e d later' = absurd (false≢true d)
    by false s true e d later' =
        let same : k ≡ c.number = eqb-true k c.number e in
        absurd (false≢true (sym s ∙ subst (λ (j : ℕ). is_among j rest ≡ true) same (among more n)))
    by false s false e d later' = later' d

-- and a number whose own holds, and none before it, is the first
is_first : (k : ℕ) (clauses : List Clause) → Holds k clauses → NoneBefore k clauses → FirstOf k clauses
is_first k [] p n = absurd p
is_first k (c ∷ rest) p n = by (eqb k c.number) refl p n (is_first k rest)
  where
    by : (b : Bool) → eqb k c.number ≡ b → cond b c.condition (Holds k rest) → cond b (Unit {0}) ((c.condition → ⊥) × NoneBefore k rest)
        → (Holds k rest → NoneBefore k rest → FirstOf k rest) → FirstOf k (c ∷ rest)
    by true e p n more = here p (eqb-true k c.number e)
    by false e p n more = later n.0 (more p n.1)

-- what is said of a clause and of the rest, where neither has the number that is asked for
apart : {a : Bool} {p q : Type 0} (b : Bool) → (b || a) ≡ false → cond b (Unit {0}) ((p → ⊥) × q) → (a ≡ false) × (p → ⊥) × q
apart true z n = absurd (false≢true (sym z))
apart false z n = (z, n.0, n.1)

-- where none holds, 0 is
is_zero : {k : ℕ} {clauses : List Clause} → FirstOf k clauses → is_among 0 clauses ≡ false → NoneBefore 0 clauses → k ≡ 0
is_zero (no_more e) z n = e
is_zero (here {c} p e) z n = absurd ((apart (eqb 0 c.number) z n).1 p)
is_zero (later {c} m more) z n = let d = apart (eqb 0 c.number) z n in is_zero more d.0 d.2

pub answered : {k : ℕ} {clauses : List Clause} → FirstOf k clauses → distinct clauses ≡ true → is_among 0 clauses ≡ false → Answered k clauses
answered {k} {clauses} f d z =
    record {
      holds = own_holds f d;
      first = none_before f;
      only = λ j p n. first_only f (is_first j clauses p n);
      none = is_zero f z;
    }

-- of one number
pub of_number : {number : ℕ} {clauses : List Clause} (k : ℕ) → Answered number clauses → number ≡ suc k → Holds (suc k) clauses
of_number {number} {clauses} k a e = (subst (λ (j : ℕ). Answered j clauses) e a).holds (λ z. omega arith)
