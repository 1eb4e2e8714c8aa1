-- The signs of the present choice, and what the functions of the search leave, put together. Assumes nothing.
use Prim.Native.Nat.{ℕ, suc, ◌≤◌, ◌<◌}
use native.Mathlib.Decide.{dec_lt}
use native.Mathlib.Numerals.{add-one}
use native.Mathlib.Omega.{arith}
use borrow.Author.Tests.{lt-ltb, le-ltb}
use mathlib.Core.Bool.{Bool, cond}
use mathlib.Core.List.{List, ◌++◌}
use mathlib.Core.Path.{◌≡◌, sym, ap, subst, ◌∙◌}
use lib.Dec.{ltb}
use lib.IntN.{ℤ}
use lib.ListN.{length, take, drop, set}
use lib.Seq.{length-take-le, get_or-take}
use Rattle.laws.specs.Lists.{elem, over, fill, tabulate}
use Rattle.laws.proofs.Made.{length_tabulate, get_d_tabulate, tabulate_get_d, tabulate_next, tabulate_all}
use Rattle.tables.specs.Table.{Table}
use Rattle.tables.specs.Cost.{decoded_byte}
use Rattle.sign_words.specs.Signs.{Binary}
use Rattle.sign_words.proofs.PackedLaws.{tabulate_binary}
use Rattle.sign_search.specs.Within.{bounds, within}
use Rattle.sign_search.specs.Search.{objective_in, limited_search}
use Rattle.sign_search.specs.Clauses.{Found-within}
use Rattle.finalize.specs.Finalize.{choice_of}
use Rattle.finalize.proofs.Assembled.{fill_choice}
use Rattle.limited_search.specs.Search.{present_signs, limited_found, Leaves}

-- sign i
abbrev pub sign_of : ℕ → List ℕ → ℕ → ℕ
sign_of n p i = cond (ltb i n) (elem p i) 0

pub sign_there : (n : ℕ) (p : List ℕ) (i : ℕ) → i < n → sign_of n p i ≡ elem p i
sign_there n p i h = ap (λ (b : Bool). cond b (elem p i) 0) (lt-ltb i n h)

pub sign_behind : (n : ℕ) (p : List ℕ) (i : ℕ) → n ≤ i → sign_of n p i ≡ 0
sign_behind n p i h = ap (λ (b : Bool). cond b (elem p i) 0) (le-ltb i n h)

pub start_size : (n : ℕ) (p : List ℕ) → length (present_signs n p) ≡ suc n
unfolding present_signs
start_size n p = length_tabulate (sign_of n p) (suc n)

pub start_sign : (n : ℕ) (p : List ℕ) (i : ℕ) → i < suc n → elem (present_signs n p) i ≡ sign_of n p i
unfolding present_signs
start_sign n p i h = get_d_tabulate (sign_of n p) (suc n) i 0 h

pub start_binary : (n : ℕ) (p : List ℕ) → ((i : ℕ) → i < n → elem p i ≤ 1) → Binary (present_signs n p)
unfolding present_signs
start_binary n p low = tabulate_binary (sign_of n p) (suc n) (λ i. go i (dec_lt i n))
  where
    go : (i : ℕ) → Dec (i < n) → sign_of n p i < 2
    go i (yes h) = omega (arith, sign_there n p i h, low i h)
    go i (no d) = let past : n ≤ i = omega arith in omega (arith, sign_behind n p i past)

-- ---- how they are written

pub signs_copied : (n : ℕ) (p signs : List ℕ) {front : List ℕ} → n ≤ length p → front ≡ take n p → front ++ drop n signs ≡ over (tabulate (sign_of n p) n) signs
signs_copied n p signs long e =
    let copied : tabulate (sign_of n p) n ≡ take n p =
    sym (tabulate_get_d (take n p) n 0 (sign_of n p) (length-take-le n p long) (λ j h. get_or-take n p j 0 h ∙ sym (sign_there n p j h))) in
    rw (e, copied, length-take-le n p long)

pub signs_made : (n : ℕ) (p : List ℕ) (i : ℕ) (signs₀ signs : List ℕ) → i ≡ n → length signs₀ ≡ suc n → signs ≡ over (tabulate (sign_of n p) i) signs₀
    → set signs i 0 ≡ present_signs n p
unfolding present_signs
signs_made n p i signs₀ signs e long s =
    ap (set signs i) (sym (sign_behind n p i (omega arith)))
    ∙ tabulate_next (sign_of n p) i signs₀ signs 0 (omega arith) s
    ∙ ap (λ (m : ℕ). over (tabulate (sign_of n p) m) signs₀) (add-one i ∙ ap suc e)
    ∙ tabulate_all (sign_of n p) (suc n) signs₀ long

-- ---- the search

pub leaves : (t : Table) (n : ℕ) (p : List ℕ) (k W : ℕ) (start answer found found' : List ℕ) (least : ℤ) (rounds : ℕ)
    → start ≡ present_signs n p → Found-within t (bounds n k start) W start least rounds answer → found' ≡ fill (decoded_byte n answer) n found → n ≤ length found
    → Leaves t n p k W found found' least rounds
unfolding limited_found
leaves t n p k W start answer found found' least rounds e f d room =
    let is : answer ≡ (limited_search t (within (bounds n k (present_signs n p))) W (present_signs n p)).answer =
    f.answer_is ∙ ap (λ (x : List ℕ). (limited_search t (within (bounds n k x)) W x).answer) e in
    record {
      least_is = f.least_is ∙ ap (objective_in t) is;
      rounds_are = f.rounds_are ∙ ap (λ (x : List ℕ). (limited_search t (within (bounds n k x)) W x).rounds) e;
      choice_is = d ∙ fill_choice n answer found room ∙ ap (λ (x : List ℕ). over (choice_of n x) found) is;
    }

pub leaves_at : {t t' : Table} → t ≡ t' → (n : ℕ) (p : List ℕ) (k W : ℕ) (found found' : List ℕ) (least : ℤ) (rounds : ℕ)
    → Leaves t n p k W found found' least rounds → Leaves t' n p k W found found' least rounds
leaves_at e n p k W found found' least rounds l = subst (λ (t : Table). Leaves t n p k W found found' least rounds) e l
