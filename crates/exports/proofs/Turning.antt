-- The turn call on words, from what `turn` promises of the records that the words hold. Assumes nothing.
use Prim.Native.Nat.{ℕ, zero, suc, ◌+◌, ◌*◌, ◌≤◌, ◌<◌}
use mathlib.Core.Path.{◌≡◌, refl, sym, ap, ap₂, subst, ◌∙◌}
use mathlib.Core.Bool.{Bool, true, false}
use mathlib.Core.List.{List, [], ◌∷◌, ◌++◌, append_assoc}
use mathlib.Core.Logic.{◌⊎◌, inl, inr}
use native.Mathlib.Nat.{mul-suc, eq-or-lt_of_le}
use native.Mathlib.Numerals.{add-one}
use native.Mathlib.Omega.{arith}
use borrow.Author.Tests.{ltb-false, le-ltb}
use lib.Dec.{ltb}
use lib.IntN.{ℤ}
use lib.Ieee.{Float}
use lib.ListN.{length, take, drop, replicate, length-append, length-replicate, take-append-drop}
use lib.Seq.{take_at, drop_at, drop-drop}
use Rattle.laws.specs.Rows.{map_first}
use Rattle.laws.specs.Lists.{over, fill}
use Rattle.laws.proofs.MapFirst.{get_d_map_first, fill_again}
use Rattle.laws.proofs.Refusal.{clear, first_head, first_rest, first_here, first_skip, first_end}
use Rattle.limits.specs.Limits.{most_runs}
use Rattle.run_record.specs.declared.Run.{Run}
use Rattle.several_runs.specs.Turn.{Tables, blank, run_at, tables_of, bad_turn, bad_count, turn_number, turned_at, joined, Turns}
use Rattle.several_runs.proofs.Counted.{count_few}
use Rattle.several_runs.proofs.Joined.{joined_ext, joined_part}
use Rattle.exports.specs.Words.{run_words, run_in, words_of}
use Rattle.exports.specs.TurnWords.{hall_words, record_at, runs_in, halls_in, early_number, TurnsWords}
use Rattle.exports.proofs.OnWords.{length_words}

-- ---- where no number is found early

pub record Ample (count words sizes : ℕ) : Type 0 where
  pub few : count ≤ most_runs
  pub words_there : run_words * count ≤ words
  pub sizes_there : hall_words * count ≤ sizes

pub ample : (sweeps count words sizes : ℕ) → early_number sweeps count words sizes ≡ 0 → Ample count words sizes
unfolding early_number
ample sweeps count words sizes ok =
    let past = first_rest _ _ ok in
    let last = first_rest _ _ past in
    record {
      few = count_few count (clear (bad_count count) 25 (first_head _ _ past));
      words_there = ltb-false words (run_words * count) (clear (ltb words (run_words * count)) 30 (first_head _ _ last));
      sizes_there = ltb-false sizes (hall_words * count) (clear (ltb sizes (hall_words * count)) 30 (first_head _ _ (first_rest _ _ last)));
    }

-- ---- records, run after run

-- words that begin with a record's hold what these do
front_read : (run : Run) (rest : List ℕ) → run_in (words_of run ++ rest) ≡ run_in (words_of run)
unfolding run_in words_of
front_read run rest = refl

begins : (xs : List ℕ) (run : Run) → take run_words xs ≡ words_of run → run_in xs ≡ run_in (words_of run)
begins xs run e =
    ap run_in (sym (take-append-drop run_words xs) ∙ ap (λ (front : List ℕ). front ++ drop run_words xs) e) ∙ front_read run (drop run_words xs)

pub length_records : (f : ℕ → Run) (n : ℕ) → length (joined (λ i. words_of (f i)) n) ≡ run_words * n
unfolding joined
length_records f zero = refl
length_records f (suc n) =
    length-append (joined (λ i. words_of (f i)) n) (words_of (f n)) ∙ ap₂ (λ (a b : ℕ). a + b) (length_records f n) (length_words (f n)) ∙ sym (mul-suc run_words n)

record_read : (f : ℕ → Run) (count : ℕ) (rest : List ℕ) (i : ℕ) → i < count → record_at (joined (λ j. words_of (f j)) count ++ rest) i ≡ run_in (words_of (f i))
record_read f count rest i l =
    begins (drop (run_words * i) (joined (λ j. words_of (f j)) count ++ rest)) (f i)
    (ap₂ (λ (m k : ℕ). take m (drop k (joined (λ j. words_of (f j)) count ++ rest))) (sym (length_words (f i))) (sym (length_records f i)) ∙ joined_part (λ j. words_of (f j)) count rest i l)

-- a loop that writes record after record: one more
module _ (f : ℕ → Run) (i : ℕ) (words₀ words : List ℕ) (d : ℕ) (w : words ≡ over (joined (λ j. words_of (f j)) i) words₀) (e : d ≡ run_words) where
  abbrev front : List ℕ
  front = joined (λ j. words_of (f j)) i

  put_turn : take (run_words * i) words ++ (words_of (f i) ++ drop d (drop (run_words * i) words)) ≡ over (joined (λ j. words_of (f j)) (i + 1)) words₀
  unfolding joined
  put_turn =
      let long = length_records f i in
      let front_is : take (run_words * i) words ≡ front = ap (take (run_words * i)) w ∙ take_at front (drop (length front) words₀) (run_words * i) long in
      let left_is : drop (run_words * i) words ≡ drop (run_words * i) words₀ =
      ap (drop (run_words * i)) w ∙ drop_at front (drop (length front) words₀) (run_words * i) long ∙ ap (λ (k : ℕ). drop k words₀) long in
      let both_long : length (front ++ words_of (f i)) ≡ run_words * i + run_words = length-append front (words_of (f i)) ∙ ap₂ (λ (a b : ℕ). a + b) long (length_words (f i)) in
      ap (λ (x : List ℕ). x ++ (words_of (f i) ++ drop d (drop (run_words * i) words))) front_is
      ∙ ap (λ (x : List ℕ). front ++ (words_of (f i) ++ x)) (ap₂ (λ (k : ℕ) (xs : List ℕ). drop k xs) e left_is ∙ drop-drop run_words (run_words * i) words₀)
      ∙ sym (append_assoc front (words_of (f i)) (drop (run_words * i + run_words) words₀))
      ∙ ap (λ (k : ℕ). (front ++ words_of (f i)) ++ drop k words₀) (sym both_long)
      ∙ ap (λ (k : ℕ). over (joined (λ j. words_of (f j)) k) words₀) (sym (add-one i))

held_turn : (f : ℕ → Run) (i : ℕ) → ((j : ℕ) → j < i → run_in (words_of (f j)) ≡ f j) → run_in (words_of (f i)) ≡ f i → (j : ℕ) → j < i + 1 → run_in (words_of (f j)) ≡ f j
held_turn f i before mine j l = let h : j ≤ i = omega arith in by (eq-or-lt_of_le h)
  where
    by : (j ≡ i) ⊎ (j < i) → run_in (words_of (f j)) ≡ f j
    by (inl e) = rw e mine
    by (inr k) = before j k

-- the first i records are written
pub record Put (runs : List Run) (words₀ words : List ℕ) (i : ℕ) : Type 0 where
  pub is : words ≡ over (joined (λ j. words_of (run_at runs j)) i) words₀
  pub held : (j : ℕ) → j < i → run_in (words_of (run_at runs j)) ≡ run_at runs j

pub put_none : (runs : List Run) (words : List ℕ) → Put runs words words 0
unfolding joined
put_none runs words = record { is = refl; held = λ j l. absurd (omega (arith, l)) }

pub put_next : {runs : List Run} {words₀ words new : List ℕ} {d : ℕ} (i : ℕ) → Put runs words₀ words i → d ≡ run_words → new ≡ words_of (run_at runs i) → run_in new ≡ run_at runs i → Put runs words₀ (take (run_words * i) words ++ (new ++ drop d (drop (run_words * i) words))) (i + 1)
put_next {runs} {words₀} {words} {new} {d} i p e n back =
    rw n (record {
      is = put_turn (run_at runs) i words₀ words d p.is e;
      held = held_turn (run_at runs) i p.held (rw n at back);
    })

-- ---- lists filled from the front

module _ {A : Type 0} where
  fill_ext : (f g : ℕ → A) (n : ℕ) (xs : List A) → ((i : ℕ) → i < n → f i ≡ g i) → fill f n xs ≡ fill g n xs
  unfolding map_first
  fill_ext f g zero xs e = refl
  fill_ext f g (suc n) [] e = refl
  fill_ext f g (suc n) (x ∷ xs) e =
      ap₂ (λ (y : A) (ys : List A). y ∷ ys) (e 0 (omega arith)) (fill_ext (λ j. f (suc j)) (λ j. g (suc j)) n xs (λ i l. e (suc i) (omega arith)))

-- ---- the call

module _ (sweeps count : ℕ) (words sizes rows cols : List ℕ) (values c : List ℤ) (factors : List Float) where
  abbrev tables : Tables
  tables = tables_of (halls_in count sizes) rows cols values c

  abbrev early : ℕ
  early = early_number sweeps count (length words) (length sizes)

  module _ {after : List Run} {factors' : List Float} {words' : List ℕ} (ok : early ≡ 0) (says : Turns sweeps count (runs_in count words) tables factors 0 after factors')
      (written : words' ≡ over (joined (λ i. words_of (run_at after i)) count) words) (held : (i : ℕ) → i < count → run_in (words_of (run_at after i)) ≡ run_at after i) where
    abbrev made : ℕ → Run
    made i = (turned_at sweeps count (run_at (runs_in count words)) tables factors i).run

    after_is : after ≡ fill made count (replicate most_runs blank)
    unfolding runs_in
    after_is = (says.accepted refl).0 ∙ fill_again made (record_at words) count (replicate most_runs blank)

    read : (i : ℕ) → i < count → record_at words' i ≡ run_at after i
    read i l = ap (λ (xs : List ℕ). record_at xs i) written ∙ record_read (run_at after) count (drop (length (joined (λ j. words_of (run_at after j)) count)) words) i l ∙ held i l

    runs_back : runs_in count words' ≡ after
    unfolding runs_in
    runs_back =
        fill_ext (record_at words') made count (replicate most_runs blank) (λ i l. read i l ∙ ap (λ (xs : List Run). run_at xs i) after_is ∙ get_d_map_first (λ j _. made j) count (replicate most_runs blank) i blank l (room i l))
        ∙ sym after_is
      where
        room : (i : ℕ) → i < count → i < length (replicate most_runs blank)
        room i l = rw (length-replicate most_runs blank) (omega (arith, l, (ample sweeps count (length words) (length sizes) ok).few))

    pub turn_made : TurnsWords sweeps count words sizes rows cols values c factors 0 words' factors'
    turn_made =
        record {
          early = λ m. absurd (m ok);
          turns = λ _. (
            subst (λ (runs : List Run). Turns sweeps count (runs_in count words) tables factors 0 runs factors') (sym runs_back) says,
            written ∙ ap (λ (xs : List ℕ). over xs words) (joined_ext _ _ count (λ i l. ap words_of (sym (read i l)))),
          );
        }

  -- ---- a step of a list of turns

  -- lent words and sizes enough, 25 and 26 are found early as `turn` finds them, and nothing else is
  early_is : run_words * count ≤ length words → hall_words * count ≤ length sizes → (early ≡ 0 → ⊥) → early ≡ turn_number sweeps count (run_at (runs_in count words)) tables (length factors)
  unfolding early_number turn_number
  early_is l m n = by (bad_turn sweeps) refl (bad_count count) refl
    where
      by : (turn : Bool) → bad_turn sweeps ≡ turn → (runs : Bool) → bad_count count ≡ runs → early ≡ turn_number sweeps count (run_at (runs_in count words)) tables (length factors)
      by true e runs f = first_here 24 _ _ e ∙ sym (first_here 24 _ _ e)
      by false e true f = first_skip 25 _ _ e ∙ first_here 25 _ _ f ∙ sym (first_skip 25 _ _ e ∙ first_here 25 _ _ f)
      by false e false f =
          absurd (n (first_skip 25 _ _ e ∙ first_skip 26 _ _ f ∙ first_skip 31 _ _ (le-ltb (length words) (run_words * count) l) ∙ first_skip 31 _ _ (le-ltb (length sizes) (hall_words * count) m) ∙ first_end))

  -- so a turn of C's is one of `TurnChain` (several_runs), on the records that the words hold
  pub words_turn : {number : ℕ} {words' : List ℕ} {factors' : List Float} → run_words * count ≤ length words → hall_words * count ≤ length sizes
      → TurnsWords sweeps count words sizes rows cols values c factors number words' factors'
      → Turns sweeps count (runs_in count words) tables factors number (runs_in count words') factors'
  words_turn {number} {words'} {factors'} l m says = by early refl
    where
      by : (k : ℕ) → early ≡ k → Turns sweeps count (runs_in count words) tables factors number (runs_in count words') factors'
      by zero e = (says.turns e).0
      by (suc k) e =
          let some : early ≡ 0 → ⊥ = (λ z. let no : ◌≡◌ {A = ℕ} (suc k) 0 = sym e ∙ z in omega arith) in
          let left = says.early some in
          record {
            numbered = left.0 ∙ early_is l m some;
            refused = λ _. (ap (runs_in count) left.1, left.2);
            accepted = λ z. absurd (some (sym left.0 ∙ z));
          }
