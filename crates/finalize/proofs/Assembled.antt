-- What the functions of a finish leave, put together. Assumes nothing.
--     chooses         the rounding, the search and the decoding
--     finalizes       they are those of (H, c)
use Prim.Native.Nat.{ℕ, zero, suc, ◌+◌, ◌*◌, ◌≤◌, ◌<◌}
use native.Mathlib.Numerals.{add-one}
use native.Mathlib.Omega.{arith}
use mathlib.Core.Bool.{Bool, true, false}
use mathlib.Core.List.{List}
use mathlib.Core.Path.{◌≡◌, refl, sym, ap, subst, ◌∙◌}
use lib.IntN.{ℤ}
use lib.Ieee
use lib.Ieee.{Float}
use lib.ListN.{length}
use mir.Syntax.{w64}
use mir.Val.{to_z, of_z}
use mir.Facts.{to_z-of_z}
use Rattle.laws.specs.Lists.{over, fill, tabulate}
use Rattle.laws.specs.Rows.{row_of}
use Rattle.laws.proofs.MapFirst.{fill_none, fill_more}
use Rattle.laws.proofs.Made.{tabulate_next}
use Rattle.limits.specs.Limits.{most_signs, most_sign_entries, most_sign_magnitude, most_words, most_width, search_workspace}
use Rattle.tables.specs.Table.{Table}
use Rattle.tables.specs.Check.{Accepted}
use Rattle.tables.specs.Cost.{decoded_byte}
use Rattle.sign_table.specs.SignTable.{sign_table}
use Rattle.ieee.specs.Floats.{zero64}
use Rattle.factor.specs.Norms.{dot_of}
use Rattle.factor.specs.Vectors.{unit}
use Rattle.rounding.specs.Rounding.{plus_byte, rounded_sign, draw_signs, least_draw, rounded_sol, rounded_objective}
use Rattle.sign_words.specs.Signs.{Binary}
use Rattle.sign_words.proofs.PackedLaws.{tabulate_binary}
use Rattle.sign_search.specs.Search.{objective_in, beam_search}
use Rattle.sign_search.specs.Clauses.{Found-by, Sound, LevelRoom}
use Rattle.sign_search.proofs.Lawful.{objective_fits}
use Rattle.sign_search.proofs.Theorems.{accepted_mirrors}
use Rattle.sign_search.proofs.TurnLaws.{rising_climbs}
use Rattle.finalize.specs.Finalize.{choice_of, floor_eighths, float_bound, diagonal_total, multipliers_of, rounded_signs, rounded_cost, search_result, searched_choice, searched_cost, searched_rounds}
use Rattle.finalize.specs.Clauses.{Fits, Chooses, Works, Finalizes}

module _ {A : Type 0} where
  fill_tabulate : (f : ℕ → A) (l : List A) (n : ℕ) → n ≤ length l → fill f n l ≡ over (tabulate f n) l
  unfolding tabulate
  fill_tabulate f l zero h = sym (fill_none f l)
  fill_tabulate f l (suc n) h =
      subst (λ (k : ℕ). fill f k l ≡ over (tabulate f k) l) (add-one n)
      (sym (fill_more f l n refl refl) ∙ tabulate_next f n l (fill f n l) (f n) (omega arith) (fill_tabulate f l n (omega arith)))

rounded_objective_lem : (factor : List Float) (rank m : ℕ) (draws : List Float) (t : Table) (draw_count : ℕ)
    → rounded_objective factor rank m draws t draw_count ≡ objective_in t (rounded_sol factor rank m draws t draw_count)
unfolding rounded_sol rounded_objective objective_in
rounded_objective_lem factor rank m draws t draw_count = refl

pub fill_choice : (n : ℕ) (signs b : List ℕ) → n ≤ length b → fill (decoded_byte n signs) n b ≡ over (choice_of n signs) b
unfolding choice_of
fill_choice n signs b h = fill_tabulate (decoded_byte n signs) b n h

module _ (t : Table) (n rank width draw_count : ℕ) (draws factor : List Float) (b b' start answer : List ℕ) (rounded least cost : ℤ) (rounds : ℕ) where
  pub chooses : start ≡ rounded_sol factor rank (n + 1) draws t draw_count → rounded ≡ rounded_objective factor rank (n + 1) draws t draw_count
      → Found-by t width start least rounds answer → cost ≡ least → b' ≡ fill (decoded_byte n answer) n b → n ≤ length b
      → Chooses t n rank width draw_count draws factor b b' rounded cost rounds
  chooses s r f l d room =
      let s' : start ≡ rounded_sol factor rank (suc n) draws t draw_count = s ∙ ap (λ (m : ℕ). rounded_sol factor rank m draws t draw_count) (add-one n) in
      let found : answer ≡ (beam_search t width (rounded_sol factor rank (suc n) draws t draw_count)).answer =
      f.answer_is ∙ ap (λ (x : List ℕ). (beam_search t width x).answer) s' in
      record {
        rounded_is = r ∙ ap (λ (m : ℕ). rounded_objective factor rank m draws t draw_count) (add-one n) ∙ rounded_objective_lem factor rank (suc n) draws t draw_count;
        cost_is = l ∙ f.least_is ∙ ap (objective_in t) found;
        rounds_are = f.rounds_are ∙ ap (λ (x : List ℕ). (beam_search t width x).rounds) s';
        choice_is = d ∙ fill_choice n answer b room ∙ ap (λ (x : List ℕ). over (choice_of n x) b) found;
      }

-- ---- what the search asks of an accepted sign table

module _ {m : ℕ} {t : Table} (ok : Accepted most_signs most_sign_entries most_sign_magnitude m t) where
  pub sound : {len : ℕ} → len ≡ m → Sound len t
  sound e = rw e (record { mirrors = accepted_mirrors ok; climbs = rising_climbs t ok.rising; small = ok.magnitude })

  pub room : {len width space : ℕ} → len ≡ m → width ≤ most_width → search_workspace ≤ space → LevelRoom most_signs most_words len width space
  room e w s = rw e (record { signs_few = ok.signs; width_few = omega (arith, w); level_room = s })

  -- an objective is an i64
  pub objective_held : (x : List ℕ) {z : ℤ} → z ≡ objective_in t x → to_z w64 (of_z w64 z) ≡ z
  objective_held x e = to_z-of_z {w = w64} (rw e (objective_fits (accepted_mirrors ok) ok.magnitude x))

-- ---- the figures of (H, c) are those of its sign table

module _ (n : ℕ) (h : Table) (c : ℕ → ℤ) (rank width draw_count : ℕ) (draws factor : List Float) {b b' : List ℕ} {multipliers multipliers' : List Float}
    {diagonal bound : Float} {floor rounded cost : ℤ} {rounds : ℕ} where
  of_signs : Works (sign_table n h c) n rank width draw_count draws factor b b' multipliers multipliers' diagonal bound floor rounded cost rounds
      → Finalizes n h c rank width draw_count draws factor b b' multipliers multipliers' diagonal bound floor rounded cost rounds
  unfolding diagonal_total float_bound floor_eighths multipliers_of rounded_signs rounded_cost search_result searched_choice searched_cost searched_rounds
  of_signs w = record {
    diagonal_is = w.diagonal_is;
    bound_is = w.bound_is;
    floor_is = w.floor_is;
    rounded_is = w.chooses.rounded_is;
    cost_is = w.chooses.cost_is;
    rounds_are = w.chooses.rounds_are;
    choice_is = w.chooses.choice_is;
    multipliers_are = w.multipliers_are;
  }

  pub finalizes : {t : Table} → t ≡ sign_table n h c
      → Works t n rank width draw_count draws factor b b' multipliers multipliers' diagonal bound floor rounded cost rounds
      → Finalizes n h c rank width draw_count draws factor b b' multipliers multipliers' diagonal bound floor rounded cost rounds
  finalizes e w =
      of_signs (subst (λ (t : Table). Works t n rank width draw_count draws factor b b' multipliers multipliers' diagonal bound floor rounded cost rounds) e w)

module _ {n rank width draw_count draws factor b multipliers workspace : ℕ} (fits : Fits n rank width draw_count draws factor b multipliers workspace) where
  -- a factor that is cut to its rows, a workspace to what is asked
  pub cut_fits : {part space : ℕ} → suc n * rank ≤ part → search_workspace ≤ space → Fits n rank width draw_count draws part b multipliers space
  cut_fits rows long =
      record {
        rank_some = fits.rank_some;
        rank_few = fits.rank_few;
        width_few = fits.width_few;
        draws_some = fits.draws_some;
        draws_few = fits.draws_few;
        draws_room = fits.draws_room;
        factor_room = rows;
        b_room = fits.b_room;
        multipliers_room = fits.multipliers_room;
        space_room = long;
      }

-- ---- the rounded signs are 0 and 1

plus_byte_lt : (b : Bool) → plus_byte b < 2
plus_byte_lt true = omega arith
plus_byte_lt false = omega arith

pub rounded_binary : (factor : List Float) (rank m : ℕ) (draws : List Float) (t : Table) (count : ℕ) → Binary (rounded_sol factor rank m draws t count)
unfolding rounded_sol draw_signs
rounded_binary factor rank m draws t count =
    let direction : List Float = unit (row_of rank draws (least_draw factor rank m draws t count)) in
    tabulate_binary (rounded_sign factor rank direction) m (λ i. plus_byte_lt (Ieee.lt zero64 (dot_of (row_of rank factor i) direction)))
