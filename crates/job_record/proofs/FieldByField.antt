-- The fields of head and settings as a reader takes them: where each stands, and that they are judged as Number says.
--     reached, there, there_after               a field stands behind those before it, where these are there; it is there itself; and the next place is behind it
--     head_judged_lem, settings_judged_lem      the numbers of the fields are those of the record
--     head_there, settings_there                the values, where all fields are there
-- Assumes nothing.
use Prim.Native.Nat.{ℕ, zero, suc, ◌+◌, ◌^◌, ◌<◌, ◌≤◌}
use mathlib.Core.Path.{◌≡◌, refl, sym, subst, ap, ◌∙◌}
use mathlib.Core.Bool.{Bool, true, false, cond, ◌&&◌, ◌||◌, not}
use mathlib.Core.List.{List, [], ◌∷◌}
use native.Mathlib.Omega.{arith}
use native.Mathlib.Nat.{pow-suc}
use borrow.Author.Tests.{leb-true, leb-false, le-leb, lt-ltb, le-ltb, ltb-true, ltb-false}
use lib.Dec.{leb, ltb, eqb}
use lib.ListN.{length, get_or}
use Rattle.laws.specs.Refusal.{◌if◌, or_else, first}
use Rattle.laws.proofs.Refusal.{clear, first_head}
use Rattle.laws.proofs.Following.{answers_if, moves_on_if, answers_last, first_append}
use Rattle.ieee.specs.Floats.{double_of}
use Rattle.limits.specs.Limits.{most_entries, most_rank, most_width, last_rule, last_start, most_bytes}
use Rattle.run_limits.specs.Momentum.{is_momentum}
use Rattle.job_reader.specs.Bytes.{big_endian, field_at, value_of, place_after, after, after_all, taken}
use Rattle.std.specs.Prelude.{Option, Some, None}
use Rattle.job_record.specs.declared.reading.HeadFields.{HeadFields}
use Rattle.job_record.specs.declared.reading.HeadValues.{HeadValues}
use Rattle.job_record.specs.Versions.{known, versions}
use Rattle.job_record.specs.Fields.{version, rank_at, rule_at, rule_number_at, most_at, minimum_at, objective_tolerance_at, stationarity_tolerance_at, width_at, start_at}
use Rattle.job_record.specs.Number.{ends_before, bounded_number, frame_number, version_number, momentum_number, head_numbers, settings_numbers}
use Rattle.job_record.specs.Reading.{SettingsFields, SettingsValues, HeadThere, head_of, settings_from, head_values, settings_values, is_short, field_number, frame_judged, head_judged, rule_judged, start_judged, settings_judged}
use Rattle.job_record.proofs.Bounded.{bounded_passed}
use Rattle.job_record.proofs.Sections.{Settings, settings}
use Rattle.job_record.proofs.Whole.{or_join, stops}

-- ---- places

abbrev pub widths : List ℕ → ℕ
widths [] = 0
widths (w ∷ ws) = w + widths ws

after_there : (s : List ℕ) (at w : ℕ) → at + w ≤ length s → after s at w ≡ at + w
unfolding after
after_there s at w h = rw (le-leb _ _ h)

pub behind : (s : List ℕ) (at : ℕ) (ws : List ℕ) → at + widths ws ≤ length s → after_all s at ws ≡ at + widths ws
behind s at [] h = omega arith
behind s at (w ∷ ws) h =
    let e : at + w + widths ws ≡ at + (w + widths ws) = omega arith in
    rw (after_there s at w (omega arith)) (behind s (at + w) ws (omega arith) ∙ e)

module _ (s : List ℕ) (at : ℕ) (ws : List ℕ) (w : ℕ) where
  pub reached : at + widths ws ≤ length s → taken s at ws w ≡ field_at s (at + widths ws) w
  reached h = ap (λ (m : ℕ). field_at s m w) (behind s at ws h)

  pub there : at + widths ws + w ≤ length s → taken s at ws w ≡ Some (big_endian s (at + widths ws) w)
  there h = reached (omega arith) ∙ ap (λ (t : Bool). cond t (Some (big_endian s (at + widths ws) w)) None) (le-leb _ _ h)

  pub there_after : at + widths ws + w ≤ length s → place_after (taken s at ws w) (after_all s at ws) w ≡ at + widths ws + w
  there_after h = ap (λ (f : Option ℕ). place_after f (after_all s at ws) w) (there h) ∙ ap (λ (p : ℕ). p + w) (behind s at ws (omega arith))

-- ---- numbers

module _ (s : List ℕ) (at w : ℕ) where
  pub field_judged : (wrong : ℕ → Bool) (k : ℕ) → field_number (field_at s at w) wrong k ≡ first (11 if ends_before s (at + w) ∷ k if wrong (big_endian s at w) ∷ [])
  field_judged wrong k = go (leb (at + w) (length s)) refl
    where
      go : (t : Bool) → leb (at + w) (length s) ≡ t → field_number (cond t (Some (big_endian s at w)) None) wrong k ≡ first (11 if ends_before s (at + w) ∷ k if wrong (big_endian s at w) ∷ [])
      go true q = moves_on_if 11 (ends_before s (at + w)) (k if wrong (big_endian s at w) ∷ []) (le-ltb (length s) (at + w) (leb-true (at + w) (length s) q)) (answers_last (k if wrong (big_endian s at w)) refl)
      go false q = answers_if 10 (ends_before s (at + w)) (k if wrong (big_endian s at w) ∷ []) (lt-ltb (length s) (at + w) (leb-false (at + w) (length s) q))

  pub field_bounded : (most k : ℕ) → field_number (field_at s at w) (ltb most) k ≡ bounded_number s at w most k
  unfolding bounded_number
  field_bounded most k = field_judged (ltb most) k

  pub field_short : is_short (field_at s at w) ≡ ends_before s (at + w)
  field_short = go (leb (at + w) (length s)) refl
    where
      go : (t : Bool) → leb (at + w) (length s) ≡ t → is_short (cond t (Some (big_endian s at w)) None) ≡ ends_before s (at + w)
      go true q = sym (le-ltb (length s) (at + w) (leb-true (at + w) (length s) q))
      go false q = sym (lt-ltb (length s) (at + w) (leb-false (at + w) (length s) q))

abbrev framed : List ℕ → ℕ
framed s = 11 if not (eqb (4 + big_endian s 0 4) (length s))

frame_judged_lem : (s : List ℕ) → frame_judged (length s) (field_at s 0 4) ≡ first (11 if ends_before s 4 ∷ framed s ∷ [])
frame_judged_lem s = field_judged s 0 4 (λ v. not (eqb (4 + v) (length s))) 11

-- the field of w bytes at `at`: its limit, and its value where it is there
module _ (s : List ℕ) (at w : ℕ) {f : Option ℕ} (e : f ≡ field_at s at w) where
  pub field_limit : (most k : ℕ) {r : ℕ} → r ≡ field_number f (ltb most) k → r ≡ bounded_number s at w most k
  field_limit most k q = q ∙ ap (λ (g : Option ℕ). field_number g (ltb most) k) e ∙ field_bounded s at w most k

  pub field_there : at + w ≤ length s → f ≡ Some (big_endian s at w)
  field_there h = e ∙ ap (λ (t : Bool). cond t (Some (big_endian s at w)) None) (le-leb _ _ h)

-- two lists that agree as far as numbers are 0
pub follow : (a a' : ℕ) (l l' : List ℕ) → a ≡ a' → (a' ≡ 0 → first l ≡ first l') → first (a ∷ l) ≡ first (a' ∷ l')
unfolding first
follow a a' l l' e h = rw e (stops a' (first l) (first l') h)

end_at : (a a' : ℕ) → a ≡ a' → first (a ∷ []) ≡ first (a' ∷ [])
end_at a a' e = rw e

version_there : (s : List ℕ) → version_number versions s ≡ 0 → 5 ≤ length s
unfolding version_number
version_there s e = ltb-false _ _ (clear _ 10 (first_head _ _ e))

frame_there : (s : List ℕ) → first (11 if ends_before s 4 ∷ framed s ∷ []) ≡ 0 → 4 ≤ length s
frame_there s e = ltb-false _ _ (clear _ 10 (first_head _ _ e))

-- n, by the version
wagons_judged : (s : List ℕ) → 5 ≤ length s
    → field_number (taken s 0 (4 ∷ 1 ∷ []) 1) (ltb (versions.most (value_of (taken s 0 (4 ∷ []) 1)))) 13 ≡ bounded_number s 5 1 (versions.most (version s)) 13
wagons_judged s h =
    ap (λ (f : Option ℕ). field_number (taken s 0 (4 ∷ 1 ∷ []) 1) (ltb (versions.most (value_of f))) 13) (there s 0 (4 ∷ []) 1 h)
    ∙ field_limit s 5 1 (reached s 0 (4 ∷ 1 ∷ []) 1 h) (versions.most (version s)) 13 refl

head_numbers_lem : (s : List ℕ) → first (head_numbers versions s)
    ≡ first (11 if ltb most_bytes (length s)
    ∷ first (11 if ends_before s 4 ∷ framed s ∷ [])
    ∷ version_number versions s
    ∷ bounded_number s 5 1 (versions.most (version s)) 13
    ∷ bounded_number s 6 2 most_entries 13
    ∷ [])
unfolding head_numbers frame_number first
head_numbers_lem s =
    sym (or_join (11 if ltb most_bytes (length s)) (first (11 if ends_before s 4 ∷ framed s ∷ [])) (first (version_number versions s ∷ bounded_number s 5 1 (versions.most (version s)) 13 ∷ bounded_number s 6 2 most_entries 13 ∷ [])))

pub head_judged_lem : (s : List ℕ) → first (head_judged (length s) (head_of s)) ≡ first (head_numbers versions s)
unfolding head_of version_number
head_judged_lem s =
    follow _ _ _ _ refl (λ _.
    follow _ _ _ _ (frame_judged_lem s) (λ z₁.
    follow _ _ _ _ (ap (λ (f : Option ℕ). field_number f (λ v. not (known versions v)) 12) (reached s 0 (4 ∷ []) 1 (frame_there s z₁)) ∙ field_judged s 4 1 (λ v. not (known versions v)) 12) (λ z₂.
    follow _ _ _ _ (wagons_judged s (version_there s z₂)) (λ z₃.
    end_at _ _ (field_limit s 6 2 (reached s 0 (4 ∷ 1 ∷ 1 ∷ []) 2 (bounded_passed s 5 1 (versions.most (version s)) 12 z₃).0) most_entries 13 refl)))))
    ∙ sym (head_numbers_lem s)

or_step : (a : Bool) {b c : Bool} → (a ≡ true → true ≡ c) → (a ≡ false → b ≡ c) → (a || b) ≡ c
or_step true t f = t refl
or_step false t f = f refl

module _ (s : List ℕ) (at : ℕ) where
  taken_short : (ws : List ℕ) (w : ℕ) → at + widths ws ≤ length s → is_short (taken s at ws w) ≡ ends_before s (at + widths ws + w)
  taken_short ws w h = ap is_short (reached s at ws w h) ∙ field_short s (at + widths ws) w

  -- most, minimum and the two tolerances
  limits_judged : at + 10 ≤ length s
      → (is_short (taken s at (1 ∷ 1 ∷ 8 ∷ []) 4) || (is_short (taken s at (1 ∷ 1 ∷ 8 ∷ 4 ∷ []) 4) || (is_short (taken s at (1 ∷ 1 ∷ 8 ∷ 4 ∷ 4 ∷ []) 8) || is_short (taken s at (1 ∷ 1 ∷ 8 ∷ 4 ∷ 4 ∷ 8 ∷ []) 8)))) ≡ ends_before s (at + 34)
  limits_judged h₁ =
      let e₁ = taken_short (1 ∷ 1 ∷ 8 ∷ []) 4 h₁ in
      or_step _ (λ t. let l = ltb-true (length s) (at + 10 + 4) (sym e₁ ∙ t) in sym (lt-ltb (length s) (at + 34) (omega arith))) (λ f₁. let h₂ = ltb-false (length s) (at + 10 + 4) (sym e₁ ∙ f₁) in
      let e₂ = taken_short (1 ∷ 1 ∷ 8 ∷ 4 ∷ []) 4 (omega arith) in
      or_step _ (λ t. let l = ltb-true (length s) (at + 14 + 4) (sym e₂ ∙ t) in sym (lt-ltb (length s) (at + 34) (omega arith))) (λ f₂. let h₃ = ltb-false (length s) (at + 14 + 4) (sym e₂ ∙ f₂) in
      let e₃ = taken_short (1 ∷ 1 ∷ 8 ∷ 4 ∷ 4 ∷ []) 8 (omega arith) in
      or_step _ (λ t. let l = ltb-true (length s) (at + 18 + 8) (sym e₃ ∙ t) in sym (lt-ltb (length s) (at + 34) (omega arith))) (λ f₃. let h₄ = ltb-false (length s) (at + 18 + 8) (sym e₃ ∙ f₃) in
      let sum : at + 26 + 8 ≡ at + 34 = omega arith in
      taken_short (1 ∷ 1 ∷ 8 ∷ 4 ∷ 4 ∷ 8 ∷ []) 8 (omega arith) ∙ ap (ends_before s) sum)))

  rule_judged_lem : at + 2 ≤ length s → field_number (taken s at (1 ∷ 1 ∷ []) 8) (λ bits. eqb (value_of (taken s at (1 ∷ []) 1)) 4 && not (is_momentum (double_of bits))) 18 ≡ momentum_number s at
  unfolding momentum_number
  rule_judged_lem h =
      let sum : at + 2 + 8 ≡ at + 10 = omega arith in
      ap (λ (f : Option ℕ). field_number f (λ bits. eqb (value_of (taken s at (1 ∷ []) 1)) 4 && not (is_momentum (double_of bits))) 18) (reached s at (1 ∷ 1 ∷ []) 8 h)
      ∙ ap (λ (f : Option ℕ). field_number (field_at s (at + 2) 8) (λ bits. eqb (value_of f) 4 && not (is_momentum (double_of bits))) 18) (there s at (1 ∷ []) 1 (omega arith))
      ∙ field_judged s (at + 2) 8 (λ bits. eqb (rule_at s at) 4 && not (is_momentum (double_of bits))) 18
      ∙ ap (λ (e : ℕ). first (11 if ends_before s e ∷ 18 if (eqb (rule_at s at) 4 && not (is_momentum (rule_number_at s at))) ∷ [])) sum

  momentum_there : momentum_number s at ≡ 0 → at + 10 ≤ length s
  unfolding momentum_number
  momentum_there e = ltb-false _ _ (clear _ 10 (first_head _ _ e))

  pub settings_judged_lem : first (settings_judged (settings_from s at)) ≡ first (settings_numbers s at)
  unfolding settings_from settings_numbers
  settings_judged_lem =
      follow _ _ _ _ (field_bounded s at 1 most_rank 17) (λ z₁. let h₁ = (bounded_passed s at 1 most_rank 16 z₁).0 in
      follow _ _ _ _ (field_limit s (at + 1) 1 (reached s at (1 ∷ []) 1 h₁) last_rule 18 refl) (λ z₂. let h₂ = (bounded_passed s (at + 1) 1 last_rule 17 z₂).0 in
      follow _ _ _ _ (rule_judged_lem (omega arith)) (λ z₃. let h₃ = momentum_there z₃ in
      follow _ _ _ _ (ap (λ (b : Bool). 11 if b) (limits_judged h₃)) (λ z₄. let h₄ = ltb-false (length s) (at + 34) (clear _ 10 z₄) in
      follow _ _ _ _ (field_limit s (at + 34) 1 (reached s at (1 ∷ 1 ∷ 8 ∷ 4 ∷ 4 ∷ 8 ∷ 8 ∷ []) 1 h₄) most_width 19 refl) (λ z₅. let h₅ = (bounded_passed s (at + 34) 1 most_width 18 z₅).0 in
      follow _ _ _ _ (field_limit s (at + 35) 1 (reached s at (1 ∷ 1 ∷ 8 ∷ 4 ∷ 4 ∷ 8 ∷ 8 ∷ 1 ∷ []) 1 (omega arith)) last_start 19 refl) (λ z₆. let h₆ = (bounded_passed s (at + 35) 1 last_start 18 z₆).0 in
      end_at _ _ (ap (λ (f : Option ℕ). 17 if (eqb (value_of f) 1 && eqb (value_of (taken s at [] 1)) 0)) (there s at (1 ∷ 1 ∷ 8 ∷ 4 ∷ 4 ∷ 8 ∷ 8 ∷ 1 ∷ []) 1 (omega arith))
      ∙ ap (λ (f : Option ℕ). 17 if (eqb (start_at s at) 1 && eqb (value_of f) 0)) (there s at [] 1 (omega arith) ∙ first_place))))))))
    where
      first_place : Some (big_endian s (at + 0) 1) ≡ Some (rank_at s at)
      first_place = let e : at + 0 ≡ at = omega arith in rw e

pub settings_parts : (f : SettingsFields) → first (settings_judged f)
    ≡ or_else (first (rule_judged f.rank f.rule f.rule_number))
    (first (11 if (is_short f.most || (is_short f.minimum || (is_short f.objective_tolerance || is_short f.stationarity_tolerance)))
    ∷ start_judged f.rank f.width f.start))
settings_parts f = first_append (rule_judged f.rank f.rule f.rule_number) _

-- ---- values

pub head_there : (s : List ℕ) → 8 ≤ length s → HeadThere s (head_values (head_of s))
unfolding head_of
head_there s h =
    record {
      version = ap value_of (there s 0 (4 ∷ []) 1 (omega arith));
      n = ap value_of (there s 0 (4 ∷ 1 ∷ []) 1 (omega arith));
      count = ap value_of (there s 0 (4 ∷ 1 ∷ 1 ∷ []) 2 h);
    }

-- all of the settings are there
pub record SettingsThere (s : List ℕ) (at : ℕ) (v : SettingsValues) : Type 0 where
  pub rank : v.rank ≡ rank_at s at
  pub rule : v.rule ≡ rule_at s at
  pub number : double_of v.rule_number ≡ rule_number_at s at
  pub most : v.most ≡ most_at s at
  pub minimum : v.minimum ≡ minimum_at s at
  pub objective : double_of v.objective_tolerance ≡ objective_tolerance_at s at
  pub stationarity : double_of v.stationarity_tolerance ≡ stationarity_tolerance_at s at
  pub width : v.width ≡ width_at s at
  pub start : v.start ≡ start_at s at
  pub next : v.next ≡ at + 36

pub settings_there : (s : List ℕ) (at : ℕ) → at + 36 ≤ length s → SettingsThere s at (settings_values (settings_from s at))
unfolding settings_from
settings_there s at h =
    let e : at + 0 ≡ at = omega arith in
    record {
      rank = ap value_of (there s at [] 1 (omega arith)) ∙ ap (λ (p : ℕ). big_endian s p 1) e;
      rule = ap value_of (there s at (1 ∷ []) 1 (omega arith));
      number = ap (λ (f : Option ℕ). double_of (value_of f)) (there s at (1 ∷ 1 ∷ []) 8 (omega arith));
      most = ap value_of (there s at (1 ∷ 1 ∷ 8 ∷ []) 4 (omega arith));
      minimum = ap value_of (there s at (1 ∷ 1 ∷ 8 ∷ 4 ∷ []) 4 (omega arith));
      objective = ap (λ (f : Option ℕ). double_of (value_of f)) (there s at (1 ∷ 1 ∷ 8 ∷ 4 ∷ 4 ∷ []) 8 (omega arith));
      stationarity = ap (λ (f : Option ℕ). double_of (value_of f)) (there s at (1 ∷ 1 ∷ 8 ∷ 4 ∷ 4 ∷ 8 ∷ []) 8 (omega arith));
      width = ap value_of (there s at (1 ∷ 1 ∷ 8 ∷ 4 ∷ 4 ∷ 8 ∷ 8 ∷ []) 1 (omega arith));
      start = ap value_of (there s at (1 ∷ 1 ∷ 8 ∷ 4 ∷ 4 ∷ 8 ∷ 8 ∷ 1 ∷ []) 1 (omega arith));
      next = behind s at (1 ∷ 1 ∷ 8 ∷ 4 ∷ 4 ∷ 8 ∷ 8 ∷ 1 ∷ 1 ∷ []) h;
    }

-- the same of what the calls gave
module _ (s : List ℕ) {f : HeadFields} (e : f ≡ head_of s) where
  pub head_number_is : {r : ℕ} → r ≡ first (head_judged (length s) f) → r ≡ first (head_numbers versions s)
  head_number_is q = q ∙ ap (λ (h : HeadFields). first (head_judged (length s) h)) e ∙ head_judged_lem s

  pub head_values_are : {v : HeadValues} → v ≡ head_values f → 8 ≤ length s → HeadThere s v
  head_values_are {v} q h = subst (HeadThere s) (sym (q ∙ ap head_values e)) (head_there s h)

module _ (s : List ℕ) (at : ℕ) {f : SettingsFields} (e : f ≡ settings_from s at) where
  pub settings_number_is : {r : ℕ} → r ≡ first (settings_judged f) → r ≡ first (settings_numbers s at)
  settings_number_is q = q ∙ ap (λ (g : SettingsFields). first (settings_judged g)) e ∙ settings_judged_lem s at

  pub settings_values_are : {v : SettingsValues} → v ≡ settings_values f → at + 36 ≤ length s → SettingsThere s at v
  settings_values_are {v} q h = subst (SettingsThere s at) (sym (q ∙ ap settings_values e)) (settings_there s at h)

  -- what settings that are not refused hold, and their values
  pub settings_read : {v : SettingsValues} → 0 ≡ first (settings_judged f) → v ≡ settings_values f → Settings s at × SettingsThere s at v
  settings_read ok q = let h = settings s at (sym (settings_number_is ok)) in (h, settings_values_are q h.there)

-- a number of so many bytes
pub number_below : (s : List ℕ) (at w : ℕ) → ((i : ℕ) → get_or s i 0 < 256) → big_endian s at w < 256 ^ w
unfolding big_endian
number_below s at zero h = omega arith
number_below s at (suc w) h = rw pow-suc (omega (arith, number_below s at w h, h (at + w)))
