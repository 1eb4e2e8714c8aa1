-- What holds of the search on every sign table that equals its mirror image, every start and every width above 0. Assumes nothing.
use Prim.Native.Nat.{ℕ, suc, ◌*◌, ◌≤◌, ◌<◌}
use native.Mathlib.Omega.{arith}
use mathlib.Core.Bool.{Bool, true}
use mathlib.Core.List.{List}
use mathlib.Core.Path.{◌≡◌}
use lib.IntN.{pos, ◌+ℤ◌}
use lib.Signed.{◌≤ℤ◌}
use lib.ListN.{length}
use Rattle.std.proofs.lemmas.Int.{ints}
use Rattle.tables.specs.Table.{Table, InRange, Rising, Mirrored}
use Rattle.tables.specs.Check.{Accepted}
use Rattle.tables.proofs.Mirrors.{mirrored_symmetric}
use Rattle.local_search.specs.LocalSearch.{Found, levels, Levels, found_in}
use Rattle.local_search.specs.Level.{flip_sign}
use Rattle.local_search.specs.SignSearch.{lower, improving, improves, keeping}
use Rattle.local_search.proofs.SignLaws.{Filter, Found-improved, sign_search_lem, sign_levels, sign_levels_end, no_flip, keeping_filter, no_kept_flip}
use Rattle.sign_search.specs.Search.{objective_in, change_in, height_in, Mirrors, search_over, beam_search, limited_search}
use Rattle.sign_search.proofs.Lawful.{lawful, fallen, not_below}

-- what the checks accept: entries in rising order that are each mirrored
pub rising_mirrored : {m : ℕ} {t : Table} → InRange m t → Rising t → Mirrored t → Mirrors m t
rising_mirrored {m} range rising mirrored = record { in_range = range; symmetric = mirrored_symmetric rising mirrored m }

pub accepted_mirrors : {signs entries limit m : ℕ} {t : Table} → Accepted signs entries limit m t → Mirrors m t
accepted_mirrors ok = rising_mirrored ok.in_range ok.rising ok.mirrored

module _ {m : ℕ} {t : Table} (ok : Mirrors m t) (start : List ℕ) (long : length start ≡ m) where
  -- ---- over any filter of improving children, and what it keeps of the choices

  module _ (exists : List ℕ → ℕ → Bool) (Keeps : List ℕ → Type 0) (filter : Filter (lawful ok) exists Keeps) (held : Keeps start) where
    -- the height is fuel enough: the levels end with an empty one
    pub levels_end : (W : ℕ) → Levels (lower (objective_in t)) (improving exists flip_sign m) W (improving exists flip_sign m start)
        (levels (lower (objective_in t)) (improving exists flip_sign m) W (height_in t start) (improving exists flip_sign m start))
    levels_end W = sign_levels_end (lawful ok) filter W (height_in t start) start long held (omega arith)

    -- and whatever levels end so are those of the search
    pub search_levels : (W : ℕ) (ls : List (List (List ℕ))) → Levels (lower (objective_in t)) (improving exists flip_sign m) (suc W) (improving exists flip_sign m start) ls
        → search_over t exists (suc W) start ≡ found_in (lower (objective_in t)) start ls
    search_levels W ls r =
        rw long (sign_levels (lawful ok) filter W (height_in t start) start ls long held (omega arith) r)

    pub found_improved : (W : ℕ) → 1 ≤ W
        → Found-improved (lawful ok) exists Keeps start (search_over t exists W start)
    found_improved W some =
        rw long (sign_search_lem (lawful ok) filter W (height_in t start) start some long held (omega arith))

  -- ---- 01's search

  module _ (W : ℕ) (some : 1 ≤ W) where
    abbrev answer : List ℕ
    answer = (beam_search t W start).answer

    -- what no flip ends, K, holds of the answer
    found_with : (K : List ℕ → Type 0) → ((x : List ℕ) (i : ℕ) → i < length x → K x → K (flip_sign i x)) → K start
        → Found-improved (lawful ok) (improves (change_in t)) K start (beam_search t W start)
    unfolding beam_search
    found_with K keeps k =
        found_improved (improves (change_in t)) K (record { improving = λ x i e. e; keeps = λ x i p q b e. keeps x i (omega arith) b }) k W some

    found : Found-improved (lawful ok) (improves (change_in t)) (λ x. Unit {0}) start (beam_search t W start)
    found = found_with (λ x. Unit {0}) (λ x i h k. tt) tt

    pub answer_long : length answer ≡ m
    answer_long = found.sized

    pub answer_keeps : (K : List ℕ → Type 0) → ((x : List ℕ) (i : ℕ) → i < length x → K x → K (flip_sign i x)) → K start → K answer
    answer_keeps K keeps k = (found_with K keeps k).kept

    -- no single flip lowers the answer's objective
    pub no_flip_lowers : (i : ℕ) → i < m → objective_in t answer ≤ℤ objective_in t (flip_sign i answer)
    no_flip_lowers i h =
        not_below _ _ (no_flip (lawful ok) answer i found.sized h (found.no_child i h))

    -- each round has taken 4 eighths off at least
    pub rounds_fall : (objective_in t answer +ℤ pos (4 * (beam_search t W start).rounds)) ≤ℤ objective_in t start
    rounds_fall = fallen ok start answer (4 * (beam_search t W start).rounds) found.fall

    -- so the answer's objective is at most the start's
    pub answer_le : objective_in t answer ≤ℤ objective_in t start
    answer_le = omega (arith, ints, rounds_fall)

  -- ---- over the children that `keep` lets through, and what they hold

  module _ (keep : List ℕ → ℕ → Bool) (Keeps : List ℕ → Type 0)
      (holds : (x : List ℕ) (i : ℕ) → length x ≡ m → i < m → Keeps x → keep x i ≡ true → Keeps (flip_sign i x)) (held : Keeps start) (W : ℕ) (some : 1 ≤ W) where
    abbrev limited : Found (List ℕ)
    limited = limited_search t keep W start

    limited_found_lem : Found-improved (lawful ok) (keeping (change_in t) keep) Keeps start limited
    unfolding limited_search
    limited_found_lem =
        found_improved (keeping (change_in t) keep) Keeps (keeping_filter (lawful ok) keep Keeps holds) held W some

    pub limited_holds : Keeps limited.answer
    limited_holds = limited_found_lem.kept

    pub limited_fall : (objective_in t limited.answer +ℤ pos (4 * limited.rounds)) ≤ℤ objective_in t start
    limited_fall = fallen ok start limited.answer (4 * limited.rounds) limited_found_lem.fall

    pub limited_no_flip : (i : ℕ) → i < m → keep limited.answer i ≡ true → objective_in t limited.answer ≤ℤ objective_in t (flip_sign i limited.answer)
    limited_no_flip i h k =
        not_below _ _
        (no_kept_flip (lawful ok) keep limited.answer i limited_found_lem.sized h (limited_found_lem.no_child i h) k)
