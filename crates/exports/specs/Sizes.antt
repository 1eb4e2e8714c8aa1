-- The version of the calls for C, and the sizes that a host may ask for.
use Rattle.std.specs.Prelude.{ℕ, List, [], ◌∷◌}
use Rattle.laws.specs.Lists.{elem}
use Rattle.limits.specs.Limits.{most_wagons, most_entries, most_signs, most_sign_entries, most_rank, most_width, most_draws, most_start, search_workspace, record_workspace, most_bytes, least_answer, most_size, most_blocks, most_runs, least_turn, most_turn}
use Rattle.sign_words.specs.Size.{sign_words}
use Rattle.exports.specs.Words.{run_words, setting_words, result_words}
use Rattle.exports.specs.TurnWords.{hall_words}

abbrev pub calls_version : ℕ
calls_version = 12

-- in the order of `enum wagonplan_sizes` of include/wagonplan.h
abbrev pub sizes : List ℕ
sizes =
    most_bytes
    ∷ most_wagons
    ∷ most_entries
    ∷ most_signs
    ∷ most_sign_entries
    ∷ most_rank
    ∷ most_width
    ∷ most_draws
    ∷ most_start
    ∷ record_workspace
    ∷ least_answer
    ∷ most_size
    ∷ run_words
    ∷ setting_words
    ∷ result_words
    ∷ search_workspace
    ∷ sign_words most_signs
    ∷ most_blocks
    ∷ most_runs
    ∷ least_turn
    ∷ most_turn
    ∷ hall_words
    ∷ []

-- 0 where there is no such size
unfoldable pub size_of : ℕ → ℕ
size_of which = elem sizes which
