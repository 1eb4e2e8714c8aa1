-- What follows from other limits is what 01 says, with Note 5 of 02.
use Prim.Native.Nat.{◌^◌}
use mathlib.Core.Path.{◌≡◌, refl}
use mathlib.Core.List.{[], ◌∷◌}
use Rattle.limits.specs.Limits.{most_signs, most_sign_entries, most_sign_magnitude, most_factor, most_start, small_signs, most_words, small_words, search_workspace, most_drawn, least_answer}

pub numbers_are :
    (most_signs ∷ most_sign_entries ∷ most_sign_magnitude ∷ most_factor ∷ most_start ∷ small_signs ∷ most_words ∷ small_words ∷ search_workspace ∷ most_drawn ∷ least_answer ∷ [])
    ≡ (256 ∷ 4862 ∷ 2 ^ 42 ∷ 8192 ∷ 8448 ∷ 128 ∷ 4 ∷ 2 ∷ 1024 ∷ 8192 ∷ 315 ∷ [])
numbers_are = refl
