-- Bytes written into a part of a slice.
use Rattle.std.specs.Prelude.{ℕ, ◌+◌, List, ◌++◌, length, take, drop, flat_map}
use Rattle.job_reader.specs.Encode.{bytes_of}

-- xs in the place of as many elements of l from `at` on
unfoldable pub put : List ℕ → ℕ → List ℕ → List ℕ
put l at xs = take at l ++ xs ++ drop (at + length xs) l

-- numbers in so many bytes each, one behind the other
abbrev pub bytes_in : List (ℕ × ℕ) → List ℕ
bytes_in fields = flat_map (λ f. bytes_of f.0 f.1) fields
