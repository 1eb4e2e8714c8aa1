-- The fields of a record: whole numbers, big-endian (01, "Job and answer records").
use Rattle.std.specs.Prelude.{ℕ, zero, suc, ◌+◌, ◌*◌, cond, List, [], ◌∷◌, length, get_or, leb, Option, Some, None, unwrap_or, ℤ, Float}
use Rattle.ieee.specs.Floats.{signed_of, double_of}
use Rattle.job_reader.specs.declared.JobReader.{JobReader}

-- the big-endian number of the first n bytes from `at`
unfoldable pub big_endian : List ℕ → ℕ → ℕ → ℕ
big_endian s at zero = 0
big_endian s at (suc n) = big_endian s at n * 256 + get_or s (at + n) 0

-- a signed number of 8 bytes, and a double of 8 bytes
abbrev pub signed_at : List ℕ → ℕ → ℤ
signed_at s at = signed_of (big_endian s at 8)

abbrev pub double_at : List ℕ → ℕ → Float
double_at s at = double_of (big_endian s at 8)

-- the number in the field of so many bytes at `at`, none where it runs past the end
abbrev pub field_at : List ℕ → ℕ → ℕ → Option ℕ
field_at s at width = cond (leb (at + width) (length s)) (Some (big_endian s at width)) None

-- the place after a field of so many bytes that was read at `at`, and `at` itself where the field runs past the end
abbrev pub place_after : Option ℕ → ℕ → ℕ → ℕ
place_after (Some v) at width = at + width
place_after None at width = at

-- a field's value, 0 for one that runs past the end
abbrev pub value_of : Option ℕ → ℕ
value_of f = unwrap_or f 0

-- the place after a field of so many bytes at `at`; the place after several; and the field behind them
unfoldable pub after : List ℕ → ℕ → ℕ → ℕ
after s at width = place_after (field_at s at width) at width

abbrev pub after_all : List ℕ → ℕ → List ℕ → ℕ
after_all s at [] = at
after_all s at (w ∷ ws) = after_all s (after s at w) ws

abbrev pub taken : List ℕ → ℕ → List ℕ → ℕ → Option ℕ
taken s at widths width = field_at s (after_all s at widths) width

-- the reader after a field of so many bytes
abbrev pub moved_on : JobReader → ℕ → JobReader
moved_on r width = record { bytes = r.bytes; at = after r.bytes.now r.at width }
