-- The versions of job records (01; 02, Notes 1 and 5), one table: what a version changes is looked up here and nowhere else.
use Rattle.std.specs.Prelude.{ℕ, Bool, false, cond, ◌&&◌, leb, ltb}
use Rattle.limits.specs.Limits.{most_wagons, small_wagons}

-- versions 1 to the last are known; the most wagons of a version; whether a version carries pins
pub record Format : Type 0 where
  pub last : ℕ
  pub most : ℕ → ℕ
  pub pinned : ℕ → Bool

abbrev pub known : Format → ℕ → Bool
known format version = leb 1 version && leb version format.last

-- 01's
abbrev pub one_version : Format
one_version = record { last = 1; most = λ version. small_wagons; pinned = λ version. false }

-- with version 2, which carries pins
abbrev pub two_versions : Format
two_versions = record { last = 2; most = λ version. small_wagons; pinned = ltb 1 }

-- with version 3, of a larger house
abbrev pub three_versions : Format
three_versions = record { last = 3; most = λ version. cond (ltb 2 version) most_wagons small_wagons; pinned = ltb 1 }

-- the table by which jobs are read
unfoldable pub versions : Format
versions = three_versions
