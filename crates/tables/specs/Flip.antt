-- A sign flipped, and the change of the objective by that (01, "Rounding and search").
use Rattle.std.specs.Prelude.{cond, ℕ, eqb, ℤ, pos, negsuc, neg_ℤ, ◌-ℤ◌, ◌*ℤ◌}
use Rattle.laws.specs.Sum.{sum, only}
use Rattle.tables.specs.Table.{Table}

-- the signs with sign i flipped
unfoldable pub flipped : (ℕ → ℤ) → ℕ → ℕ → ℤ
flipped x i j = cond (eqb i j) (neg_ℤ (x j)) (x j)

-- 4·Q_ii − 4·x_i·(Qx)_i, for a square of m rows
unfoldable pub flip_change : ℕ → (ℕ → ℕ → ℤ) → (ℕ → ℤ) → ℕ → ℤ
flip_change m q x i = pos 4 *ℤ q i i -ℤ pos 4 *ℤ (x i *ℤ sum m (λ j. q i j *ℤ x j))

-- the same entry by entry: an entry v at (a, j) adds −4·v·x_i·x_j in row i off the diagonal, for the signs x of i and y of j
unfoldable pub flip_share : ℕ → ℕ → ℕ → ℤ → ℤ → ℤ → ℤ
flip_share i a j x y v = only i a (cond (eqb i j) (pos 0) (negsuc 3 *ℤ v *ℤ x *ℤ y))

abbrev pub flip_term : Table → (ℕ → ℤ) → ℕ → ℕ → ℤ
flip_term t x i k = flip_share i (t.row k) (t.column k) (x i) (x (t.column k)) (t.value k)
