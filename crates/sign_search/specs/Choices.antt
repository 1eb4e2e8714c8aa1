-- Choices beside a choice b, whose numbers are 0 and 1.
use Rattle.std.specs.Prelude.{ℕ, cond, eqb, ℤ, pos, ◌-ℤ◌}

-- wagon i in the other store
unfoldable pub one_moved : ℕ → (ℕ → ℤ) → ℕ → ℤ
one_moved i b j = cond (eqb i j) (pos 1 -ℤ b j) (b j)

-- all wagons in the other store
unfoldable pub all_moved : (ℕ → ℤ) → ℕ → ℤ
all_moved b j = pos 1 -ℤ b j
