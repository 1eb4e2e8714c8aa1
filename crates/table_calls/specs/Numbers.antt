-- The first number of each call on a table given directly (01, "Numbers from the state" and "Numbers from the input"), or 0: 31, 13, 14, 15,
-- 16. A length that rests on a number which is itself refused isn't tested.
use Rattle.std.specs.Prelude.{Bool, List, [], ◌∷◌, ℕ, ◌+◌, ◌*◌, ◌-◌, ltb, length, ℤ}
use Rattle.laws.specs.Lists.{elem_z}
use Rattle.laws.specs.Refusal.{◌if◌, first, any_of, short}
use Rattle.limits.specs.Limits.{most_wagons, most_entries, most_magnitude, most_signs, most_sign_entries, most_sign_magnitude}
use Rattle.tables.specs.Table.{table_of}
use Rattle.tables.specs.Check.{bad_size, signs_number, short_table, hall_number, table_number}
unfoldable pub use Rattle.tables.specs.Check.{bad_signs}

-- 13 of n
abbrev pub bad_wagons : ℕ → Bool
bad_wagons n = ltb most_wagons n

-- 13 to 16 of a sign table of m signs, and of n wagons' (H, c), in the first places of their slices
abbrev pub sign_table_number : ℕ → ℕ → List ℕ → List ℕ → List ℤ → ℕ
sign_table_number m count rows cols values = table_number most_signs most_sign_entries most_sign_magnitude m (table_of count rows cols values)

abbrev pub hall_number_in : ℕ → ℕ → List ℕ → List ℕ → List ℤ → List ℤ → ℕ
hall_number_in n count rows cols values c = hall_number most_wagons most_entries most_magnitude n (table_of count rows cols values) (elem_z c)

-- `floor_eighths` and `entrywise_lower_bound`: the table's slices rest on the count
abbrev pub floor_short : ℕ → List ℕ → List ℕ → List ℤ → Bool
floor_short count rows cols values = short_table most_sign_entries count (length rows) (length cols) (length values)

unfoldable pub floor_number : ℕ → ℕ → List ℕ → List ℕ → List ℤ → ℕ
floor_number m count rows cols values = first (31 if floor_short count rows cols values ∷ sign_table_number m count rows cols values ∷ [])

-- `obj_rounded`: the signs rest on m
unfoldable pub objective_short : ℕ → ℕ → List ℕ → List ℕ → List ℤ → List ℕ → Bool
objective_short m count rows cols values signs =
    any_of (short_table most_sign_entries count (length rows) (length cols) (length values) ∷ short (bad_signs m) m (length signs) ∷ [])

unfoldable pub objective_number : ℕ → ℕ → List ℕ → List ℕ → List ℤ → List ℕ → ℕ
objective_number m count rows cols values signs =
    first (31 if objective_short m count rows cols values signs ∷ sign_table_number m count rows cols values ∷ [])

-- `qubo_binary_from_sign_solution`: m signs, and room for a choice of m − 1 wagons
unfoldable pub decode_short : ℕ → List ℕ → List ℕ → Bool
decode_short m signs b = any_of (short (bad_signs m) m (length signs) ∷ short (bad_signs m) (m - 1) (length b) ∷ [])

unfoldable pub decode_number : ℕ → List ℕ → List ℕ → ℕ
decode_number m signs b = signs_number (decode_short m signs b) m

-- `eval_qubo_objective`: c and the choice rest on n
unfoldable pub cost_short : ℕ → ℕ → List ℕ → List ℕ → List ℤ → List ℤ → List ℕ → Bool
cost_short n count rows cols values c b =
    any_of
    (short_table most_entries count (length rows) (length cols) (length values)
    ∷ short (bad_wagons n) n (length c)
    ∷ short (bad_wagons n) n (length b)
    ∷ [])

unfoldable pub cost_number : ℕ → ℕ → List ℕ → List ℕ → List ℤ → List ℤ → List ℕ → ℕ
cost_number n count rows cols values c b = first (31 if cost_short n count rows cols values c b ∷ hall_number_in n count rows cols values c ∷ [])

-- `qubo_sign_table`: room for count + 3·n + 1 entries rests on n and the count
unfoldable pub room_short : ℕ → ℕ → ℕ → ℕ → ℕ → Bool
room_short n count rows cols values =
    let refused = bad_size 0 most_wagons most_entries n count in
    let needed = count + 3 * n + 1 in
    any_of (short refused needed rows ∷ short refused needed cols ∷ short refused needed values ∷ [])

unfoldable pub sign_short : ℕ → ℕ → List ℕ → List ℕ → List ℤ → List ℤ → List ℕ → List ℕ → List ℤ → Bool
sign_short n count rows cols values c toRows toCols toValues =
    any_of
    (short_table most_entries count (length rows) (length cols) (length values)
    ∷ short (bad_wagons n) n (length c)
    ∷ room_short n count (length toRows) (length toCols) (length toValues)
    ∷ [])

unfoldable pub sign_number : ℕ → ℕ → List ℕ → List ℕ → List ℤ → List ℤ → List ℕ → List ℕ → List ℤ → ℕ
sign_number n count rows cols values c toRows toCols toValues =
    first (31 if sign_short n count rows cols values c toRows toCols toValues ∷ hall_number_in n count rows cols values c ∷ [])
