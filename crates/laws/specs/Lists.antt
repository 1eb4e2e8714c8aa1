-- Elements of a slice by index, and lists that a loop makes: an element for each index, some of a list's elements, a list written over
-- the front of another.
use Rattle.std.specs.Prelude.{ℕ, zero, suc, ◌+◌, Bool, true, false, cond, List, [], ◌∷◌, ◌++◌, length, get_or, drop, set, ℤ, pos}
use Rattle.laws.specs.Rows.{map_first}

abbrev pub elem : List ℕ → ℕ → ℕ
elem l i = get_or l i 0

abbrev pub elem_z : List ℤ → ℕ → ℤ
elem_z l i = get_or l i (pos 0)

-- whether the test holds somewhere below the count
unfoldable pub any_below : ℕ → (ℕ → Bool) → Bool
any_below zero p = false
any_below (suc n) p = cond (p n) true (any_below n p)

-- the list with f i at each place i below the count, and its tail as it was
abbrev pub fill : {A : Type 0} → (ℕ → A) → ℕ → List A → List A
fill f n l = map_first (λ i _. f i) n l

-- front in the place of as many first elements of xs; the others stay
abbrev pub over : {A : Type 0} → List A → List A → List A
over front xs = front ++ drop (length front) xs

-- f 0, .., f (n - 1)
unfoldable pub tabulate : {A : Type 0} → (ℕ → A) → ℕ → List A
tabulate f zero = []
tabulate f (suc n) = tabulate f n ++ (f n ∷ [])

-- the element, if the test holds
abbrev pub only_if : {A : Type 0} → Bool → A → List A
only_if true x = x ∷ []
only_if false x = []

-- of f 0, .., f (n - 1) those whose index is to be kept, in order
unfoldable pub kept : {A : Type 0} → (ℕ → Bool) → (ℕ → A) → ℕ → List A
kept keep f zero = []
kept keep f (suc n) = kept keep f n ++ only_if (keep n) (f n)

-- xs with a at place n, if the test holds; and the place after it
abbrev pub put_if : {A : Type 0} → Bool → ℕ → A → List A → List A
put_if true n a xs = set xs n a
put_if false n a xs = xs

abbrev pub next_if : Bool → ℕ → ℕ
next_if true n = n + 1
next_if false n = n
