-- Definitions by index look below their count alone, so that a filled list serves for what filled it.
use Prim.Native.Nat.{ℕ, ◌+◌, ◌-◌, ◌*◌, ◌<◌, ◌≤◌}
use mathlib.Core.Path.{◌≡◌, ap, ap₂}
use mathlib.Core.Bool.{not}
use mathlib.Core.List.{List}
use native.Mathlib.Omega.{arith}
use lib.ListN.{length, get_or}
use lib.IntN.{ℤ, nat_abs}
use Rattle.laws.specs.Sum.{total}
use Rattle.laws.specs.Lists.{fill}
use Rattle.laws.proofs.Totals.{total_ext}
use Rattle.laws.proofs.MapFirst.{get_d_map_first}
use Rattle.tables.specs.Check.{bad_entry, bad_order, unmirrored}
use Rattle.tables.proofs.Anys.{any_ext}

pub filled : {A : Type 0} (f : ℕ → A) (l : List A) (d : A) (n : ℕ) → n ≤ length l → (i : ℕ) → i < n → get_or (fill f n l) i d ≡ f i
filled f l d n h i k = get_d_map_first (λ j _. f j) n l i d k (omega arith)

-- two tables that agree below the count
module _ (row column row' column' : ℕ → ℕ) (count : ℕ) (r : (i : ℕ) → i < count → row i ≡ row' i) (k : (i : ℕ) → i < count → column i ≡ column' i) where
  entry_same : (n i : ℕ) → i < count → bad_entry n row column i ≡ bad_entry n row' column' i
  unfolding bad_entry
  entry_same n i l = rw (r i l, k i l, r (i - 1) (omega arith), k (i - 1) (omega arith))

  pub order_same : (n : ℕ) → bad_order n row column count ≡ bad_order n row' column' count
  unfolding bad_order
  order_same n = any_ext count _ _ (entry_same n)

  pub mirror_same : {value value' : ℕ → ℤ} → ((i : ℕ) → i < count → value i ≡ value' i)
      → unmirrored (record { count = count; row = row; column = column; value = value }) ≡ unmirrored (record { count = count; row = row'; column = column'; value = value' })
  unfolding unmirrored
  mirror_same v =
      any_ext count _ _ (λ i l. ap not
      (any_ext count _ _ (λ j m. rw (r i l, k i l, v i l, r j m, k j m, v j m))))

-- H's and c's magnitude
pub magnitude_same : (n count : ℕ) {v v' c c' : ℕ → ℤ} → ((i : ℕ) → i < count → v i ≡ v' i) → ((i : ℕ) → i < n → c i ≡ c' i)
    → total count (λ i. nat_abs (v i)) + 2 * total n (λ i. nat_abs (c i)) ≡ total count (λ i. nat_abs (v' i)) + 2 * total n (λ i. nat_abs (c' i))
magnitude_same n count f g = ap₂ (λ (x y : ℕ). x + 2 * y) (total_ext count _ _ (λ i l. ap nat_abs (f i l))) (total_ext n _ _ (λ i l. ap nat_abs (g i l)))
