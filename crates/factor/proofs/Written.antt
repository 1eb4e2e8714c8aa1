-- Lists made by index that are written block by block.
--     entry_made        an entry's share to sums that are made by index
--     block_copied      a block's sums, copied over as many elements
--     sums_put          a block's sums, copied to where they lie in a row
--     front_made        a list whose first elements are made by index
--     block_next_put    the turn of a loop over blocks
--     next_block        where the next block of `width` elements starts
-- Assumes nothing.
use mathlib.Core.Path.{◌≡◌, sym, ap, subst, ◌∙◌}
use mathlib.Core.List.{List, ◌++◌, append_assoc}
use Prim.Native.Nat.{ℕ, ◌+◌, ◌-◌, ◌*◌, ◌≤◌}
use native.Mathlib.Nat.{add_assoc, suc-mul}
use native.Mathlib.Numerals.{add-one}
use native.Mathlib.Omega.{arith}
use lib.Ieee.{Float, nan}
use lib.ListN.{length, take, drop, take-append-drop, length-take, length-drop}
use lib.Seq.{take_at, drop_at, drop-drop, get_or-take, get_or-drop}
use Rattle.laws.specs.Rows.{map_first}
use Rattle.laws.specs.Lists.{tabulate, over}
use Rattle.laws.proofs.MapFirst.{map_first_copy}
use Rattle.laws.proofs.Made.{length_tabulate, tabulate_add, tabulate_ext, map_first_tabulate}
use Rattle.ieee.specs.Floats.{◌*ᶠ◌, at}
use Rattle.factor.specs.Columns.{put_block}

-- an entry's share to sums that are made by index
pub entry_made : (op : Float → Float → Float) (weight : Float) (factor : List Float) (start width : ℕ) (f : ℕ → Float)
    → map_first (λ j x. op x (weight *ᶠ at (take width (drop start factor)) j)) width (tabulate f width)
    ≡ tabulate (λ j. op (f j) (weight *ᶠ at factor (start + j))) width
entry_made op weight factor start width f =
    map_first_tabulate (λ j x. op x (weight *ᶠ at (take width (drop start factor)) j)) f width nan
    ∙ tabulate_ext (λ j. op (f j) (weight *ᶠ at (take width (drop start factor)) j)) (λ j. op (f j) (weight *ᶠ at factor (start + j))) width
    (λ j h. rw (get_or-take width (drop start factor) j nan h, get_or-drop start factor j nan))

-- sums that are made by index, copied over as many elements
pub block_copied : (f : ℕ → Float) (n : ℕ) (out sums : List Float) → length out ≡ n → sums ≡ tabulate f n
    → map_first (λ j old. at sums j) n out ≡ tabulate f n
block_copied f n out sums l e =
    subst (λ (k : ℕ). map_first (λ j old. at sums j) k out ≡ sums) l
    (map_first_copy nan out sums (l ∙ sym (ap (λ (x : List Float). length x) e ∙ length_tabulate f n)))
    ∙ e

-- such sums, copied to where they lie in a row
pub sums_put : (f : ℕ → Float) (width offset : ℕ) (g g' sums : List Float) → offset + width ≤ length g → sums ≡ tabulate f width
    → g' ≡ put_block width offset (map_first (λ j old. at sums j) width (take width (drop offset g))) g
    → g' ≡ put_block width offset (tabulate f width) g
sums_put f width offset g g' sums h s e =
    e
    ∙ ap (λ (t : List Float). put_block width offset t g)
    (block_copied f width (take width (drop offset g)) sums (simp (length-take, length-drop) (omega arith)) s)

-- a list whose first elements are made by index
pub front_made : (f : ℕ → Float) (n : ℕ) (xs : List Float) → take n xs ≡ tabulate f n → xs ≡ over (tabulate f n) xs
front_made f n xs e = rw (length_tabulate f n, ← e) (sym (take-append-drop n xs))

-- the turn of a loop that has made the first n elements of g, which now is ys, by index, and writes a block of `width` elements that
-- starts among them and ends past them
block_put : (f : ℕ → Float) (offset d e : ℕ) (g ys : List Float) → ys ≡ over (tabulate f (offset + d)) g
    → put_block (d + e) offset (tabulate (λ j. f (offset + j)) (d + e)) ys ≡ over (tabulate f (offset + (d + e))) g
block_put f offset d e g ys h =
    let s : List Float = tabulate (λ j. f (offset + j)) d ++ drop (offset + d) g in
    let split : ys ≡ tabulate f offset ++ s =
    h ∙ rw (length_tabulate f (offset + d), tabulate_add f offset d) (append_assoc (tabulate f offset) (tabulate (λ j. f (offset + j)) d) (drop (offset + d) g)) in
    let front : take offset ys ≡ tabulate f offset = rw split (take_at (tabulate f offset) s offset (length_tabulate f offset)) in
    let back : drop offset ys ≡ s = rw split (drop_at (tabulate f offset) s offset (length_tabulate f offset)) in
    let rest : drop (d + e) s ≡ drop (offset + (d + e)) g =
    sym (drop-drop e d s)
    ∙ ap (drop e) (drop_at (tabulate (λ j. f (offset + j)) d) (drop (offset + d) g) d (length_tabulate (λ j. f (offset + j)) d))
    ∙ drop-drop e (offset + d) g
    ∙ ap (λ (k : ℕ). drop k g) (add_assoc offset d e) in
    rw (front, back, rest, length_tabulate f (offset + (d + e)), tabulate_add f offset (d + e))
    (sym (append_assoc (tabulate f offset) (tabulate (λ j. f (offset + j)) (d + e)) (drop (offset + (d + e)) g)))

pub block_next_put : (f : ℕ → Float) (n offset width : ℕ) (g ys : List Float) → offset ≤ n → n ≤ offset + width → ys ≡ over (tabulate f n) g
    → put_block width offset (tabulate (λ j. f (offset + j)) width) ys ≡ over (tabulate f (offset + width)) g
block_next_put f n offset width g ys h k e =
    let p : offset + (n - offset) ≡ n = omega arith in
    let q : (n - offset) + (offset + width - n) ≡ width = omega arith in
    subst (λ (w : ℕ). put_block w offset (tabulate (λ j. f (offset + j)) w) ys ≡ over (tabulate f (offset + w)) g) q
    (block_put f offset (n - offset) (offset + width - n) g ys (rw p e))

pub next_block : (first b width : ℕ) → first + (b + 1) * width ≡ first + b * width + width
next_block first b width = rw (add-one b, suc-mul b width) (omega arith)
