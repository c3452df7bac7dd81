-- The places of a block that are a window's: which they are, how many, and what stands there. Assumes nothing.
use mathlib.Core.Path.{◌≡◌, refl, sym, ◌∙◌, subst}
use mathlib.Core.Logic.{◌↔◌}
use mathlib.Core.Bool.{Bool, true, false, cond}
use Prim.Native.Nat.{ℕ, ◌+◌, ◌-◌, ◌*◌, ◌≤◌, ◌<◌, min}
use native.Mathlib.Nat.{suc-mul, add-zero}
use native.Mathlib.Numerals.{add-one}
use native.Mathlib.Decide.{dec_lt}
use native.Mathlib.Omega.{arith}
use lib.Ieee.Bits.{is_true}
use lib.Dec.{T, ltb, ltb→lt, lt→ltb}
use lib.ListN.{replicate}
use lib.IntN.{ℤ, pos, nat_abs, ◌+ℤ◌, ◌*ℤ◌}
use mir.Syntax.{w16, w32}
use mir.Val.{SFits}
use Rattle.mathematics.specs.Definitions.Tables.{tabulate}
use Rattle.mathematics.proofs.Tables.{tabulate-same, tabulate_constant}
use Rattle.mathematics.proofs.Held.{held, held_is, short, widened}
use Rattle.mathematics.proofs.IntegerLaws.{fits_by, abs_sum, abs_product, abs_of_fits}
use Rattle.pyramid.specs.Definitions.Sizes.{Level}
use Rattle.pyramid.specs.Definitions.Refusals.{limit}
use Rattle.pyramid.proofs.Buffers.{row_inside}
use Rattle.pyramid.specs.Inner.Rows.{Within}
use Rattle.pyramid.proofs.TapSums.{within_fits}
use Rattle.pyramid.proofs.Rules.{both_say}
use Rattle.pixel.specs.declared.axes.Axis.{Axis}
use Rattle.pixel.specs.Definitions.Windows.{range_at, inside, count}
use Rattle.pixel.specs.Inner.Axes.{AxisOf}
use Rattle.pixel.proofs.Ranges.{inside_is, first_is}
use Rattle.pixel.specs.Inner.Places.{holds, places, placed, block_of}

pub holds_is : (a : Axis) (m : ℕ) → T (holds a m) ↔ ((m < a.end) × (0 < a.next + m))
unfolding holds
holds_is a m = both_say (ltb m a.end) (ltb 0 (a.next + m)) (ltb→lt m a.end, lt→ltb m a.end) (ltb→lt 0 (a.next + m), lt→ltb 0 (a.next + m))

pub is_held : (a : Axis) (m : ℕ) → holds a m ≡ true → (m < a.end) × (0 < a.next + m)
is_held a m e = (holds_is a m).0 (subst T (sym e) tt)

pub not_held : (a : Axis) (m : ℕ) → holds a m ≡ false → ((m < a.end) × (0 < a.next + m)) → ⊥
not_held a m e h = subst T e ((holds_is a m).1 h)

-- the window's places among the first m

abbrev pub held_to : Axis → ℕ → ℕ
held_to a m = min m a.end - (1 - a.next)

pub held_start : (a : Axis) → 0 ≡ held_to a 0
held_start a = omega arith

pub held_more : (a : Axis) (m : ℕ) → holds a m ≡ true → held_to a m + 1 ≡ held_to a (m + 1)
held_more a m e = let (before, some) = is_held a m e in omega arith

pub held-same : (a : Axis) (m : ℕ) → holds a m ≡ false → held_to a m ≡ held_to a (m + 1)
held-same a m e = cases (dec_lt m a.end) (dec_lt 0 (a.next + m))
  where
    cases : Dec (m < a.end) → Dec (0 < a.next + m) → held_to a m ≡ held_to a (m + 1)
    cases (yes h) (yes k) = absurd (not_held a m e (h, k))
    cases (yes h) (no k) = omega arith
    cases (no h) d = omega arith

pub held_all : (a : Axis) (m : ℕ) → 4 ≤ m → held_to a m ≡ places a
unfolding places
held_all a m h = let (_, few, _, _) = a.fits in omega arith

pub held_most : (a : Axis) (m : ℕ) → held_to a m ≤ 4
held_most a m = let (_, few, _, _) = a.fits in omega arith

pub places_most : (a : Axis) → places a ≤ 4
unfolding places
places_most a = let (_, few, _, _) = a.fits in omega arith

-- a row more of so many, where it is the window's
pub held_rows : (a : Axis) (n width : ℕ) → held_to a n * width + cond (holds a n) width 0 ≡ held_to a (n + 1) * width
held_rows a n width = cases (holds a n) refl
  where
    cases : (b : Bool) → holds a n ≡ b → held_to a n * width + cond (holds a n) width 0 ≡ held_to a (n + 1) * width
    cases true e = rw (e, ← held_more a n e, add-one (held_to a n)) (sym (suc-mul (held_to a n) width))
    cases false e = rw (e, ← held-same a n e) (add-zero (held_to a n * width))

-- what stands at a place

pub placed_there : (a : Axis) (f : ℕ → ℤ) (m : ℕ) → holds a m ≡ true → placed a f m ≡ f (a.next + m - 1)
unfolding placed
placed_there a f m e = rw e

pub placed_not : (a : Axis) (f : ℕ → ℤ) (m : ℕ) → holds a m ≡ false → placed a f m ≡ pos 0
unfolding placed
placed_not a f m e = rw e

-- it is a column of the level
pub column_there : (a : Axis) (m : ℕ) → holds a m ≡ true → a.next + m - 1 < a.z + 1
column_there a m e =
    let (before, some) = is_held a m e in
    let (_, _, _, inside) = a.fits in
    omega arith

pub placed-same : (a : Axis) (f g : ℕ → ℤ) → ((i : ℕ) → i < a.z + 1 → f i ≡ g i) → (m : ℕ) → placed a f m ≡ placed a g m
placed-same a f g same m = cases (holds a m) refl
  where
    cases : (b : Bool) → holds a m ≡ b → placed a f m ≡ placed a g m
    cases true e = placed_there a f m e ∙ same (a.next + m - 1) (column_there a m e) ∙ sym (placed_there a g m e)
    cases false e = placed_not a f m e ∙ sym (placed_not a g m e)

module _ (columns rows : Axis) (f : Level) (n : ℕ) where
  -- a row that is not the window's
  pub row_not : holds rows n ≡ false → replicate 4 (pos 0) ≡ tabulate 4 (λ m. block_of columns rows f m n)
  unfolding block_of
  row_not e = sym (tabulate_constant 4 (pos 0)) ∙ tabulate-same 4 _ _ (λ m h. sym (placed_not rows (λ j. placed columns (λ i. f i j) m) n e))

  -- and one that is
  pub row_there : holds rows n ≡ true → (g : ℕ → ℤ) → ((i : ℕ) → i < columns.z + 1 → g i ≡ f i (rows.next + n - 1))
      → tabulate 4 (placed columns g) ≡ tabulate 4 (λ m. block_of columns rows f m n)
  unfolding block_of
  row_there e g same =
      tabulate-same 4 _ _ (λ m h. placed-same columns g (λ i. f i (rows.next + n - 1)) same m
      ∙ sym (placed_there rows (λ j. placed columns (λ i. f i j) m) n e))

  -- where it stands in the level
  pub row_room : holds rows n ≡ true → (rows.next + n - 1) * (columns.z + 1) + (columns.z + 1) ≤ (rows.z + 1) * (columns.z + 1)
  row_room e = row_inside (columns.z + 1) (column_there rows n e)

-- the value of an index of 16 bits, as it is formed of what is read and of the bin

module _ {x : ℤ} (fits : SFits w16 x) {n : ℕ} (few : n ≤ 255) {f g : ℤ} (ef : f ≡ short x) (eg : g ≡ pos n) where
  small : nat_abs (x *ℤ pos n) ≤ 8355840
  small = abs_product 32768 255 x (pos n) (abs_of_fits w16 x fits) few

  pub formed : held f *ℤ held g ≡ x *ℤ pos n
  formed = rw (ef, eg, widened fits, held_is (fits_by w32 255 {z = pos n} tt few)) refl

  pub value_formed : held (held f *ℤ held g) ≡ x *ℤ pos n
  value_formed = rw formed (held_is (fits_by w32 8355840 tt small))

-- of the window of column (row) p at level l

module _ {side p l : ℕ} {a : Axis} (here : p < side) (of : AxisOf side p l a) where
  pub place_of : (i : ℕ) → T (inside (range_at side p l) i) → holds a (i + 1 - a.next) ≡ true
  place_of i held =
      let (low, high) = (inside_is (range_at side p l) i).0 held in
      is_true _ ((holds_is a (i + 1 - a.next)).1 (omega (arith, of.end_is, of.next_is, first_is side p here l), omega arith))

  pub place_back : (i : ℕ) → T (inside (range_at side p l) i) → a.next + (i + 1 - a.next) - 1 ≡ i
  place_back i held =
      let (low, high) = (inside_is (range_at side p l) i).0 held in
      omega (arith, of.next_is, first_is side p here l)

  pub column_of : (m : ℕ) → holds a m ≡ true → T (inside (range_at side p l) (a.next + m - 1))
  column_of m e =
      let (before, some) = is_held a m e in
      (inside_is (range_at side p l) (a.next + m - 1)).1 (omega (arith, of.next_is, first_is side p here l), omega (arith, of.end_is))

  pub places_are : places a ≡ count (range_at side p l)
  unfolding places count
  places_are = omega (arith, of.next_is, of.end_is, first_is side p here l)

-- a value and what is predicted for it

module _ {x y : ℤ} (hx : Within limit x) (hy : Within 2097152 y) where
  pub whole : held x +ℤ held y ≡ x +ℤ y
  whole = rw (held_is (within_fits tt hx), held_is (within_fits tt hy)) refl

  pub sum_fits : SFits w32 (held x +ℤ held y)
  sum_fits = rw whole (fits_by w32 2101248 tt (abs_sum 4096 2097152 x y hx.small hy.small))

  pub sum_held : held (held x +ℤ held y) ≡ x +ℤ y
  sum_held = held_is sum_fits ∙ whole
