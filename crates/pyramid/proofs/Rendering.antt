-- A loop that writes a raster into a buffer, one row a turn: l became w, with j of `rows` rows of `columns` nodes written. Assumes nothing.
use mathlib.Core.Path.{◌≡◌, refl, sym, ap, ◌∙◌}
use mathlib.Core.List.{List}
use Prim.Native.Nat.{ℕ, ◌+◌, ◌*◌, ◌≤◌, ◌<◌}
use native.Mathlib.Nat.{mul-le-mul_right}
use native.Mathlib.Numerals.{add-one}
use native.Mathlib.Omega.{arith}
use lib.ListN.{length}
use Rattle.mathematics.specs.Inner.Splices.{splice, part}
use Rattle.mathematics.specs.Definitions.Tables.{tabulate}
use Rattle.mathematics.proofs.Tables.{length-tabulate}
use Rattle.mathematics.proofs.Splices.{splice_nil, length-splice, splice_append, part_after, part-before}
use Rattle.pyramid.specs.Definitions.Buffers.{raster}
use Rattle.pyramid.proofs.Buffers.{row_inside, length-raster}

module _ {A : Type 0} where
  pub record Rendering (at columns rows : ℕ) (f : ℕ → ℕ → A) (l w : List A) (j : ℕ) : Type 0 where
    pub bound : j ≤ rows
    pub long : length w ≡ length l
    pub is : w ≡ splice at (raster columns j f) l

  pub rendering_start : (at columns rows : ℕ) (f : ℕ → ℕ → A) (l : List A) → Rendering at columns rows f l l 0
  unfolding raster
  rendering_start at columns rows f l = record { bound = omega arith; long = refl; is = sym (splice_nil at l) }

  pub rendering_end : {at columns rows : ℕ} {f : ℕ → ℕ → A} {l w : List A} {j : ℕ} → Rendering at columns rows f l w j → rows ≤ j → w ≡ splice at (raster columns rows f) l
  rendering_end {at} {columns} {rows} {f} {l} {w} {j} r h = let e : j ≡ rows = omega arith in rw e at r.is

  module _ {at columns rows : ℕ} {f : ℕ → ℕ → A} {l w : List A} {j : ℕ} (r : Rendering at columns rows f l w j) (room : at + rows * columns ≤ length l) where
    long_rows : length (raster columns j f) ≡ j * columns
    long_rows = length-raster columns j f

    rows_room : at + length (raster columns j f) ≤ at + rows * columns
    rows_room = rw long_rows (omega (arith, mul-le-mul_right columns r.bound))

    pub rendering_next : {w' : List A} → w' ≡ splice (at + j * columns) (tabulate columns (λ i. f i j)) w → j < rows → Rendering at columns rows f l w' (j + 1)
    unfolding raster
    rendering_next {w'} e h =
        record {
          bound = omega arith;
          long = ap length e ∙ length-splice (at + j * columns) (tabulate columns (λ i. f i j)) w (rw (length-tabulate, r.long) (omega (arith, row_inside columns h))) ∙ r.long;
          is = rw (e, r.is, add-one) (rw long_rows at (splice_append at (raster columns j f) l (omega (arith, rows_room)) (tabulate columns (λ i. f i j))));
        }

    -- the same where the raster is the buffer's beginning
    pub rendering_row : {w' : List A} → at ≡ 0 → w' ≡ splice (j * columns) (tabulate columns (λ i. f i j)) w → j < rows → Rendering at columns rows f l w' (j + 1)
    rendering_row z e h = let p : at + j * columns ≡ j * columns = omega (arith, z) in rendering_next (e ∙ rw p) h

    -- what is not yet written
    pub rendering_rest : (f' t : ℕ) → at + j * columns ≤ f' → part f' t w ≡ part f' t l
    rendering_rest f' t k = rw r.is (part_after at (raster columns j f) l (omega (arith, rows_room)) f' t (omega (arith, long_rows)))

    pub rendering_before : (f' t : ℕ) → f' ≤ t → t ≤ at → part f' t w ≡ part f' t l
    rendering_before f' t k m = rw r.is (part-before at (raster columns j f) l (omega (arith, rows_room)) f' t k m)
