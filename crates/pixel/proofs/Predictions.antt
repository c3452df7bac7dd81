-- What a window is predicted to be: 0 at the top, and below it EXPAND of the rebuilt values in the window above. Assumes nothing.
use mathlib.Core.Path.{◌≡◌, sym, ap, ◌∙◌}
use mathlib.Core.List.{List}
use Prim.Native.Nat.{ℕ, zero, suc, ◌+◌, ◌-◌, ◌*◌, ◌/◌, ◌^◌, ◌≤◌, ◌<◌}
use native.Mathlib.Nat.{div-one}
use native.Mathlib.Omega.{arith}
use lib.Dec.{T}
use lib.IntN.{ℤ, pos, ◌+ℤ◌, ◌*ℤ◌, +ℤ_idr}
use lib.ListN.{get_or, replicate}
use Rattle.mathematics.specs.Definitions.Sums.{sum}
use Rattle.mathematics.proofs.Tests.{both, both_of}
use Rattle.mathematics.proofs.Each.{each_replicate}
use Rattle.quantizer.specs.Definitions.Rounding.{round_div}
use Rattle.pyramid.specs.declared.Settings.{Settings}
use Rattle.pyramid.specs.Definitions.Sizes.{Level, last}
use Rattle.pyramid.specs.Definitions.Pyramid.{expanded}
use Rattle.pyramid.specs.Definitions.Edge.{reflect}
use Rattle.pyramid.specs.Definitions.Steps.{even_weight, halved}
use Rattle.pyramid.specs.Definitions.Rebuilding.{value_of, rebuilt}
use Rattle.pyramid.specs.Definitions.Buffers.{raster, read_levels}
use Rattle.pyramid.specs.Inner.Lawful.{Lawful}
use Rattle.pyramid.specs.Inner.Ranges.{height}
use Rattle.pyramid.specs.Inner.Rows.{as_level}
use Rattle.pyramid.proofs.Ranges.{height_room}
use Rattle.pyramid.proofs.Buffers.{raster_at}
use Rattle.pyramid.proofs.SmallBuffers.{small-raster}
use Rattle.pyramid.proofs.NodesRead.{expand_rows}
use Rattle.pyramid.proofs.RebuiltValues.{rebuilt_top, rebuilt_below}
use Rattle.pixel.specs.declared.axes.Step.{Step}
use Rattle.pixel.specs.Definitions.Windows.{inside, range_at, columns_read, rows_read, in_window}
use Rattle.pixel.specs.Inner.Axes.{StepOf}
use Rattle.pixel.specs.Inner.Blocks.{row_sums, block_sum}
use Rattle.pixel.specs.Inner.Reading.{predicted_height, entry, Above, Predicted, PixelPredicted}
use Rattle.pixel.proofs.Ranges.{inside_is, last_near}
use Rattle.pixel.proofs.Blocks.{block_within, rounded_within}
use Rattle.pixel.proofs.StepsDown.{line_is}

-- ---- a node of a window, along each axis

module _ (s : Settings) (column row l i j : ℕ) where
  pub held_both : T (in_window s column row l i j) → T (inside (columns_read s column row l) i) × T (inside (rows_read s column row l) j)
  unfolding in_window
  held_both = both (inside (columns_read s column row l) i) (inside (rows_read s column row l) j)

  pub both_held : T (inside (columns_read s column row l) i) → T (inside (rows_read s column row l) j) → T (in_window s column row l i j)
  unfolding in_window
  both_held = both_of (inside (columns_read s column row l) i) (inside (rows_read s column row l) j)

-- it stands in one of the four places
pub place_held : (side p l i : ℕ) → T (inside (range_at side p l) i) → i + 1 - (p + 1) / 2 ^ l < 4
place_held side p l i held = let (_, high) = (inside_is (range_at side p l) i).0 held in omega (arith, high, last_near side p l)

module _ (s : Settings) (column row : ℕ) where
  -- ---- at the top

  zeros : (p : ℕ) → get_or (replicate 16 (pos 0)) p (pos 0) ≡ pos 0
  zeros = each_replicate (λ x. x ≡ pos 0) (pos 0) (λ i. pos 0) 16 (pos 0) (λ i. pos 0)

  pub top_predicted : (l : ℕ) → l ≡ s.depth → (levels : List ℤ) → Predicted s column row levels l (replicate 16 (pos 0))
  unfolding entry as_level
  top_predicted l top levels = record {
    small = λ p. record { small = rw (zeros p) (omega arith) };
    is = λ i j held. rw (zeros _) (+ℤ_idr (value_of s l (read_levels s levels l i j)) ∙ sym (rebuilt_top s (read_levels s levels) l top i j));
  }

  -- ---- below it

  module _ (law : Lawful s) (in_columns : column < s.columns) (in_rows : row < s.rows) (l : ℕ) (deep : suc l ≤ s.depth) {columns rows : Step}
      (across : StepOf s.columns column l columns) (along : StepOf s.rows row l rows) where
    -- the sums of a block that holds the nodes of a level that are in the window above
    block_is : (values : List ℤ) (g : Level) → ((x y : ℕ) → T (in_window s column row (suc l) x y) → entry s column row (suc l) values x y ≡ g x y)
        → (i j : ℕ) → T (in_window s column row l i j)
        → round_div (block_sum s.kernel columns rows values (i + 1 - (column + 1) / 2 ^ l) (j + 1 - (row + 1) / 2 ^ l)) 100 ≡ expanded s l g i j
    unfolding block_sum row_sums entry
    block_is values g same i j held =
        let (hi, hj) = held_both s column row l i j held in
        ap (λ (S : ℤ). round_div S 100)
        (line_is law.shaped.along in_rows l deep rows along s.kernel
        (λ y. row_sums s.kernel columns values y (i + 1 - (column + 1) / 2 ^ l))
        (λ y. sum 5 (λ t. even_weight s.kernel i t *ℤ g (reflect (last s.columns (suc l)) (halved i t)) y))
        (λ y hy. line_is law.shaped.across in_columns l deep columns across s.kernel
        (λ x. as_level 4 values x (y + 1 - (row + 1) / 2 ^ suc l)) (λ x. g x y)
        (λ x hx. same x y (both_held s column row (suc l) x y hx hy)) i hi)
        j hj)
        ∙ sym (expand_rows s.kernel (last s.columns (suc l)) (last s.rows (suc l)) g i j)

    pub below_predicted : {values result : List ℤ} → result ≡ raster 4 4 (λ m n. round_div (block_sum s.kernel columns rows values m n) 100)
        → (levels : List ℤ) {read place : ℕ} → Above s column row levels l read place values → Predicted s column row levels l result
    unfolding entry as_level predicted_height
    below_predicted {values} made levels above =
        let d : s.depth - l ≡ suc (s.depth - suc l) = omega arith in
        record {
          small =
              rw (made, d)
              (small-raster 4 4 _ (omega arith) (λ m n hm hn. rounded_within (height (s.depth - suc l))
              (block_within law.shaped.kernel columns rows (height (s.depth - suc l)) values (above.small deep) m n)));
          is = λ i j held.
              let (hi, hj) = held_both s column row l i j held in
              ap (λ (v : ℤ). value_of s l (read_levels s levels l i j) +ℤ v)
              (ap (λ (r : List ℤ). get_or r ((j + 1 - (row + 1) / 2 ^ l) * 4 + (i + 1 - (column + 1) / 2 ^ l)) (pos 0)) made
              ∙ raster_at 4 4 _ (pos 0) (i + 1 - (column + 1) / 2 ^ l) (j + 1 - (row + 1) / 2 ^ l) (place_held s.columns column l i hi) (place_held s.rows row l j hj)
              ∙ block_is values (rebuilt s (read_levels s levels) (suc l)) (above.is deep) i j held)
              ∙ sym (rebuilt_below s (read_levels s levels) l deep i j);
        }

-- ---- of the pixel alone

module _ (s : Settings) (column row : ℕ) where
  pub pixel_held : T (in_window s column row 0 column row)
  unfolding range_at
  pixel_held =
      both_held s column row 0 column row ((inside_is (range_at s.columns column 0) column).1 (omega arith, omega arith))
      ((inside_is (range_at s.rows row 0) row).1 (omega arith, omega arith))

  pub pixel_top : 0 ≡ s.depth → (levels : List ℤ) → PixelPredicted s column row levels (pos 0)
  pixel_top top levels = record {
    small = record { small = omega arith };
    is = +ℤ_idr (value_of s 0 (read_levels s levels 0 column row)) ∙ sym (rebuilt_top s (read_levels s levels) 0 top column row);
  }

  module _ (law : Lawful s) (in_columns : column < s.columns) (in_rows : row < s.rows) (deep : 1 ≤ s.depth) {columns rows : Step}
      (across : StepOf s.columns column 0 columns) (along : StepOf s.rows row 0 rows) where
    pub pixel_below : {values : List ℤ} {value : ℤ} → value ≡ round_div (block_sum s.kernel columns rows values 0 0) 100
        → (levels : List ℤ) {read place : ℕ} → Above s column row levels 0 read place values → PixelPredicted s column row levels value
    unfolding predicted_height
    pixel_below {values} made levels above =
        let d : s.depth ≡ suc (s.depth - 1) = omega arith in
        let first : column + 1 - (column + 1) / 1 ≡ 0 = omega (arith, div-one (column + 1)) in
        let second : row + 1 - (row + 1) / 1 ≡ 0 = omega (arith, div-one (row + 1)) in
        record {
          small =
              rw (made, d)
              (rounded_within (height (s.depth - 1)) (block_within law.shaped.kernel columns rows (height (s.depth - 1)) values (above.small deep) 0 0));
          is =
              ap (λ (v : ℤ). value_of s 0 (read_levels s levels 0 column row) +ℤ v)
              (made ∙ rw (first, second) at (block_is s column row law in_columns in_rows 0 deep across along values (rebuilt s (read_levels s levels) 1) (above.is deep) column row pixel_held))
              ∙ sym (rebuilt_below s (read_levels s levels) 0 deep column row);
        }

-- how far from 0 it is, of at most seven levels
pub prediction_most : (d : ℕ) → d ≤ 6 → predicted_height d ≤ 2097152
unfolding predicted_height
prediction_most zero h = omega arith
prediction_most (suc d) h = omega (arith, height_room d (omega arith))
