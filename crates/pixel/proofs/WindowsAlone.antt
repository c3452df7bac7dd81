-- What is rebuilt in a window depends on the indices in it and in those above it alone; and the level buffer with 0 outside the windows.
-- Assumes nothing.
use mathlib.Core.Path.{◌≡◌, refl, sym, ap, ◌∙◌, subst}
use mathlib.Core.Logic.{◌↔◌}
use mathlib.Core.Bool.{Bool, true, false}
use mathlib.Core.List.{List, [], append-nil}
use Prim.Native.Nat.{ℕ, zero, suc, ◌+◌, ◌≤◌, ◌<◌}
use native.Mathlib.Omega.{arith}
use lib.Ieee.Bits.{is_true}
use lib.Dec.{T}
use lib.IntN.{ℤ, pos, nat_abs}
use Rattle.pyramid.specs.declared.Settings.{Settings}
use Rattle.pyramid.specs.Definitions.Sizes.{Level, last, columns_at, rows_at}
use Rattle.pyramid.specs.Definitions.Pyramid.{expanded}
use Rattle.pyramid.specs.Definitions.Rebuilding.{value_of, rebuilt}
use Rattle.pyramid.specs.Definitions.Buffers.{read_levels}
use Rattle.pyramid.specs.Definitions.Refusals.{limit, values_ok}
use Rattle.pyramid.specs.Inner.Lawful.{Lawful}
use Rattle.pyramid.proofs.Buffers.{read_stack}
use Rattle.pyramid.proofs.RuleTests.{values_within}
use Rattle.pyramid.proofs.NodesRead.{expand_only}
use Rattle.pyramid.proofs.RebuiltValues.{value-is, rebuilt_top, rebuilt_below}
use Rattle.pixel.specs.Definitions.Windows.{in_window}
use Rattle.pixel.specs.Definitions.Pixel.{window_index, windows_alone}
use Rattle.pixel.specs.Inner.Reading.{LawfulFrom}
use Rattle.pixel.proofs.StepsDown.{column_held}
use Rattle.pixel.proofs.Predictions.{held_both, both_held, pixel_held}
use Rattle.pixel.proofs.Readings.{column_inside}

module _ (s : Settings) (column row : ℕ) where
  -- ---- the level buffer with 0 outside

  module _ (levels : List ℤ) (l i j : ℕ) where
    pub in_index : T (in_window s column row l i j) → window_index s column row levels l i j ≡ read_levels s levels l i j
    unfolding window_index
    in_index held = rw (is_true (in_window s column row l i j) held)

    pub out_index : in_window s column row l i j ≡ false → window_index s column row levels l i j ≡ pos 0
    unfolding window_index
    out_index e = rw e

    pub alone_read : l ≤ s.depth → i < columns_at s l → j < rows_at s l
        → read_levels s (windows_alone s column row levels) l i j ≡ window_index s column row levels l i j
    alone_read hl hi hj = rw append-nil at (read_stack s (window_index s column row levels) l i j [] hl hi hj)

  -- ---- of a pixel inside the picture

  module _ (in_columns : column < s.columns) (in_rows : row < s.rows) where
    pub node_inside : (l i j : ℕ) → T (in_window s column row l i j) → (i < columns_at s l) × (j < rows_at s l)
    node_inside l i j held =
        let (hi, hj) = held_both s column row l i j held in
        (column_inside s.columns column in_columns l i hi, column_inside s.rows row in_rows l j hj)

    pub alone_same : (levels : List ℤ) (l i j : ℕ) → l ≤ s.depth → T (in_window s column row l i j)
        → read_levels s (windows_alone s column row levels) l i j ≡ read_levels s levels l i j
    alone_same levels l i j hl held =
        let (hi, hj) = node_inside l i j held in
        alone_read levels l i j hl hi hj ∙ in_index levels l i j held

    -- the indices in the windows are lawful where all are, of the buffer with 0 outside
    pub alone_lawful : (levels : List ℤ) → T (values_ok s (windows_alone s column row levels)) ↔ LawfulFrom s column row levels 0
    alone_lawful levels = (
      λ t k i j hl hk held.
          let (hi, hj) = node_inside k i j held in
          subst (λ (m : ℤ). nat_abs (value_of s k m) ≤ limit) (alone_same levels k i j hk held) ((values_within s (windows_alone s column row levels)).0 t k i j hk hi hj),
      λ lawful. (values_within s (windows_alone s column row levels)).1
          (λ l i j hl hi hj. subst (λ (m : ℤ). nat_abs (value_of s l m) ≤ limit) (sym (alone_read levels l i j hl hi hj)) (each lawful l i j hl (in_window s column row l i j) refl)),
    )
      where
        each : LawfulFrom s column row levels 0 → (l i j : ℕ) → l ≤ s.depth → (b : Bool) → in_window s column row l i j ≡ b
            → nat_abs (value_of s l (window_index s column row levels l i j)) ≤ limit
        each lawful l i j hl true e =
            let held : T (in_window s column row l i j) = subst T (sym e) tt in
            rw (in_index levels l i j held) (lawful l i j (omega arith) hl held)
        each lawful l i j hl false e = rw (out_index levels l i j e, value-is s l (pos 0)) (omega arith)

    -- ---- what is rebuilt

    module _ (law : Lawful s) (m h : ℕ → Level) (same : (l i j : ℕ) → l ≤ s.depth → T (in_window s column row l i j) → m l i j ≡ h l i j) where
      expanded_same : (l : ℕ) → suc l ≤ s.depth → (u v : Level) → ((x y : ℕ) → T (in_window s column row (suc l) x y) → u x y ≡ v x y)
          → (i j : ℕ) → T (in_window s column row l i j) → expanded s l u i j ≡ expanded s l v i j
      expanded_same l deep u v agree i j held =
          let (hi, hj) = held_both s column row l i j held in
          expand_only s.kernel (last s.columns (suc l)) (last s.rows (suc l)) u v i j
          (λ t n ht hn even odd. agree _ _
          (both_held s column row (suc l) _ _ (column_held law.shaped.across in_columns l deep i t hi ht even) (column_held law.shaped.along in_rows l deep j n hj hn odd)))

      pub rebuilt_same : (d l : ℕ) → l + d ≡ s.depth → (i j : ℕ) → T (in_window s column row l i j) → rebuilt s m l i j ≡ rebuilt s h l i j
      rebuilt_same zero l e i j held =
          rebuilt_top s m l (omega arith) i j ∙ ap (value_of s l) (same l i j (omega arith) held) ∙ sym (rebuilt_top s h l (omega arith) i j)
      rebuilt_same (suc d) l e i j held =
          rebuilt_below s m l (omega arith) i j
          ∙ rw (same l i j (omega arith) held, expanded_same l (omega arith) (rebuilt s m (suc l)) (rebuilt s h (suc l)) (rebuilt_same d (suc l) (omega arith)) i j held)
          (sym (rebuilt_below s h l (omega arith) i j))

    -- the pixel of the buffer with 0 outside
    pub pixel_same : Lawful s → (levels : List ℤ) → rebuilt s (read_levels s (windows_alone s column row levels)) 0 column row ≡ rebuilt s (read_levels s levels) 0 column row
    pixel_same law levels =
        rebuilt_same law (read_levels s (windows_alone s column row levels)) (read_levels s levels) (alone_same levels) s.depth 0 (omega arith) column row (pixel_held s column row)
