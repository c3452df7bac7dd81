-- A window that is read: its block, the test of its values, and what is then known of it and of those above it. Assumes nothing.
use mathlib.Core.Path.{◌≡◌, refl, sym, ap, ◌∙◌, subst}
use mathlib.Core.Bool.{Bool, true, false}
use mathlib.Core.List.{List}
use Prim.Native.Nat.{ℕ, zero, suc, ◌+◌, ◌-◌, ◌*◌, ◌/◌, ◌^◌, ◌≤◌, ◌<◌}
use native.Mathlib.Decide.{ℕ_discrete}
use native.Mathlib.Nat.{zero-add}
use native.Mathlib.Omega.{arith}
use lib.Dec.{T, leb, leb→le, le→leb}
use lib.IntN.{ℤ, pos, nat_abs, ◌+ℤ◌, ◌*ℤ◌}
use lib.ListN.{length, get_or}
use Rattle.std.specs.Prelude.{Option, Some}
use Rattle.mathematics.specs.Inner.Splices.{part}
use Rattle.mathematics.specs.Definitions.Tables.{tabulate}
use Rattle.mathematics.specs.Definitions.Tests.{all}
use Rattle.mathematics.proofs.IntegerLaws.{abs_sum}
use Rattle.mathematics.proofs.Tables.{length-tabulate, get_or-tabulate}
use Rattle.pyramid.specs.declared.Settings.{Settings}
use Rattle.pyramid.specs.Definitions.Settings.{bin}
use Rattle.pyramid.specs.Definitions.Sizes.{Level, last, columns_at, rows_at, nodes_at, total}
use Rattle.pyramid.specs.Definitions.Rebuilding.{value_of}
use Rattle.pyramid.specs.Definitions.Buffers.{raster, start, read_levels}
use Rattle.pyramid.specs.Definitions.Refusals.{limit}
use Rattle.pyramid.specs.Inner.Ranges.{height}
use Rattle.pyramid.specs.Inner.Rows.{as_level, Small}
use Rattle.pyramid.proofs.Buffers.{raster_at, raster-all, all-raster, all_at}
use Rattle.pyramid.proofs.LevelParts.{level_there, level_inside, start_top, start-next}
use Rattle.pyramid.proofs.SmallBuffers.{small-tabulate}
use Rattle.pyramid.proofs.RebuiltValues.{value-is}
use Rattle.pixel.specs.declared.axes.Axis.{Axis}
use Rattle.pixel.specs.Definitions.Windows.{range_at, inside, in_window, window_nodes, nodes_read}
use Rattle.pixel.specs.Inner.Axes.{AxisOf}
use Rattle.pixel.specs.Inner.Places.{holds, places, placed, block_of}
use Rattle.pixel.specs.Inner.Reading.{predicted_height, entry, LawfulFrom, Above, Predicted}
use Rattle.pixel.proofs.Ranges.{inside_is, range_most}
use Rattle.pixel.proofs.PlacesHeld.{placed_there, placed_not, column_there, place_of, place_back, column_of, places_are}
use Rattle.pixel.proofs.Predictions.{held_both, both_held, place_held}

-- a column (row) of a window is one of the level
pub column_inside : (side p : ℕ) → p < side → (l i : ℕ) → T (inside (range_at side p l) i) → i < last side l + 1
column_inside side p here l i held = let (_, high) = (inside_is (range_at side p l) i).0 held in omega (arith, range_most side p here l)

-- a value that is answered
pub some_same : {A : Type 0} {x y : A} → let X : Option A = Some x in X ≡ Some y → x ≡ y
some_same e = cc

height-is : (d : ℕ) → limit + predicted_height d ≡ height d
unfolding predicted_height height
height-is zero = refl
height-is (suc d) = refl

-- ---- before any level was read

pub above_top : (s : Settings) (column row : ℕ) (levels values : List ℤ) → Above s column row levels s.depth 0 0 values
above_top s column row levels values = record {
  place_is = sym (start_top s);
  lawful = λ k i j hl hk held. absurd (omega arith);
  counted = rw zero-add;
  small = λ h. absurd (omega arith);
  is = λ h. absurd (omega arith);
}

module _ (s : Settings) (column row : ℕ) (in_columns : column < s.columns) (in_rows : row < s.rows) (levels : List ℤ) (filled : length levels ≡ total s) (l : ℕ)
    (deep : l ≤ s.depth) {columns rows : Axis} (across : AxisOf s.columns column l columns) (along : AxisOf s.rows row l rows) where
  pub nodes_are : (rows.z + 1) * (columns.z + 1) ≡ nodes_at s l
  nodes_are = rw (across.z_is, along.z_is) refl

  pub level_room : start s l + nodes_at s l ≤ length levels
  level_room = omega (arith, filled, level_inside s l deep)

  -- ---- the block of a part of the level buffer

  module _ {part_of : List ℤ} (is : part_of ≡ part (start s l) (start s l + nodes_at s l) levels) {n : ℕ} (bin_is : n ≡ bin s l) where
    abbrev values : Level
    values i j = as_level (columns.z + 1) part_of i j *ℤ pos n

    node : (i j : ℕ) → i < columns_at s l → j < rows_at s l → values i j ≡ value_of s l (read_levels s levels l i j)
    unfolding as_level
    node i j hi hj =
        rw (is, across.z_is, bin_is, level_there s levels l level_room)
        (ap (λ (v : ℤ). v *ℤ pos (bin s l)) (raster_at (columns_at s l) (rows_at s l) (read_levels s levels l) (pos 0) i j hi hj)
        ∙ sym (value-is s l (read_levels s levels l i j)))

    abbrev own : Level
    own = block_of columns rows values

    own_there : (m k : ℕ) → holds columns m ≡ true → holds rows k ≡ true
        → own m k ≡ value_of s l (read_levels s levels l (columns.next + m - 1) (rows.next + k - 1))
    unfolding block_of
    own_there m k hm hk =
        placed_there rows (λ j. placed columns (λ i. values i j) m) k hk
        ∙ placed_there columns (λ i. values i (rows.next + k - 1)) m hm
        ∙ node (columns.next + m - 1) (rows.next + k - 1) (omega (arith, column_there columns m hm, across.z_is)) (omega (arith, column_there rows k hk, along.z_is))

    own_not : (m k : ℕ) → holds rows k ≡ false → own m k ≡ pos 0
    unfolding block_of
    own_not m k hk = placed_not rows (λ j. placed columns (λ i. values i j) m) k hk

    own_neither : (m k : ℕ) → holds rows k ≡ true → holds columns m ≡ false → own m k ≡ pos 0
    unfolding block_of
    own_neither m k hk hm =
        placed_there rows (λ j. placed columns (λ i. values i j) m) k hk ∙ placed_not columns (λ i. values i (rows.next + k - 1)) m hm

    -- where a node of the window stands in it
    own_at : (i j : ℕ) → T (in_window s column row l i j) → own (i + 1 - columns.next) (j + 1 - rows.next) ≡ value_of s l (read_levels s levels l i j)
    own_at i j held =
        let (hi, hj) = held_both s column row l i j held in
        own_there (i + 1 - columns.next) (j + 1 - rows.next) (place_of in_columns across i hi) (place_of in_rows along j hj)
        ∙ ap (λ (x : ℕ). value_of s l (read_levels s levels l x (rows.next + (j + 1 - rows.next) - 1))) (place_back in_columns across i hi)
        ∙ ap (λ (y : ℕ). value_of s l (read_levels s levels l i y)) (place_back in_rows along j hj)

    -- ---- the test of the values

    module _ {block : List ℤ} (made : block ≡ raster 4 4 own) where
      abbrev test : ℤ → Bool
      test v = leb (nat_abs v) limit

      place_four : (i j : ℕ) → T (in_window s column row l i j) → (i + 1 - columns.next < 4) × (j + 1 - rows.next < 4)
      place_four i j held =
          let (hi, hj) = held_both s column row l i j held in (
            omega (arith, across.next_is, place_held s.columns column l i hi),
            omega (arith, along.next_is, place_held s.rows row l j hj),
          )

      pub passes : all test block ≡ true → (i j : ℕ) → T (in_window s column row l i j) → nat_abs (value_of s l (read_levels s levels l i j)) ≤ limit
      passes e i j held =
          let (m, k) = place_four i j held in
          rw (own_at i j held) at
          (leb→le _ limit (raster-all test 4 4 own (subst (λ (b : List ℤ). T (all test b)) made (subst T (sym e) tt)) (i + 1 - columns.next) (j + 1 - rows.next) m k))

      within : ((i j : ℕ) → T (in_window s column row l i j) → nat_abs (value_of s l (read_levels s levels l i j)) ≤ limit) → (m k : ℕ) → nat_abs (own m k) ≤ limit
      within lawful m k = by_row (holds rows k) refl
        where
          by_column : (b : Bool) → holds columns m ≡ b → holds rows k ≡ true → nat_abs (own m k) ≤ limit
          by_column true hm hk =
              rw (own_there m k hm hk)
              (lawful (columns.next + m - 1) (rows.next + k - 1) (both_held s column row l _ _ (column_of in_columns across m hm) (column_of in_rows along k hk)))
          by_column false hm hk = rw (own_neither m k hk hm) (omega arith)

          by_row : (b : Bool) → holds rows k ≡ b → nat_abs (own m k) ≤ limit
          by_row true hk = by_column (holds columns m) refl hk
          by_row false hk = rw (own_not m k hk) (omega arith)

      pub fails : all test block ≡ false → LawfulFrom s column row levels l → ⊥
      fails e lawful =
          subst T e (subst (λ (b : List ℤ). T (all test b)) (sym made)
          (all-raster test 4 4 own (λ m k hm hk. le→leb _ limit (within (λ i j held. lawful l i j (omega arith) deep held) m k))))

      pub block-small : all test block ≡ true → Small limit block
      block-small e p = record { small = leb→le _ limit (all_at test (pos 0) tt block (subst T (sym e) tt) p) }

      -- ---- the window with what is predicted for it, and those above it

      module _ {read before : ℕ} {upper prediction new : List ℤ} (above : Above s column row levels l read before upper) (predicted : Predicted s column row levels l prediction)
          (long : length new ≡ 16) (added : new ≡ tabulate (length prediction) (λ p. get_or block p (pos 0) +ℤ get_or prediction p (pos 0))) (ok : all test block ≡ true) where
        sixteen : length prediction ≡ 16
        sixteen = sym (ap length added ∙ length-tabulate (length prediction) _) ∙ long

        new_at : (i j : ℕ) → T (in_window s column row l i j) → entry s column row l new i j ≡ value_of s l (read_levels s levels l i j) +ℤ entry s column row l prediction i j
        unfolding entry as_level
        new_at i j held =
            let (m, k) = place_four i j held in
            let p : ℕ = (j + 1 - (row + 1) / 2 ^ l) * 4 + (i + 1 - (column + 1) / 2 ^ l) in
            rw added
            (get_or-tabulate (length prediction) _ (pos 0) p (omega (arith, sixteen, m, k, across.next_is, along.next_is))
            ∙ ap (λ (v : ℤ). v +ℤ get_or prediction p (pos 0))
            (rw (made, ← across.next_is, ← along.next_is)
            (raster_at 4 4 own (pos 0) (i + 1 - columns.next) (j + 1 - rows.next) m k ∙ own_at i j held)))

        new_small : Small (height (s.depth - l)) new
        new_small =
            rw (added, ← height-is (s.depth - l))
            (small-tabulate (length prediction) _ (λ p h. record {
              small = abs_sum limit (predicted_height (s.depth - l)) (get_or block p (pos 0)) (get_or prediction p (pos 0)) (block-small ok p).small (predicted.small p).small;
            }))

        lawful_from : LawfulFrom s column row levels l
        lawful_from k i j hl hk held = cases (ℕ_discrete l k)
          where
            cases : Dec (l ≡ k) → nat_abs (value_of s k (read_levels s levels k i j)) ≤ limit
            cases (yes e) = subst (λ (k : ℕ). T (in_window s column row k i j) → nat_abs (value_of s k (read_levels s levels k i j)) ≤ limit) e (passes ok i j) held
            cases (no other) = above.lawful k i j (omega (arith, other)) hk held

        nodes_next : (m : ℕ) → suc m ≡ l → nodes_read s column row l ≡ window_nodes s column row l + nodes_read s column row m
        unfolding nodes_read
        nodes_next m e = rw (← e) refl

        windowed : places rows * places columns ≡ window_nodes s column row l
        windowed = rw (places_are in_columns across, places_are in_rows along) refl

        pub read_more : (m : ℕ) → suc m ≡ l → read + places rows * places columns + nodes_read s column row m ≡ nodes_read s column row s.depth
        read_more m e = omega (arith, windowed, nodes_next m e, above.counted)

        pub next_above : (m : ℕ) → suc m ≡ l → Above s column row levels m (read + places rows * places columns) (before + (rows.z + 1) * (columns.z + 1)) new
        next_above m e = record {
          place_is = let below : l - 1 ≡ m = omega arith in rw (above.place_is, nodes_are, ← below) (start-next s l (omega arith) deep);
          lawful = rw e lawful_from;
          counted = read_more m e;
          small = λ h. rw e new_small;
          is = λ h. rw e (λ i j held. new_at i j held ∙ predicted.is i j held);
        }
