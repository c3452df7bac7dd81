-- The pixel, once the windows above it were read: its place, its value, and what is then known. Assumes nothing.
use mathlib.Core.Path.{◌≡◌, refl, sym, subst}
use mathlib.Core.List.{List}
use Prim.Native.Nat.{ℕ, ◌+◌, ◌*◌, ◌≤◌, ◌<◌}
use native.Mathlib.Decide.{ℕ_discrete}
use native.Mathlib.Omega.{arith}
use lib.Dec.{T}
use lib.IntN.{ℤ, pos, nat_abs}
use lib.ListN.{length, get_or}
use Rattle.pyramid.specs.declared.Settings.{Settings}
use Rattle.pyramid.specs.Definitions.Sizes.{columns_at, rows_at, nodes_at, total}
use Rattle.pyramid.specs.Definitions.Rebuilding.{value_of}
use Rattle.pyramid.specs.Definitions.Buffers.{start, read_levels}
use Rattle.pyramid.specs.Definitions.Refusals.{limit}
use Rattle.pyramid.proofs.Sizes.{count_zero}
use Rattle.pyramid.proofs.Buffers.{inside, read-is}
use Rattle.pyramid.proofs.LevelParts.{start_bottom}
use Rattle.pixel.specs.Definitions.Windows.{range_at, in_window, nodes_read}
use Rattle.pixel.specs.Inner.Reading.{LawfulFrom, Above}
use Rattle.pixel.proofs.Ranges.{inside_is, few_nodes}
use Rattle.pixel.proofs.Predictions.{held_both}

-- the only node of a window at level 0
at_pixel : (side p i : ℕ) → (range_at side p 0).first ≤ i → i ≤ (range_at side p 0).last → i ≡ p
unfolding range_at
at_pixel side p i low high = omega arith

module _ (s : Settings) (column row : ℕ) (in_columns : column < s.columns) (in_rows : row < s.rows) (levels : List ℤ) {read place : ℕ} {values : List ℤ}
    (above : Above s column row levels 0 read place values) where
  across : s.columns ≡ columns_at s 0
  across = count_zero s.columns (omega arith)

  along : s.rows ≡ rows_at s 0
  along = count_zero s.rows (omega arith)

  -- where the pixel's index stands
  pub place_room : length levels ≡ total s → place + row * s.columns + column < length levels
  place_room filled =
      let in_level : row * s.columns + column < s.rows * s.columns = inside in_columns in_rows in
      let nodes : nodes_at s 0 ≡ s.rows * s.columns = rw (← across, ← along) refl in
      omega (arith, filled, above.place_is, start_bottom s, nodes, in_level)

  pub index_is : get_or levels (place + row * s.columns + column) (pos 0) ≡ read_levels s levels 0 column row
  index_is =
      let at : place + row * s.columns + column ≡ start s 0 + (row * s.columns + column) = omega (arith, above.place_is) in
      rw at (sym (rw (← across) at (read-is s levels 0 column row)))

  -- what its lawful value says of all windows
  pub all_lawful : nat_abs (value_of s 0 (read_levels s levels 0 column row)) ≤ limit → LawfulFrom s column row levels 0
  all_lawful small k i j hl hk held = cases (ℕ_discrete 0 k)
    where
      cases : Dec (0 ≡ k) → nat_abs (value_of s k (read_levels s levels k i j)) ≤ limit
      cases (yes e) =
          let (hi, hj) = held_both s column row 0 i j (subst (λ (k : ℕ). T (in_window s column row k i j)) (sym e) held) in
          let (li, ri) = (inside_is (range_at s.columns column 0) i).0 hi in
          let (lj, rj) = (inside_is (range_at s.rows row 0) j).0 hj in
          rw (← e, at_pixel s.columns column i li ri, at_pixel s.rows row j lj rj) small
      cases (no other) = above.lawful k i j (omega (arith, other)) hk held

  pub one_more : read + 1 ≡ nodes_read s column row s.depth
  one_more = omega (arith, above.counted, (few_nodes s column row).alone)
