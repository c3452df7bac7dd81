-- A picture is level 0 of a buffer of all levels, its last part: what is clamped from there. Assumes nothing.
use mathlib.Core.Path.{◌≡◌, sym, ap, ◌∙◌}
use mathlib.Core.List.{List, map}
use Prim.Native.Nat.{ℕ, ◌+◌, ◌*◌, ◌≤◌}
use native.Mathlib.Omega.{arith}
use lib.IntN.{ℤ}
use lib.ListN.{length}
use Rattle.mathematics.specs.Inner.Splices.{part}
use Rattle.mathematics.proofs.Splices.{part_long}
use Rattle.pyramid.specs.declared.Settings.{Settings}
use Rattle.pyramid.specs.Inner.Lawful.{Lawful}
use Rattle.pyramid.specs.Definitions.Sizes.{Level, columns_at, rows_at, total}
use Rattle.pyramid.specs.Definitions.Rebuilding.{clamp}
use Rattle.pyramid.specs.Definitions.Buffers.{raster, level_raster, start, read_levels}
use Rattle.pyramid.specs.Definitions.Calls.{in_work}
use Rattle.pyramid.proofs.Sizes.{count_zero}
use Rattle.pyramid.proofs.Buffers.{raster-same}
use Rattle.pyramid.proofs.LevelParts.{start_bottom, level_part, map-raster}
use Rattle.pyramid.proofs.LevelPlaces.{read_front}

module _ (s : Settings) (law : Lawful s) where
  -- level 0 has the columns and rows of the picture
  pub picture_wide : columns_at s 0 ≡ s.columns
  picture_wide = sym (count_zero s.columns (omega (arith, law.shaped.across.least)))

  pub picture_high : rows_at s 0 ≡ s.rows
  picture_high = sym (count_zero s.rows (omega (arith, law.shaped.along.least)))

  pub picture_nodes : start s 0 + s.rows * s.columns ≡ total s
  picture_nodes = rw (picture_wide, picture_high) at (start_bottom s)

  -- the last part of a buffer
  module _ (b : List ℤ) (long : total s ≤ length b) where
    pub picture_length : length (part (start s 0) (total s) b) ≡ s.rows * s.columns
    picture_length = rw picture_nodes at (part_long (start s 0) (s.rows * s.columns) b (omega (arith, picture_nodes)))

    picture_part : part (start s 0) (total s) b ≡ level_raster s (read_levels s b) 0
    picture_part = rw (start_bottom s) at (level_part s b 0 (omega arith) long)

  pub picture_clamped : (f : ℕ → Level) (w b : List ℤ) → b ≡ in_work s f w → total s ≤ length b
      → map (clamp s) (part (start s 0) (total s) b) ≡ raster s.columns s.rows (λ i j. clamp s (f 0 i j))
  picture_clamped f w b e long =
      ap (map (clamp s)) (picture_part b long ∙ raster-same (columns_at s 0) (rows_at s 0) (read_levels s b 0) (f 0) (λ i j hi hj. rw e (read_front s f w 0 i j (omega arith) hi hj)))
      ∙ map-raster (clamp s) (columns_at s 0) (rows_at s 0) (f 0)
      ∙ rw (picture_wide, picture_high)
