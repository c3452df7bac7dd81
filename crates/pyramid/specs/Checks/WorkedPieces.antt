-- The small pieces of document 01 that are marked to be proved, as one table. Assumes nothing.
use Rattle.std.specs.Prelude.{◌≡◌, List, [], ◌∷◌, ℕ, ℤ, pos, negsuc, get_or, replicate}
use Rattle.quantizer.specs.Definitions.Bins.{bin_index}
use Rattle.pyramid.specs.declared.Settings.{Settings}
use Rattle.pyramid.specs.declared.Manner.TheVariants.{OpenLoop}
use Rattle.pyramid.specs.Definitions.Sizes.{Level}
use Rattle.pyramid.specs.Definitions.Steps.{expand}
use Rattle.pyramid.specs.Definitions.Pyramid.{average}
use Rattle.pyramid.specs.Definitions.Rebuilding.{rebuilt}
use Rattle.pyramid.specs.Definitions.Manners.{difference}
use Rattle.pyramid.specs.Definitions.Bound.{bound_at}
use Rattle.pyramid.specs.Definitions.Buffers.{raster, pixels, read_levels}
use Rattle.pyramid.specs.Definitions.Calls.{coding, rebuilding}

-- `negsuc n` is -(n + 1). 3 by 3 with one level above it: the kernel, and the bins of levels 0 and 1
abbrev pub small : ℕ → ℕ → ℕ → Settings
small k b0 b1 = record { columns = 3; rows = 3; depth = 1; kernel = k; black = 0; white = 255; bins = b0 ∷ b1 ∷ 0 ∷ 0 ∷ 0 ∷ 0 ∷ 0 ∷ [] }

-- v at the centre of 3 by 3 and w elsewhere
abbrev pub centred : {A : Type 0} → A → A → List A
centred v w = w ∷ w ∷ w ∷ w ∷ v ∷ w ∷ w ∷ w ∷ w ∷ []

-- piece A: kernel 4, bins 10 (level 0) and 4 (level 1), centre 100, others 0
abbrev pub piece_a : Settings
piece_a = small 4 10 4

abbrev pub picture_a : List ℕ
picture_a = centred 100 0

abbrev pub levels_a : List ℤ
levels_a = pos 6 ∷ pos 6 ∷ pos 6 ∷ pos 6 ∷ centred (pos 7) (negsuc 2)

-- all 255 but (0, 0), which is 0
abbrev pub corner : List ℕ
corner = 0 ∷ replicate 8 255

-- columns -1 and 0 in both rows
abbrev pub minus_one : Level
minus_one i j = get_or (negsuc 0 ∷ pos 0 ∷ []) i (pos 0)

-- buffers of T places
abbrev pub lent : List ℤ
lent = replicate 13 (pos 0)

pub record WorkedPieces : Type 0 where
  pub average_a : raster 2 2 (average piece_a (pixels 3 picture_a) 1) ≡ replicate 4 (pos 25)
  pub difference_a : raster 3 3 (difference piece_a OpenLoop (average piece_a (pixels 3 picture_a)) 0) ≡ centred (pos 75) (negsuc 24)
  pub accepted_a : (coding piece_a OpenLoop picture_a lent lent).answer ≡ 0
  pub indices_a : (coding piece_a OpenLoop picture_a lent lent).levels ≡ levels_a
  pub unclamped_a : raster 3 3 (rebuilt piece_a (read_levels piece_a levels_a) 0) ≡ centred (pos 94) (negsuc 5)
  pub accepted_levels_a : (rebuilding piece_a levels_a corner lent).answer ≡ 0
  pub rebuilt_a : (rebuilding piece_a levels_a corner lent).picture ≡ centred 94 0
  pub bounds_a : (bound_at piece_a OpenLoop 1 ≡ 2) × (bound_at piece_a OpenLoop 0 ≡ 7)
  pub average_corner : raster 2 2 (average (small 6 1 1) (pixels 3 corner) 1) ≡ pos 163 ∷ pos 270 ∷ pos 270 ∷ pos 252 ∷ []
  pub expand_minus_one : raster 3 3 (expand 4 1 1 minus_one) ≡
      negsuc 0 ∷ pos 0 ∷ pos 0 ∷
      negsuc 0 ∷ pos 0 ∷ pos 0 ∷
      negsuc 0 ∷ pos 0 ∷ pos 0 ∷ []
  pub bin2 : (bin_index (pos 1) 2 ≡ pos 0) × (bin_index (negsuc 0) 2 ≡ negsuc 0)
  pub bin255 : (bin_index (pos 127) 255 ≡ pos 0) × (bin_index (pos 128) 255 ≡ pos 1)
  pub bin1 : bin_index (pos 7) 1 ≡ pos 7
  pub bound_kernel5 : bound_at (small 5 1 2) OpenLoop 0 ≡ 1
  pub bound_kernel6 : bound_at (small 6 1 2) OpenLoop 0 ≡ 2
