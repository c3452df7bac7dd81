-- Pixels by hand (document 02, P6): of document 01's piece A, and of a picture without levels above it. Assumes nothing.
use Rattle.std.specs.Prelude.{◌≡◌, List, [], ◌∷◌, ℕ, ℤ, pos, negsuc, replicate}
use Rattle.pyramid.specs.declared.Settings.{Settings}
use Rattle.pyramid.specs.Checks.WorkedPieces.{piece_a, levels_a}
use Rattle.pixel.specs.Definitions.Pixel.{PixelAnswer, pixel_answer}

-- 3 by 3 and no level above, kernel 4, bin 10; black 16 and white 235
abbrev pub alone : Settings
alone = record { columns = 3; rows = 3; depth = 0; kernel = 4; black = 16; white = 235; bins = 10 ∷ replicate 6 0 }

-- 5 in the middle; an unlawful 410 before it, and the lowest number of 16 bits after it
abbrev pub unlawful : List ℤ
unlawful = pos 1 ∷ pos 2 ∷ pos 3 ∷ pos 410 ∷ pos 5 ∷ negsuc 32767 ∷ pos 7 ∷ negsuc 0 ∷ pos 24 ∷ []

abbrev pub refused_with : ℕ → PixelAnswer
refused_with refusal = record { refusal = refusal; pixel = 0; read = 0 }

pub record WorkedPixels : Type 0 where
  -- piece A's centre and a corner of it, each from all four indices of level 1 and its own
  pub centre : pixel_answer piece_a 1 1 levels_a ≡ record { refusal = 0; pixel = 94; read = 5 }
  pub corner : pixel_answer piece_a 2 0 levels_a ≡ record { refusal = 0; pixel = 0; read = 5 }
  -- at depth 0 each pixel is its own index: 50; -10 shown as 16, and 240 as 235
  pub own : pixel_answer alone 1 1 unlawful ≡ record { refusal = 0; pixel = 50; read = 1 }
  pub black : pixel_answer alone 1 2 unlawful ≡ record { refusal = 0; pixel = 16; read = 1 }
  pub white : pixel_answer alone 2 2 unlawful ≡ record { refusal = 0; pixel = 235; read = 1 }
  -- 11 for its own index alone; 21 before 11, of piece A with an index of 1025 in its place; 6 before 21
  pub index : (pixel_answer alone 0 1 unlawful ≡ refused_with 11) × (pixel_answer alone 2 1 unlawful ≡ refused_with 11)
  pub place : (pixel_answer alone 3 1 unlawful ≡ refused_with 21) × (pixel_answer alone 1 3 unlawful ≡ refused_with 21)
  pub order : pixel_answer piece_a 3 1 (pos 6 ∷ pos 6 ∷ pos 6 ∷ pos 1025 ∷ replicate 9 (pos 0)) ≡ refused_with 21
  pub length : pixel_answer alone 3 3 (pos 0 ∷ unlawful) ≡ refused_with 6
