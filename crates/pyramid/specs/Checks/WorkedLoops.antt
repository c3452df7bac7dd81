-- The closed loop by hand (document 02, P4): document 01's piece A, and its other picture under kernel 6, where what a level is predicted from
-- is neither the averages nor within 0 to 255. Assumes nothing.
use Rattle.std.specs.Prelude.{◌≡◌, List, [], ◌∷◌, ◌++◌, ℤ, pos, negsuc, replicate}
use Rattle.pyramid.specs.declared.Settings.{Settings}
use Rattle.pyramid.specs.declared.Manner.TheVariants.{ClosedLoop}
use Rattle.pyramid.specs.Definitions.Bound.{bound_at}
use Rattle.pyramid.specs.Definitions.Calls.{coding}
use Rattle.pyramid.specs.Checks.WorkedPieces.{small, centred, piece_a, picture_a, corner, lent}

-- kernel 6, bins 10 (level 0) and 20 (level 1)
abbrev pub bright : Settings
bright = small 6 10 20

-- The averages 163, 270, 270, 252 are rebuilt as 160 and three times 260. EXPAND of these is 116, 200, 284 / 200, 235, 270 / 284, 270, 256; less
-- it, 255 is 55, -29, 20, -15 and -1, and at (0, 0) the 0 is -116
abbrev pub bright_levels : List ℤ
bright_levels =
    pos 8 ∷ pos 13 ∷ pos 13 ∷ pos 13 ∷
    negsuc 11 ∷ pos 5 ∷ negsuc 2 ∷
    pos 5 ∷ pos 2 ∷ negsuc 1 ∷
    negsuc 2 ∷ negsuc 1 ∷ pos 0 ∷ []

abbrev pub bright_rebuilt : List ℤ
bright_rebuilt =
    pos 160 ∷ pos 260 ∷ pos 260 ∷ pos 260 ∷
    negsuc 3 ∷ pos 250 ∷ pos 254 ∷
    pos 250 ∷ pos 255 ∷ pos 250 ∷
    pos 254 ∷ pos 250 ∷ pos 256 ∷ []

pub record WorkedLoops : Type 0 where
  -- piece A: 25 is rebuilt as 24, so that level 0 codes 76 and -24, where it codes 75 and -25 open-loop
  pub of_a : coding piece_a ClosedLoop picture_a lent lent
      ≡ record { answer = 0; levels = replicate 4 (pos 6) ++ centred (pos 8) (negsuc 1); work = replicate 4 (pos 24) ++ centred (pos 104) (pos 4) }
  pub bounds_a : (bound_at piece_a ClosedLoop 1 ≡ 2) × (bound_at piece_a ClosedLoop 0 ≡ 5)
  pub of_bright : coding bright ClosedLoop corner lent lent ≡ record { answer = 0; levels = bright_levels; work = bright_rebuilt }
