-- Black 16 and white 235 by hand (document 02, P5): a piece of these two greys alone, what is shown of it and of a brighter one, and who is
-- refused. Assumes nothing.
use Rattle.std.specs.Prelude.{◌≡◌, List, [], ◌∷◌, ◌++◌, ℕ, ℤ, pos, negsuc, replicate}
use Rattle.pyramid.specs.declared.Settings.{Settings}
use Rattle.pyramid.specs.declared.Manner.TheVariants.{OpenLoop}
use Rattle.pyramid.specs.Definitions.Refusals.{settings_refusal, coding_refusal}
use Rattle.pyramid.specs.Definitions.Calls.{coding, rebuilding}
use Rattle.pyramid.specs.Checks.WorkedPieces.{small, centred, corner, lent}

-- 3 by 3, N = 1: the kernel, black and white, and the bins of levels 0 and 1
abbrev pub camera : (kernel black white b0 b1 : ℕ) → Settings
camera kernel black white b0 b1 =
    record { columns = 3; rows = 3; depth = 1; kernel = kernel; black = black; white = white; bins = b0 ∷ b1 ∷ 0 ∷ 0 ∷ 0 ∷ 0 ∷ 0 ∷ [] }

-- kernel 4, black 16, white 235, bins 10 (level 0) and 4 (level 1)
abbrev pub grey : Settings
grey = camera 4 16 235 10 4

-- g1 is 71 four times: 16 and a quarter of 219, rounded. Its index is 18. Level 0 is 235 and 16 less 71: 164 and -55, whose indices are 16
-- and -6
abbrev pub levels_grey : List ℤ
levels_grey = replicate 4 (pos 18) ++ centred (pos 16) (negsuc 5)

-- one more at the centre
abbrev pub brighter : List ℤ
brighter = replicate 4 (pos 18) ++ centred (pos 17) (negsuc 5)

pub record WorkedGreys : Type 0 where
  pub coded : coding grey OpenLoop (centred 235 16) lent lent ≡ record { answer = 0; levels = levels_grey; work = replicate 4 (pos 71) ++ centred (pos 235) (pos 16) }
  -- rebuilt as 72 four times, 232 and 12: the 12 is shown as 16
  pub shown : rebuilding grey levels_grey corner lent ≡ record { answer = 0; picture = centred 232 16; work = replicate 4 (pos 72) ++ centred (pos 232) (pos 12) }
  -- 242 is shown as 235; with black 0 and white 255, as 242
  pub white : (rebuilding grey brighter corner lent).picture ≡ centred 235 16
  pub every_grey : (rebuilding (small 4 10 4) brighter corner lent).picture ≡ centred 242 12
  -- 15 and 236 at the first place, the last and in the middle, and black and white there
  pub first : (coding_refusal grey (15 ∷ replicate 8 16) lent lent ≡ 20) × (coding_refusal grey (236 ∷ replicate 8 235) lent lent ≡ 20)
  pub middle : (coding_refusal grey (centred 15 16) lent lent ≡ 20) × (coding_refusal grey (centred 236 16) lent lent ≡ 20)
  pub last : (coding_refusal grey (replicate 8 16 ++ (15 ∷ [])) lent lent ≡ 20) × (coding_refusal grey (replicate 8 16 ++ (236 ∷ [])) lent lent ≡ 20)
  pub inside : (coding_refusal grey (16 ∷ replicate 8 235) lent lent ≡ 0) × (coding_refusal grey (replicate 8 16 ++ (235 ∷ [])) lent lent ≡ 0)
  -- 20 comes last
  pub after_work : coding_refusal grey (centred 15 16) lent (pos 0 ∷ []) ≡ 7
  -- black that is white, or above it; white 256; 0 and 1, 254 and 255
  pub equal : (settings_refusal (camera 4 16 16 10 4) ≡ 19) × (settings_refusal (camera 4 17 16 10 4) ≡ 19)
  pub beyond : (settings_refusal (camera 4 16 256 10 4) ≡ 19) × (settings_refusal (camera 4 255 255 10 4) ≡ 19)
  pub ends : (settings_refusal (camera 4 0 1 10 4) ≡ 0) × (settings_refusal (camera 4 254 255 10 4) ≡ 0)
  -- 19 comes after 2 and before 3
  pub order : (settings_refusal (camera 7 16 16 10 4) ≡ 2) × (settings_refusal (camera 4 16 16 0 4) ≡ 19)
