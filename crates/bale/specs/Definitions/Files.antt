-- The bale file as a list of bytes (document 01, "Bale file"; document 02, P5): shape, bins, readings, and a section for each level, level N
-- first. Assumes nothing.
use Rattle.std.specs.Prelude.{Bool, cond, ◌&&◌, List, [], ◌∷◌, ◌++◌, map, ℕ, zero, suc, ◌+◌, ◌*◌, eqb, ℤ, take, drop}
use Rattle.pyramid.specs.declared.Settings.{Settings}
use Rattle.pyramid.specs.Definitions.Settings.{bin}
use Rattle.pyramid.specs.Definitions.Sizes.{nodes_at, total}
use Rattle.bale.specs.declared.Note.{Note}
use Rattle.bale.specs.Definitions.Words.{le16, index_word}
use Rattle.bale.specs.Definitions.Readings.{reading_bytes}
use Rattle.bale.specs.Definitions.Sections.{numbers_section}

-- before the drier and at the press
unfoldable pub readings_section : Note → List ℕ
readings_section note = le16 2 ++ (reading_bytes note.before_drier ++ reading_bytes note.at_press)

-- the indices of a level
unfoldable pub level_section : List ℤ → List ℕ
level_section indices = numbers_section (map index_word indices)

module _ (s : Settings) where
  -- black is 0 and white is 255
  abbrev pub every_grey : Bool
  every_grey = eqb s.black 0 && eqb s.white 255

  -- the shape has four numbers there; else black and white follow k
  unfoldable pub shape_section : List ℕ
  shape_section = numbers_section (s.columns ∷ s.rows ∷ s.depth ∷ s.kernel ∷ cond every_grey [] (s.black ∷ s.white ∷ []))

  -- how many they are
  unfoldable pub shape_count : ℕ
  shape_count = cond every_grey 4 6

  -- the bins of levels l to 0
  unfoldable pub bins_from : ℕ → List ℕ
  bins_from zero = bin s 0 ∷ []
  bins_from (suc l) = bin s (suc l) ∷ bins_from l

  unfoldable pub bins_section : List ℕ
  bins_section = numbers_section (bins_from s.depth)

  -- the sections of levels l to 0, whose indices these are
  unfoldable pub level_sections : ℕ → List ℤ → List ℕ
  level_sections zero indices = level_section (take (nodes_at s 0) indices)
  level_sections (suc l) indices = level_section (take (nodes_at s (suc l)) indices) ++ level_sections l (drop (nodes_at s (suc l)) indices)

  unfoldable pub file_of : Note → List ℤ → List ℕ
  file_of note levels = shape_section ++ (bins_section ++ (readings_section note ++ level_sections s.depth levels))

  -- a file has 24 + 4(N + 1) + 2T bytes where the shape has four numbers, and two more for each further one
  unfoldable pub file_length : ℕ
  file_length = 16 + 2 * shape_count + 4 * (s.depth + 1) + 2 * total s
