-- The reader as a function of any list of bytes (document 01, "Who can cause which refusal"; document 02, P5): what it finds at which place,
-- and the first rule that is broken, in file order. Past the end of the file it finds 0. Assumes nothing.
use Rattle.std.specs.Prelude.{cond, List, [], ◌∷◌, ◌++◌, ℕ, zero, suc, ◌+◌, ◌-◌, ◌*◌, leb, eqb, ℤ, length, get_or}
use Rattle.mathematics.specs.Definitions.Tests.{all}
use Rattle.mathematics.specs.Definitions.Tables.{tabulate}
use Rattle.pyramid.specs.declared.Settings.{Settings}
use Rattle.pyramid.specs.Definitions.Settings.{bin, bins_ok}
use Rattle.pyramid.specs.Definitions.Sizes.{nodes_at}
use Rattle.pyramid.specs.Definitions.Refusals.{unless, first, shape_refusal, index_ok}
use Rattle.bale.specs.declared.Note.{Note}
use Rattle.bale.specs.Definitions.Words.{u16_at, u32_at, indices_at}
use Rattle.bale.specs.Definitions.Readings.{ReadingAnswer, decode}
use Rattle.bale.specs.Definitions.Sections.{items_at, end_of, section_refusal}
use Rattle.bale.specs.Definitions.Files.{shape_count}

-- ---- where the sections start, each where the one before it ends

-- the shape is so many numbers of two bytes
abbrev pub shape_place : ℕ
shape_place = 0

abbrev pub after_shape : ℕ → ℕ
after_shape count = end_of shape_place count 2

module _ (s : Settings) where
  abbrev pub bins_place : ℕ
  bins_place = after_shape (shape_count s)

  -- the bins are N + 1 numbers of two bytes
  abbrev pub readings_place : ℕ
  readings_place = end_of bins_place (s.depth + 1) 2

  -- the readings are two of five bytes
  abbrev pub levels_place : ℕ
  levels_place = end_of readings_place 2 5

  -- before the drier, and at the press
  abbrev pub drier_place : ℕ
  drier_place = items_at readings_place

  abbrev pub press_place : ℕ
  press_place = drier_place + 5

module _ (bytes : List ℕ) where
  -- ---- what is found

  -- the shape's count: 6 where it is 6, and else 4, which it then must be
  unfoldable pub count_in : ℕ
  count_in = cond (eqb (u16_at bytes shape_place) 6) 6 4

  -- the shape's numbers: C, R, N, k and, where they are six, black and white
  abbrev pub shape_number : ℕ → ℕ
  shape_number k = u16_at bytes (items_at shape_place + 2 * k)

  abbrev pub depth_in : ℕ
  depth_in = shape_number 2

  -- black and white, which are 0 and 255 where they are not in the file
  abbrev pub black_in : ℕ
  black_in = cond (eqb count_in 6) (shape_number 4) 0

  abbrev pub white_in : ℕ
  white_in = cond (eqb count_in 6) (shape_number 5) 255

  -- slot l of the bins, level N first; 0 above N
  unfoldable pub slot_in : ℕ → ℕ → ℕ
  slot_in N l = cond (leb l N) (u16_at bytes (items_at (after_shape count_in) + 2 * (N - l))) 0

  unfoldable pub settings_in : Settings
  settings_in =
      record {
        columns = shape_number 0;
        rows = shape_number 1;
        depth = depth_in;
        kernel = shape_number 3;
        black = black_in;
        white = white_in;
        bins = tabulate 7 (slot_in depth_in);
      }

  unfoldable pub probe_at : ℕ → ReadingAnswer
  probe_at at = decode (get_or bytes at 0) (u32_at bytes (at + 1))

  unfoldable pub note_in : Settings → Note
  note_in s = record { before_drier = (probe_at (drier_place s)).reading; at_press = (probe_at (press_place s)).reading }

  -- the indices of levels l to 0, whose sections start at a place
  unfoldable pub levels_from : Settings → ℕ → ℕ → List ℤ
  levels_from s zero at = indices_at bytes (items_at at) (nodes_at s 0)
  levels_from s (suc l) at = indices_at bytes (items_at at) (nodes_at s (suc l)) ++ levels_from s l (end_of at (nodes_at s (suc l)) 2)

  abbrev pub levels_in : List ℤ
  levels_in = levels_from settings_in depth_in (levels_place settings_in)

  -- ---- which rule is broken first: 9, 10, 9 of each section, then the rules of its items

  -- 10: six numbers that say black 0 and white 255; then 1, 13, 14, 15, 2, 19
  unfoldable pub shape_section_refusal : ℕ
  shape_section_refusal =
      first (section_refusal bytes shape_place count_in 2 ∷ unless (eqb count_in (shape_count settings_in)) 10 ∷ shape_refusal settings_in ∷ [])

  -- 3
  unfoldable pub bins_section_refusal : ℕ
  bins_section_refusal = first (section_refusal bytes (bins_place settings_in) (depth_in + 1) 2 ∷ unless (bins_ok settings_in) 3 ∷ [])

  -- 4
  unfoldable pub readings_section_refusal : Settings → ℕ
  readings_section_refusal s =
      first (section_refusal bytes (readings_place s) 2 5 ∷ (probe_at (drier_place s)).refusal ∷ (probe_at (press_place s)).refusal ∷ [])

  -- 11
  unfoldable pub level_section_refusal : Settings → (l at : ℕ) → ℕ
  level_section_refusal s l at =
      first (section_refusal bytes at (nodes_at s l) 2 ∷ unless (all (index_ok (bin s l)) (indices_at bytes (items_at at) (nodes_at s l))) 11 ∷ [])

  -- the sections of levels l to 0, then 12: bytes follow the last section
  unfoldable pub level_sections_refusal : Settings → (l at : ℕ) → ℕ
  level_sections_refusal s zero at = first (level_section_refusal s 0 at ∷ unless (eqb (length bytes) (end_of at (nodes_at s 0) 2)) 12 ∷ [])
  level_sections_refusal s (suc l) at = first (level_section_refusal s (suc l) at ∷ level_sections_refusal s l (end_of at (nodes_at s (suc l)) 2) ∷ [])

  -- all sections after the shape
  unfoldable pub body_refusal : ℕ
  body_refusal =
      first (bins_section_refusal ∷ readings_section_refusal settings_in ∷ level_sections_refusal settings_in depth_in (levels_place settings_in) ∷ [])
