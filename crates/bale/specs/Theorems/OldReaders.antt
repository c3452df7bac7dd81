-- What a reader that knows no black and white makes of a file (document 02, P5): its shape section has four numbers, after the count 4. A file
-- with black 0 and white 255 is one that it knows; it refuses every other with 10. Assumes nothing.
use Rattle.std.specs.Prelude.{◌≡◌, List, [], ◌∷◌, ◌++◌, ℕ, ℤ, take}
use Rattle.pyramid.specs.declared.Settings.{Settings}
use Rattle.bale.specs.declared.Note.{Note}
use Rattle.bale.specs.Definitions.Sections.{numbers_section, section_refusal}
use Rattle.bale.specs.Definitions.Files.{bins_section, readings_section, level_sections, file_of}
use Rattle.bale.specs.Definitions.Reader.{shape_place}

abbrev pub EveryGrey : Settings → Type 0
EveryGrey s = (s.black ≡ 0) × (s.white ≡ 255)

module _ (s : Settings) (note : Note) (levels : List ℤ) where
  -- a file of four numbers, as document 01 has it
  abbrev pub file_before : List ℕ
  file_before =
      numbers_section (s.columns ∷ s.rows ∷ s.depth ∷ s.kernel ∷ []) ++ (bins_section s ++ (readings_section note ++ level_sections s s.depth levels))

  pub record OldReader : Type 0 where
    pub same : EveryGrey s → file_of s note levels ≡ file_before
    -- its first count is 06 00, which is not the one that it must be
    pub begins : ¬ EveryGrey s → take 2 (file_of s note levels) ≡ 0x06 ∷ 0x00 ∷ []
    pub refused : ¬ EveryGrey s → section_refusal (file_of s note levels) shape_place 4 2 ≡ 10

abbrev pub OldReaders : Type 0
OldReaders = (s : Settings) (note : Note) (levels : List ℤ) → OldReader s note levels
