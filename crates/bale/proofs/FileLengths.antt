-- The lengths of a file's sections, and of the file. Assumes nothing.
use mathlib.Core.Path.{◌≡◌, refl, ◌∙◌}
use mathlib.Core.List.{List, ◌++◌}
use Prim.Native.Nat.{ℕ, zero, suc, ◌+◌, ◌*◌}
use native.Mathlib.Omega.{arith}
use lib.IntN.{ℤ}
use lib.ListN.{length, length-append}
use Rattle.pyramid.specs.declared.Settings.{Settings}
use Rattle.pyramid.specs.Definitions.Sizes.{total}
use Rattle.pyramid.proofs.Sizes.{total-is}
use Rattle.bale.specs.declared.Note.{Note}
use Rattle.bale.specs.Definitions.Words.{le16, le32}
use Rattle.bale.specs.Definitions.Files.{shape_section, shape_count, bins_from, bins_section, readings_section, level_sections, file_of, file_length}
use Rattle.bale.proofs.Sections.{length_numbers}
use Rattle.bale.proofs.LevelTrips.{length_levels}
use Rattle.bale.proofs.Forms.{numbers_by, shape_numbers, length_shape_numbers}

pub length_readings : (note : Note) → length (readings_section note) ≡ 12
unfolding readings_section le16 le32
length_readings note = refl

module _ (s : Settings) where
  pub length_shape : length (shape_section s) ≡ 2 + 2 * shape_count s
  unfolding shape_section numbers_by
  length_shape = length_numbers (shape_numbers s) ∙ rw (length_shape_numbers s) refl

  pub length-bins_from : (l : ℕ) → length (bins_from s l) ≡ l + 1
  unfolding bins_from
  length-bins_from zero = refl
  length-bins_from (suc l) = omega (arith, length-bins_from l)

  pub length_bins : length (bins_section s) ≡ 2 + 2 * (s.depth + 1)
  unfolding bins_section
  length_bins = length_numbers (bins_from s s.depth) ∙ omega (arith, length-bins_from s.depth)

  pub length_file : (note : Note) (levels : List ℤ) → length levels ≡ total s → length (file_of s note levels) ≡ file_length s
  unfolding file_of file_length
  length_file note levels e =
      let l = length_levels s s.depth levels (e ∙ total-is s) in
      let a = length-append (readings_section note) (level_sections s s.depth levels) in
      let b = length-append (bins_section s) (readings_section note ++ level_sections s s.depth levels) in
      length-append (shape_section s) (bins_section s ++ (readings_section note ++ level_sections s s.depth levels))
      ∙ omega (arith, total-is s, length_shape, length_bins, length_readings note)
