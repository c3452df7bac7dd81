-- The worked files, by computation. Assumes nothing.
use mathlib.Core.Path.{◌≡◌, refl}
use mathlib.Core.List.{List}
use Prim.Native.Nat.{ℕ}
use lib.Ieee.{size, odd, lt, eq, le, of_fields, of_bits, to_bits}
use lib.IntN.{ℤ}
use lib.ListN.{length}
use Rattle.mathematics.specs.Definitions.Tests.{all_below, all}
use Rattle.mathematics.specs.Definitions.Tables.{tabulate}
use Rattle.quantizer.specs.Definitions.Values.{value_ok}
use Rattle.pyramid.specs.Definitions.Settings.{side_ok, depth_ok, divides, kernel_ok, black_white_ok, slot_ok, size_ok, bins_ok}
use Rattle.pyramid.specs.Definitions.Sizes.{last, nodes_to, total}
use Rattle.pyramid.specs.Definitions.Refusals.{unless, first, shape_refusal}
use Rattle.pyramid.specs.Definitions.Calls.{leaves}
use Rattle.bale.specs.Definitions.Words.{le16, le32, words, index_word, word_index, u16_at, u32_at, words_at}
use Rattle.bale.specs.Definitions.Readings.{percentage_ok, fault_ok, code_where, code_of, probe_where, decode}
use Rattle.bale.specs.Definitions.Sections.{numbers_section, section_refusal}
use Rattle.bale.specs.Definitions.Files.{readings_section, level_section, shape_section, shape_count, bins_from, bins_section, level_sections, file_of}
use Rattle.bale.specs.Definitions.Reader.{count_in, slot_in, settings_in, probe_at, note_in, levels_from, levels_in, shape_section_refusal, bins_section_refusal, readings_section_refusal, level_section_refusal, level_sections_refusal, body_refusal}
use Rattle.bale.specs.Definitions.Calls.{check_refusal, read_refusal, bale_of, check_file, read_file}
use Rattle.bale.specs.Checks.WorkedFiles.{WorkedFiles}
use Rattle.bale.proofs.Answers.{reading_is}

-- a level buffer of as many places as the file wants
lent_read : (bytes : List ℕ) {places : ℕ} → read_refusal bytes places ≡ 0 → (lent : List ℤ) → length lent ≡ places
    → read_file bytes lent ≡ record { answer = record { refusal = 0; settings = settings_in bytes; note = note_in bytes (settings_in bytes) }; levels = levels_in bytes }
lent_read bytes none lent e = reading_is bytes lent (rw e none)

pub worked_files : WorkedFiles
unfolding size odd lt eq le of_fields of_bits to_bits all_below all tabulate side_ok depth_ok divides kernel_ok black_white_ok slot_ok size_ok bins_ok last nodes_to total unless first value_ok shape_refusal leaves le16 le32 words index_word word_index u16_at u32_at words_at percentage_ok fault_ok code_where code_of probe_where decode numbers_section section_refusal readings_section level_section shape_section shape_count bins_from bins_section level_sections file_of count_in slot_in settings_in probe_at note_in levels_from shape_section_refusal bins_section_refusal readings_section_refusal level_section_refusal level_sections_refusal body_refusal check_refusal read_refusal bale_of check_file
worked_files = record {
  piece_file = record { written = refl; checked = refl; read = lent_read _ refl };
  wide_file = record { written = refl; checked = refl; read = lent_read _ refl };
  grey_file = record { written = refl; checked = refl; read = lent_read _ refl };
}
