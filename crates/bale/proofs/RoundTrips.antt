-- Demand 2 about the file: what is written is read back as it was, and a file that is read is written again byte for byte. Assumes nothing.
use mathlib.Core.Path.{◌≡◌, sym, ap, ◌∙◌, subst}
use mathlib.Core.List.{List, ◌++◌}
use Prim.Native.Nat.{ℕ, ◌+◌, ◌≤◌}
use native.Mathlib.Omega.{arith}
use lib.Dec.{T, eqb}
use lib.IntN.{ℤ}
use lib.ListN.{length}
use Rattle.pyramid.specs.declared.Settings.{Settings}
use Rattle.pyramid.specs.Definitions.Settings.{bins_ok}
use Rattle.pyramid.specs.Definitions.Sizes.{total}
use Rattle.pyramid.specs.Definitions.Buffers.{Bytes}
use Rattle.pyramid.specs.Definitions.Refusals.{settings_refusal, shape_refusal, values_ok}
use Rattle.pyramid.proofs.Refusals.{first_nil, first_none, first_pass, unless_holds, unless_none, settings_parts, settings_bins}
use Rattle.pyramid.proofs.Sizes.{total-is, total_most}
use Rattle.pyramid.proofs.CheckedLevels.{checked, levels_checked}
use Rattle.bale.specs.declared.Note.{Note}
use Rattle.bale.specs.Definitions.Files.{shape_section, shape_count, bins_section, readings_section, level_sections, file_of, file_length}
use Rattle.bale.specs.Definitions.Reader.{count_in, depth_in, bins_place, readings_place, levels_place, settings_in, note_in, levels_from, levels_in, shape_section_refusal, bins_section_refusal, readings_section_refusal, level_sections_refusal, body_refusal}
use Rattle.bale.specs.Definitions.Calls.{write_refusal, read_refusal, read_file}
use Rattle.bale.specs.Theorems.RoundTrips.{Held, WrittenThenRead, ReadThenWritten}
use Rattle.bale.proofs.Stands.{Stands, stands_all, stands_whole, stands_front, stands_back, stands_join}
use Rattle.bale.proofs.Sections.{eqb_of, Section, section_accepted, section_whole}
use Rattle.bale.proofs.LevelTrips.{shorts, length_levels, levels_read, length_from, Written, levels_stand}
use Rattle.bale.proofs.ReadingTrips.{readings_read, readings_stand}
use Rattle.bale.proofs.FileLengths.{length_shape, length_bins, length_readings, length_file}
use Rattle.bale.proofs.AcceptedFiles.{AcceptedWriting, accepted_writing, writing_accepted, AcceptedFile, accepted_file}
use Rattle.bale.proofs.Answers.{writing_is, reading_is}
use Rattle.bale.proofs.SettingsTrips.{ReadSettings, settings_read, bins_stand}
use Rattle.bale.proofs.Forms.{count_most, shape_stands}

-- ---- the sections of a file, at their places

pub record Sections (s : Settings) (note : Note) (levels : List ℤ) (bytes : List ℕ) : Type 0 where
  pub shape : Stands (shape_section s) bytes 0
  pub bins : Stands (bins_section s) bytes (bins_place s)
  pub readings : Stands (readings_section note) bytes (readings_place s)
  pub leveled : Stands (level_sections s s.depth levels) bytes (levels_place s)

module _ (s : Settings) (note : Note) (levels : List ℤ) where
  abbrev after_bins : List ℕ
  after_bins = readings_section note ++ level_sections s s.depth levels

  abbrev after_shape : List ℕ
  after_shape = bins_section s ++ after_bins

  at_bins : 0 + length (shape_section s) ≡ bins_place s
  at_bins = omega (arith, length_shape s)

  at_readings : bins_place s + length (bins_section s) ≡ readings_place s
  at_readings = omega (arith, length_bins s)

  at_levels : readings_place s + length (readings_section note) ≡ levels_place s
  at_levels = omega (arith, length_readings note)

  module _ {bytes : List ℕ} where
    moved : {piece : List ℕ} {p q : ℕ} → p ≡ q → Stands piece bytes p → Stands piece bytes q
    moved {piece} e st = subst (λ (p : ℕ). Stands piece bytes p) e st

    apart : Stands (file_of s note levels) bytes 0 → Sections s note levels bytes
    unfolding file_of
    apart st =
        let one = moved at_bins (stands_back (shape_section s) after_shape st) in
        let two = moved at_readings (stands_back (bins_section s) after_bins one) in
        record {
          shape = stands_front (shape_section s) after_shape st;
          bins = stands_front (bins_section s) after_bins one;
          readings = stands_front (readings_section note) (level_sections s s.depth levels) two;
          leveled = moved at_levels (stands_back (readings_section note) (level_sections s s.depth levels) two);
        }

    together : Sections s note levels bytes → Stands (file_of s note levels) bytes 0
    unfolding file_of
    together x =
        let two = stands_join (readings_section note) (level_sections s s.depth levels) x.readings (moved (sym at_levels) x.leveled) in
        let one = stands_join (bins_section s) after_bins x.bins (moved (sym at_readings) two) in
        stands_join (shape_section s) after_shape x.shape (moved (sym at_bins) one)

-- ---- written, then read

size_most : (s : Settings) → total s ≤ 22359 → s.depth ≤ 6 → file_length s ≤ 44774
unfolding file_length
size_most s h k = omega (arith, (count_most s).1)

depth_is : (s : Settings) (bytes : List ℕ) → settings_in bytes ≡ s → depth_in bytes ≡ s.depth
unfolding settings_in
depth_is s bytes e = ap (λ (t : Settings). t.depth) e

module _ (s : Settings) (note : Note) (levels : List ℤ) (room : ℕ) (held : Held s note levels) (a : AcceptedWriting s note levels room) where
  abbrev file : List ℕ
  file = file_of s note levels

  parts : Sections s note levels file
  parts = apart s note levels (stands_all file)

  settings : ReadSettings s file
  settings = settings_read file a.law (settings_parts s a.settings).1 held.seven parts.shape parts.bins

  noted : (readings_section_refusal file s ≡ 0) × (note_in file s ≡ note)
  noted = readings_read file s note held.drier held.press a.noted parts.readings

  long : length file ≡ file_length s
  long = length_file s note levels a.long

  leveled : (level_sections_refusal file s s.depth (levels_place s) ≡ 0) × (levels_from file s s.depth (levels_place s) ≡ levels)
  unfolding file_length
  leveled =
      let t : T (checked s s.depth levels) = subst T (levels_checked s levels a.long) a.valued in
      let small : total s ≤ 22359 = total_most s a.law.shaped in
      let nodes = total-is s in
      let full = a.long ∙ nodes in
      let sections = length_levels s s.depth levels full in
      levels_read s file s.depth (levels_place s) levels (omega arith) full (shorts levels held.short) t parts.leveled (omega (arith, long))

  bins_accepted : bins_section_refusal file ≡ 0
  unfolding bins_section_refusal
  bins_accepted =
      rw (depth_is s file settings.is, settings.is)
      (first_pass _ (section_accepted settings.bins) (first_pass _ (unless_holds (bins_ok s) 3 (settings_parts s a.settings).1) first_nil))

  shape_accepted : shape_section_refusal file ≡ 0
  unfolding shape_section_refusal
  shape_accepted =
      first_pass _ (section_accepted settings.shape.section)
      (rw settings.is
      (first_pass _ (unless_holds (eqb (count_in file) (shape_count s)) 10 (eqb_of settings.shape.count)) (first_pass _ (settings_parts s a.settings).0 first_nil)))

  body_accepted : body_refusal file ≡ 0
  unfolding body_refusal
  body_accepted =
      rw (depth_is s file settings.is, settings.is)
      (first_pass _ bins_accepted (first_pass _ noted.0 (first_pass _ leveled.0 first_nil)))

  module _ (lent : List ℤ) (e : length lent ≡ total s) where
    accepted : read_refusal file (length lent) ≡ 0
    unfolding read_refusal
    accepted =
        rw settings.is
        (first_pass _ shape_accepted
        (first_pass _ (unless_holds (eqb (length lent) (total s)) 6 (eqb_of e)) (first_pass _ body_accepted first_nil)))

    is_read : read_file file lent ≡ record { answer = record { refusal = 0; settings = s; note = note }; levels = levels }
    is_read = reading_is file lent accepted ∙ rw (depth_is s file settings.is, settings.is, noted.1, leveled.1)

pub written_then_read : WrittenThenRead
written_then_read s note levels room held e =
    let a = accepted_writing s note levels room e in
    record {
      size = long s note levels room held a;
      most = size_most s (total_most s a.law.shaped) a.law.shaped.deep;
      read = is_read s note levels room held a;
    }

-- ---- read, then written

module _ (bytes : List ℕ) (places : ℕ) (all : Bytes bytes) (e : read_refusal bytes places ≡ 0) where
  abbrev found : Settings
  found = settings_in bytes

  abbrev depth : ℕ
  depth = depth_in bytes

  -- what the reader has looked at
  record Looked : Type 0 where
    shape_section_lem : Section bytes 0 (count_in bytes) 2
    shape : shape_refusal found ≡ 0
    bins_section_lem : Section bytes (bins_place found) (depth + 1) 2
    bins : T (bins_ok found)
    readings : readings_section_refusal bytes found ≡ 0
    leveled : level_sections_refusal bytes found depth (levels_place found) ≡ 0

  looked : Looked
  unfolding read_refusal shape_section_refusal body_refusal bins_section_refusal
  looked =
      let (shape, e₆) = first_none _ _ e in
      let (_, body) = first_none _ _ e₆ in
      let (section, e₁₀) = first_none _ _ shape in
      let (_, e₁) = first_none _ _ e₁₀ in
      let (bins, e₄) = first_none _ _ (first_none _ _ body).0 in
      let (bins_section_lem, e₃) = first_none _ _ bins in
      let (readings, e₉) = first_none _ _ e₄ in
      record {
        shape_section_lem = section_whole section;
        shape = (first_none _ _ e₁).0;
        bins_section_lem = section_whole bins_section_lem;
        bins = unless_none (bins_ok found) 2 (first_none _ _ e₃).0;
        readings = readings;
        leveled = (first_none _ _ e₉).0;
      }

  whole : AcceptedFile bytes places
  whole = accepted_file bytes places e

  written : Written found bytes depth (levels_place found)
  written = levels_stand found bytes all depth (levels_place found) looked.leveled

  standing : Sections found (note_in bytes found) (levels_in bytes) bytes
  unfolding settings_in
  standing =
      record {
        shape = shape_stands bytes all looked.shape_section_lem whole.counted;
        bins = bins_stand bytes all whole.shaped.deep whole.counted looked.bins_section_lem;
        readings = (readings_stand bytes found all looked.readings).1;
        leveled = written.stands;
      }

  found_long : length (levels_in bytes) ≡ total found
  unfolding settings_in
  found_long = length_from found bytes depth (levels_place found) ∙ sym (total-is found)

  file_long : file_length found ≡ length bytes
  unfolding file_length
  file_long = omega (arith, whole.whole, total-is found)

  again : file_of found (note_in bytes found) (levels_in bytes) ≡ bytes
  again =
      stands_whole (together found (note_in bytes found) (levels_in bytes) standing)
      (length_file found (note_in bytes found) (levels_in bytes) found_long ∙ file_long)

  accepted_again : (room : ℕ) → length bytes ≤ room → write_refusal found (note_in bytes found) (levels_in bytes) room ≡ 0
  unfolding settings_in
  accepted_again room h =
      let settings : settings_refusal found ≡ 0 = settings_bins found looked.shape ∙ unless_holds (bins_ok found) 3 looked.bins in
      let lawful : T (checked found found.depth (levels_in bytes)) = written.lawful in
      let values : T (values_ok found (levels_in bytes)) = subst T (sym (levels_checked found (levels_in bytes) found_long)) lawful in
      writing_accepted found (note_in bytes found) (levels_in bytes) room settings (readings_stand bytes found all looked.readings).0 found_long
      (omega (arith, file_long)) values

pub read_then_written : ReadThenWritten
read_then_written bytes lent all e =
    record {
      same = rw (reading_is bytes lent e) (again bytes (length lent) all e);
      written = λ file h.
          rw (reading_is bytes lent e)
          (writing_is (settings_in bytes) (note_in bytes (settings_in bytes)) (levels_in bytes) file (accepted_again bytes (length lent) all e (length file) h)
          ∙ rw (file_long bytes (length lent) all e, again bytes (length lent) all e));
    }
