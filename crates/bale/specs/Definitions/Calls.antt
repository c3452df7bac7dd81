-- What the writer and the readers answer, and what they leave in every lent buffer (document 01, "Bale file" and "Who can cause which
-- refusal"). Assumes nothing.
use Rattle.std.specs.Prelude.{List, [], ◌∷◌, ◌++◌, ℕ, leb, eqb, ℤ, length, drop, replicate}
use Rattle.pyramid.specs.declared.Settings.{Settings}
use Rattle.pyramid.specs.Definitions.Sizes.{total}
use Rattle.pyramid.specs.Definitions.Refusals.{unless, first, settings_refusal, values_ok}
use Rattle.pyramid.specs.Definitions.Calls.{leaves}
use Rattle.bale.specs.declared.Note.{Note}
use Rattle.bale.specs.declared.Reading.TheVariants.{NotFitted}
use Rattle.bale.specs.declared.Bale.{Bale}
use Rattle.bale.specs.Definitions.Readings.{note_ok}
use Rattle.bale.specs.Definitions.Files.{file_of, file_length}
use Rattle.bale.specs.Definitions.Reader.{settings_in, note_in, levels_in, shape_section_refusal, body_refusal}

-- a refusal's number, or 0 and the values that a call then answers; beside another number they are 0 and not fitted, and the call answers its
-- refusal alone
pub record SizeAnswer : Type 0 where
  pub refusal : ℕ
  pub size : ℕ

pub record BaleAnswer : Type 0 where
  pub refusal : ℕ
  pub settings : Settings
  pub note : Note

abbrev pub bale_in : BaleAnswer → Bale
bale_in answer = record { settings = answer.settings; note = answer.note }

-- ---- the writer

pub record WriteOutcome : Type 0 where
  pub answer : SizeAnswer
  pub file : List ℕ

module _ (s : Settings) where
  -- the size of a file of settings, whose numbers are looked for
  unfoldable pub size_answer : SizeAnswer
  size_answer = record { refusal = settings_refusal s; size = leaves (settings_refusal s) (file_length s) 0 }

  -- the writer looks for the settings' numbers, then 4, 6, 8, 11
  unfoldable pub write_refusal : Note → List ℤ → ℕ → ℕ
  write_refusal note levels room =
      first (settings_refusal s
      ∷ unless (note_ok note) 4
      ∷ unless (eqb (length levels) (total s)) 6
      ∷ unless (leb (file_length s) room) 8
      ∷ unless (values_ok s levels) 11
      ∷ [])

  -- it answers the size; bytes of its buffer after the file are untouched
  unfoldable pub write_file : Note → List ℤ → List ℕ → WriteOutcome
  write_file note levels file =
      let refusal = write_refusal note levels (length file) in
      record {
        answer = record { refusal = refusal; size = leaves refusal (file_length s) 0 };
        file = leaves refusal (file_of s note levels ++ drop (file_length s) file) file;
      }

-- ---- the readers

-- a refusal holds 0 in the numbers and not fitted in the readings
unfoldable pub no_settings : Settings
no_settings = record { columns = 0; rows = 0; depth = 0; kernel = 0; black = 0; white = 0; bins = replicate 7 0 }

unfoldable pub no_note : Note
no_note = record { before_drier = NotFitted; at_press = NotFitted }

pub record ReadOutcome : Type 0 where
  pub answer : BaleAnswer
  pub levels : List ℤ

module _ (bytes : List ℕ) where
  -- lent a level buffer of so many places: 6 comes right after the shape section
  unfoldable pub read_refusal : ℕ → ℕ
  read_refusal places = first (shape_section_refusal bytes ∷ unless (eqb places (total (settings_in bytes))) 6 ∷ body_refusal bytes ∷ [])

  -- lent no level buffer
  unfoldable pub check_refusal : ℕ
  check_refusal = first (shape_section_refusal bytes ∷ body_refusal bytes ∷ [])

  unfoldable pub bale_of : ℕ → BaleAnswer
  bale_of refusal =
      record {
        refusal = refusal;
        settings = leaves refusal (settings_in bytes) no_settings;
        note = leaves refusal (note_in bytes (settings_in bytes)) no_note;
      }

  unfoldable pub check_file : BaleAnswer
  check_file = bale_of check_refusal

  unfoldable pub read_file : List ℤ → ReadOutcome
  read_file levels =
      let refusal = read_refusal (length levels) in
      record { answer = bale_of refusal; levels = leaves refusal (levels_in bytes) levels }
