-- What a reader fills can be handed in again: settings and a note become arrays and are the same again, and an array of settings is the same
-- again. Assumes nothing.
use Rattle.std.specs.Prelude.{◌≡◌, List, ℕ, T, ℤ, length}
use Rattle.pyramid.specs.declared.Settings.{Settings}
use Rattle.bale.specs.declared.Note.{Note}
use Rattle.bale.specs.Definitions.Readings.{HeldReading, note_ok}
use Rattle.bale.specs.Definitions.Calls.{write_refusal}
use Rattle.lepsarvu.specs.Definitions.Exports.{settings_of, settings_array, note_of, note_array, coded_refusal}

pub record Arrays : Type 0 where
  pub settings : (s : Settings) → length s.bins ≡ 7 → settings_of (settings_array s) ≡ s
  pub numbers : (numbers : List ℕ) → length numbers ≡ 13 → settings_array (settings_of numbers) ≡ numbers
  -- of a note that a file can hold; the writer then looks for what it looks for of the note itself
  pub note : (note : Note) → HeldReading note.before_drier → HeldReading note.at_press → T (note_ok note) → note_of (note_array note) ≡ note
  pub writer : (s : Settings) (note : Note) → HeldReading note.before_drier → HeldReading note.at_press → T (note_ok note) → (levels : List ℤ) (room : ℕ)
      → coded_refusal s (note_array note) levels room ≡ write_refusal s note levels room
