-- Settings and readings as the controllers hand them in and get them (document 02, P5): arrays of numbers, which are structs in C and Rust.
-- Assumes nothing.
use Rattle.std.specs.Prelude.{List, [], ◌∷◌, ℕ, ◌+◌, ℤ, length, get_or}
use Rattle.mathematics.specs.Definitions.Tables.{tabulate}
use Rattle.pyramid.specs.declared.Settings.{Settings}
use Rattle.pyramid.specs.Definitions.Settings.{bin}
use Rattle.pyramid.specs.Definitions.Refusals.{first, settings_refusal}
use Rattle.pyramid.specs.Definitions.Calls.{leaves}
use Rattle.bale.specs.declared.Note.{Note}
use Rattle.bale.specs.Definitions.Readings.{ReadingAnswer, code_of, decode}
use Rattle.bale.specs.Definitions.Files.{file_length}
use Rattle.bale.specs.Definitions.Calls.{write_refusal, write_file}

-- ---- settings: columns, rows, depth, kernel, black, white, and then the seven bins

unfoldable pub settings_of : List ℕ → Settings
settings_of numbers =
    record {
      columns = get_or numbers 0 0;
      rows = get_or numbers 1 0;
      depth = get_or numbers 2 0;
      kernel = get_or numbers 3 0;
      black = get_or numbers 4 0;
      white = get_or numbers 5 0;
      bins = tabulate 7 (λ l. get_or numbers (6 + l) 0);
    }

unfoldable pub settings_array : Settings → List ℕ
settings_array s = s.columns ∷ s.rows ∷ s.depth ∷ s.kernel ∷ s.black ∷ s.white ∷ tabulate 7 (bin s)

-- ---- a note: the kind and the number of the reading before the drier, and then of the one at the press

unfoldable pub note_array : Note → List ℕ
note_array note =
    (code_of note.before_drier).kind ∷ (code_of note.before_drier).number ∷ (code_of note.at_press).kind ∷ (code_of note.at_press).number ∷ []

-- the reading that a kind and a number stand for, which begin at a place
unfoldable pub reading_at : List ℕ → ℕ → ReadingAnswer
reading_at numbers i = decode (get_or numbers i 0) (get_or numbers (i + 1) 0)

abbrev pub note_of : List ℕ → Note
note_of numbers = record { before_drier = (reading_at numbers 0).reading; at_press = (reading_at numbers 2).reading }

-- ---- the writer, handed settings and a note

module _ (s : Settings) (note : List ℕ) where
  -- its numbers in its order: a kind and a number that stand for no reading are 4
  unfoldable pub coded_refusal : List ℤ → ℕ → ℕ
  coded_refusal levels room =
      first (settings_refusal s ∷ (reading_at note 0).refusal ∷ (reading_at note 2).refusal ∷ write_refusal s (note_of note) levels room ∷ [])

  -- the file buffer afterwards
  unfoldable pub coded_file : List ℤ → List ℕ → List ℕ
  coded_file levels file = leaves (coded_refusal levels (length file)) (write_file s (note_of note) levels file).file file

  -- the lent size afterwards
  unfoldable pub coded_size : List ℤ → ℕ → ℕ → ℕ
  coded_size levels room old = leaves (coded_refusal levels room) (file_length s) old
