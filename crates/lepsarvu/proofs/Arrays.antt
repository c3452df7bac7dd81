-- What a reader fills can be handed in again. Assumes nothing.
use mathlib.Core.Path.{◌≡◌, refl, ◌∙◌}
use mathlib.Core.List.{List, [], ◌∷◌}
use Prim.Native.Nat.{ℕ, zero, suc}
use lib.Dec.{T}
use lib.IntN.{ℤ}
use lib.ListN.{length, get_or}
use Rattle.std.proofs.lemmas.List.{map-id}
use Rattle.mathematics.specs.Definitions.Tables.{tabulate}
use Rattle.mathematics.proofs.Tables.{tabulate-map}
use Rattle.mathematics.proofs.Tests.{both}
use Rattle.pyramid.specs.declared.Settings.{Settings}
use Rattle.pyramid.specs.Definitions.Settings.{bin}
use Rattle.pyramid.specs.Definitions.Refusals.{first, settings_refusal}
use Rattle.pyramid.proofs.Refusals.{first-last}
use Rattle.bale.specs.declared.Note.{Note}
use Rattle.bale.specs.Definitions.Readings.{HeldReading, reading_ok, note_ok}
use Rattle.bale.specs.Definitions.Calls.{write_refusal}
use Rattle.bale.proofs.Readings.{decode_code}
use Rattle.lepsarvu.specs.Definitions.Exports.{settings_of, settings_array, note_of, note_array, reading_at, coded_refusal}
use Rattle.lepsarvu.specs.Checks.Arrays.{Arrays}

-- a list of so many numbers, read place by place
table_is : (n : ℕ) (numbers : List ℕ) → length numbers ≡ n → tabulate n (λ i. get_or numbers i 0) ≡ numbers
table_is n numbers e = rw (← e) (tabulate-map (λ k. k) 0 numbers ∙ map-id numbers)

settings_back : (s : Settings) → length s.bins ≡ 7 → settings_of (settings_array s) ≡ s
unfolding settings_of settings_array tabulate
settings_back s seven = let bins : tabulate 7 (bin s) ≡ s.bins = table_is 7 s.bins seven in rw bins refl

numbers_back : (numbers : List ℕ) → length numbers ≡ 13 → settings_array (settings_of numbers) ≡ numbers
unfolding settings_of settings_array tabulate
numbers_back numbers long = table_is 13 numbers long

module _ (note : Note) (drier : HeldReading note.before_drier) (press : HeldReading note.at_press) (ok : T (note_ok note)) where
  both_ok : T (reading_ok note.before_drier) × T (reading_ok note.at_press)
  unfolding note_ok
  both_ok = both (reading_ok note.before_drier) (reading_ok note.at_press) ok

  first_is : reading_at (note_array note) 0 ≡ record { refusal = 0; reading = note.before_drier }
  unfolding reading_at note_array
  first_is = decode_code note.before_drier drier both_ok.0

  second_is : reading_at (note_array note) 2 ≡ record { refusal = 0; reading = note.at_press }
  unfolding reading_at note_array
  second_is = decode_code note.at_press press both_ok.1

  note_back : note_of (note_array note) ≡ note
  note_back = rw (first_is, second_is) refl

  -- the settings are looked at once more by the writer, to which the readings are lawful
  once_more : (x : ℕ) (later : List ℕ) → first (x ∷ 0 ∷ 0 ∷ first (x ∷ later) ∷ []) ≡ first (x ∷ later)
  unfolding first
  once_more zero later = first-last (first later)
  once_more (suc n) later = refl

  writer_is : (s : Settings) (levels : List ℤ) (room : ℕ) → coded_refusal s (note_array note) levels room ≡ write_refusal s note levels room
  unfolding coded_refusal write_refusal
  writer_is s levels room = rw (first_is, second_is) (once_more (settings_refusal s) _)

pub arrays : Arrays
arrays = record {
  settings = settings_back;
  numbers = numbers_back;
  note = note_back;
  writer = λ s note drier press ok. writer_is note drier press ok s;
}
