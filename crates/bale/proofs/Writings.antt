-- Which rule the writer finds broken first. Assumes nothing.
use mathlib.Core.Path.{◌≡◌}
use mathlib.Core.Bool.{true, false}
use mathlib.Core.List.{List, [], ◌∷◌}
use Prim.Native.Nat.{ℕ, ◌≤◌, ◌<◌}
use borrow.Author.Tests.{le-leb, lt-leb, eq-eqb, ne_eqb}
use lib.Dec.{eqb}
use lib.IntN.{ℤ}
use lib.ListN.{length}
use Rattle.pyramid.specs.declared.Settings.{Settings}
use Rattle.pyramid.specs.Definitions.Sizes.{total}
use Rattle.pyramid.specs.Definitions.Refusals.{unless, first, settings_refusal, values_ok}
use Rattle.bale.specs.declared.Note.{Note}
use Rattle.bale.specs.Definitions.Readings.{note_ok}
use Rattle.bale.specs.Definitions.Files.{file_length}
use Rattle.bale.specs.Definitions.Calls.{write_refusal}

-- each rule where those before it hold; number 8 comes between 6 and 11, which are the levels' own

module _ (s : Settings) (note : Note) (levels : List ℤ) (room : ℕ) (none : settings_refusal s ≡ 0) where
  pub note_refused : false ≡ note_ok note → 4 ≡ write_refusal s note levels room
  unfolding write_refusal unless first
  note_refused n = rw (none, ← n)

  module _ (n : true ≡ note_ok note) where
    pub length_refused : (length levels ≡ total s → ⊥) → 6 ≡ write_refusal s note levels room
    unfolding write_refusal unless first
    length_refused wrong = rw (none, ← n, ne_eqb _ _ wrong)

    module _ (long : length levels ≡ total s) where
      pub room_refused : room < file_length s → 8 ≡ write_refusal s note levels room
      unfolding write_refusal unless first
      room_refused short = rw (none, ← n, eq-eqb _ _ long, lt-leb _ _ short)

      pub values_left : file_length s ≤ room
          → write_refusal s note levels room ≡ first (unless (eqb (length levels) (total s)) 6 ∷ unless (values_ok s levels) 11 ∷ [])
      unfolding write_refusal unless first
      values_left fits = rw (none, ← n, eq-eqb _ _ long, le-leb _ _ fits)
