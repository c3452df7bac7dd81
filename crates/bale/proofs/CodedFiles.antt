-- The writer accepts whatever levels an accepted coding leaves, and 16 bits hold their indices. Assumes nothing.
use mathlib.Core.Path.{◌≡◌}
use mathlib.Core.List.{List}
use Prim.Native.Nat.{ℕ}
use lib.IntN.{ℤ, pos}
use lib.ListN.{get_or}
use mir.Syntax.{w16}
use mir.Val.{SFits}
use Rattle.mathematics.proofs.IntegerLaws.{fits_by}
use Rattle.pyramid.specs.declared.Settings.{Settings}
use Rattle.pyramid.specs.declared.Manner.{Manner}
use Rattle.pyramid.specs.Definitions.Refusals.{limit}
use Rattle.pyramid.specs.Definitions.Calls.{coding}
use Rattle.pyramid.proofs.CodedLevels.{coded-settings, coded_values, coded-small, coded-total}
use Rattle.bale.specs.Theorems.RoundTrips.{CodedThenWritten}
use Rattle.bale.proofs.AcceptedFiles.{writing_accepted}

pub coded_then_written : CodedThenWritten
coded_then_written s note manner picture levels work room ok noted fits =
    writing_accepted s note (coding s manner picture levels work).levels room (coded-settings s manner picture levels work ok) noted
    (coded-total s manner picture levels work ok) fits (coded_values s manner picture levels work ok)

-- what `Held` asks of a level buffer holds of these levels
pub coded_short : (s : Settings) (manner : Manner) (picture : List ℕ) (levels work : List ℤ) → (coding s manner picture levels work).answer ≡ 0 → (p : ℕ)
    → SFits w16 (get_or (coding s manner picture levels work).levels p (pos 0))
coded_short s manner picture levels work ok p = fits_by w16 limit tt (coded-small s manner picture levels work ok p)
