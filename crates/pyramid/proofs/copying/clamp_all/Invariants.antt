-- What the loop of `pyramid::copying::clamp_all` keeps.
use lib.IntN.{pos}
use lib.ListN.{length, get_or}
use Rattle.mathematics.proofs.Filling.{Filling}
use Rattle.pyramid.specs.Definitions.Rebuilding.{clamp}
use Rattle.pyramid.proofs.copying.clamp_all.Given as goal

abbrev pub invariant-loop-i : goal.invariant-loop-i
invariant-loop-i l =
    Filling 0 (length l.src) (λ k. clamp l.fn.lawful (get_or l.src k (pos 0))) l.initial.picture l.picture l.i
