-- What the loop of `pgm::finding::digits_place` keeps.
use Rattle.pgm.proofs.Passing.{Passing}
use Rattle.pgm.proofs.finding.digits_place.Given as goal

abbrev pub invariant-loop-i : goal.invariant-loop-i
invariant-loop-i l = Passing l.rest l.inside l.i
