-- What the loop of `bale::putting::put_bins` keeps.
use Rattle.bale.proofs.Pieces.{Bins}
use Rattle.bale.proofs.putting.put_bins.Given as goal

abbrev pub invariant-loop-level : goal.invariant-loop-level
invariant-loop-level l = Bins l.fn.shape.settings l.initial.words l.words l.level
