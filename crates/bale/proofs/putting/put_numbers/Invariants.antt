-- What the loop of `bale::putting::put_numbers` keeps.
use Rattle.bale.proofs.Pieces.{Written}
use Rattle.bale.proofs.putting.put_numbers.Given as goal

abbrev pub invariant-loop-i : goal.invariant-loop-i
invariant-loop-i l = Written l.numbers l.initial.bytes l.bytes l.i
