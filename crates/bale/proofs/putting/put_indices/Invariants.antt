-- What the loop of `bale::putting::put_indices` keeps.
use mathlib.Core.List.{map}
use Rattle.bale.specs.Definitions.Words.{index_word}
use Rattle.bale.proofs.Pieces.{Written}
use Rattle.bale.proofs.putting.put_indices.Given as goal

abbrev pub invariant-loop-i : goal.invariant-loop-i
invariant-loop-i l = Written (map index_word l.indices) l.initial.bytes l.bytes l.i
