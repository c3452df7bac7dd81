-- What the loop of `quantizer::indexing::index_each` keeps.
use Rattle.std.proofs.Common.{pos}
use Rattle.mathematics.proofs.Mapping.{Mapping}
use Rattle.quantizer.specs.Definitions.Bins.{bin_index}
use Rattle.quantizer.proofs.indexing.index_each.Given as goal

abbrev pub invariant-loop-value : goal.invariant-loop-value
invariant-loop-value l = Mapping (λ L. bin_index L l.fn.bin) (pos 0) l.initial.row l.row l.value-index
