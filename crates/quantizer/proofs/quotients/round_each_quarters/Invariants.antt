-- What the loop of `quantizer::quotients::round_each_quarters` keeps.
use Rattle.std.proofs.Common.{pos, ◌*◌}
use Rattle.mathematics.proofs.Mapping.{Mapping}
use Rattle.quantizer.specs.Definitions.Rounding.{round_div}
use Rattle.quantizer.proofs.quotients.round_each_quarters.Given as goal

abbrev pub invariant-loop-sum : goal.invariant-loop-sum
invariant-loop-sum l = Mapping (λ S. round_div S (4 * l.fn.quarter)) (pos 0) l.initial.row l.row l.sum-index
