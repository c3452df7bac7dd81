-- `quantizer::dividing::divide_short` meets its contract: what is divided is not below 0, and 32 bits hold it. Assumes nothing.
use Rattle.std.proofs.Common.{arith}
use Rattle.quantizer.proofs.ShortDivision.{quotient_fits, result_fits, result_floor}
use Rattle.quantizer.proofs.dividing.divide_short.Goals as goal

pub overflow_cast-result-2 : goal.overflow_cast-result-2
overflow_cast-result-2 c = quotient_fits c.args.x c.requires.divisor c.requires.short (omega arith)

pub overflow_sub-result : goal.overflow_sub-result
overflow_sub-result c = result_fits c.args.x c.requires.divisor c.requires.short (omega arith)

pub returns : goal.returns
returns c = result_floor c.args.x c.requires.divisor c.requires.short (omega arith)
