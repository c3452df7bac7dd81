-- `quantizer::dividing::multiply` meets its contract: what is multiplied is not below 0, and short enough for the reciprocal. Assumes nothing.
use Rattle.mathematics.proofs.Held.{natural_fits}
use Rattle.quantizer.proofs.Multiplication.{divisors_fit, added_fits, raised_fits, raised-natural, doubled_fits, factor_fits, product_fits, quotient_fits, result_fits, result_floor}
use Rattle.quantizer.proofs.dividing.multiply.Goals as goal

pub overflow_cast-raised : goal.overflow_cast-raised
overflow_cast-raised c = natural_fits c.ranges.h

pub overflow_cast-raised-2 : goal.overflow_cast-raised-2
overflow_cast-raised-2 c = natural_fits c.ranges.d

pub overflow_mul-raised : goal.overflow_mul-raised
overflow_mul-raised c = divisors_fit c.args.x c.requires.divisor c.requires.short

pub overflow_add-raised : goal.overflow_add-raised
overflow_add-raised c = added_fits c.args.x c.requires.divisor c.requires.short

pub overflow_add-raised-2 : goal.overflow_add-raised-2
overflow_add-raised-2 c = raised_fits c.args.x c.requires.divisor c.requires.short

pub overflow_cast-raised-3 : goal.overflow_cast-raised-3
overflow_cast-raised-3 c = raised-natural c.args.x c.requires.divisor c.requires.short

pub overflow_mul-doubled : goal.overflow_mul-doubled
overflow_mul-doubled c = doubled_fits c.args.x c.requires.divisor c.requires.short

pub overflow_cast-result : goal.overflow_cast-result
overflow_cast-result c = factor_fits c.args.x c.requires.divisor c.requires.short

pub overflow_mul-result : goal.overflow_mul-result
overflow_mul-result c = product_fits c.args.x c.requires.divisor c.requires.short c.ranges.factor

pub overflow_cast-result-3 : goal.overflow_cast-result-3
overflow_cast-result-3 c = quotient_fits c.args.x c.requires.divisor c.requires.short c.requires.factor

pub overflow_sub-result : goal.overflow_sub-result
overflow_sub-result c = result_fits c.args.x c.requires.divisor c.requires.short c.requires.factor

pub returns : goal.returns
returns c = result_floor c.args.x c.requires.divisor c.requires.short c.requires.factor
