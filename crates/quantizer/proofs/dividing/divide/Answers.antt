-- `quantizer::dividing::divide` meets its contract: 64 bits hold the sum, and 32 bits the quotient. Assumes nothing.
use borrow.Author.Rules.{sfits_of}
use Rattle.quantizer.proofs.WideDivision.{natural_wide, value_fits, sum_fits, no_overflow, quotient_fits, result_floor}
use Rattle.quantizer.proofs.dividing.divide.Goals as goal

pub overflow_cast-x : goal.overflow_cast-x
overflow_cast-x c = value_fits c.ranges.x c.ranges.h c.ranges.d

pub overflow_cast-h : goal.overflow_cast-h
overflow_cast-h c = natural_wide c.ranges.h

pub overflow_add-x : goal.overflow_add-x
overflow_add-x c = sum_fits c.ranges.x c.ranges.h c.ranges.d

pub overflow_cast-d : goal.overflow_cast-d
overflow_cast-d c = natural_wide c.ranges.d

pub div_euclid-requires-clause-no_overflow : goal.div_euclid-requires-clause-no_overflow
div_euclid-requires-clause-no_overflow c = λ e _. no_overflow c.ranges.x c.ranges.h c.ranges.d e

pub overflow_cast-result : goal.overflow_cast-result
overflow_cast-result c =
    quotient_fits c.ranges.x c.ranges.h c.ranges.d c.requires (sfits_of c.div_euclid.type_inv) c.div_euclid.ensures

pub returns : goal.returns
returns c = result_floor c.ranges.x c.ranges.h c.ranges.d c.requires (sfits_of c.div_euclid.type_inv) c.div_euclid.ensures
