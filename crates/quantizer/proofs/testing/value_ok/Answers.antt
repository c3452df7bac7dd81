-- `quantizer::testing::value_ok` meets its contract: the index's value, formed in 32 bits, and its distance from 0. Assumes nothing.
use Rattle.std.proofs.Common.{refl}
use Rattle.quantizer.proofs.Values.{value-fits, value-is}
use Rattle.quantizer.specs.Definitions.Values.{value_ok}
use Rattle.quantizer.proofs.testing.value_ok.Goals as goal

pub overflow_mul-from : goal.overflow_mul-from
overflow_mul-from c = rw (c.from.ensures, c.from-2.ensures) (value-fits c.ranges.index c.ranges.bin)

pub returns : goal.returns
unfolding value_ok
returns c = rw (c.unsigned_abs.ensures.value, c.from.ensures, c.from-2.ensures, c.from-3.ensures, value-is c.ranges.index c.ranges.bin) refl
