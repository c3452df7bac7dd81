-- `bale::probes::percentage` meets its contract: bits that are a number's, and at most 100's. Assumes nothing.
use Rattle.bale.proofs.Readings.{no_nan_bits, decode_percentage, decode_above, decode_beyond}
use Rattle.bale.proofs.probes.percentage.Goals as goal
use Rattle.bale.proofs.probes.percentage.Goals.{else-bits-le2139095040-via-then-bits-le2139095040+else-bits, else-bits-le2139095040-via-else-bits-le2139095040}

pub float_from_bits-bits : goal.float_from_bits-bits
float_from_bits-bits c = no_nan_bits _ c.if-bits-le2139095040.true

pub float_from_bits-result : goal.float_from_bits-result
float_from_bits-result c = no_nan_bits _ c.if-bits-le2139095040.true

pub returns-then-bits : goal.returns-then-bits
returns-then-bits c = decode_percentage _ c.if-bits-le2139095040.true c.if-bits.true

pub returns-else-bits-le2139095040 : goal.returns-else-bits-le2139095040
returns-else-bits-le2139095040 c =
    elim c.else-bits-le2139095040.branch [
      | else-bits-le2139095040-via-then-bits-le2139095040+else-bits w ↦ decode_above _ w.if-bits.false
      | else-bits-le2139095040-via-else-bits-le2139095040 w ↦ decode_beyond _ w.if-bits-le2139095040.false
    ]
