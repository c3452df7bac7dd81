-- `pgm::putting::put_number` meets its contract: the number, and the byte after it. Assumes nothing.
use Rattle.pgm.proofs.Writings.{put_some, put_then}
use Rattle.pgm.proofs.putting.put_number.Goals as goal

pub unwrap-digits-requires : goal.unwrap-digits-requires
unwrap-digits-requires c = put_some c.args.n c.args.part.now c.requires (c.put_decimal.ensures.value, c.put_decimal.ensures.buffer_after)

pub returns : goal.returns
returns c = put_then c.args.n c.args.part.now c.requires (c.put_decimal.ensures.value, c.put_decimal.ensures.buffer_after) c.unwrap-digits.ensures c.args.space
