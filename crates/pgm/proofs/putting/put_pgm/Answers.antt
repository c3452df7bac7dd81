-- `pgm::putting::put_pgm` meets its contract: the header, then the pixels. Assumes nothing.
use Rattle.pgm.proofs.Writings.{pgm_whole}
use Rattle.pgm.proofs.putting.put_pgm.Goals as goal

pub returns : goal.returns
returns c = pgm_whole c.args.size.columns c.args.size.rows c.args.picture.now c.put_header.ensures c.copy_from_slice.ensures.after
