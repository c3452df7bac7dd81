-- `pgm::putting::put_header` meets its contract: part by part. Assumes nothing.
use Rattle.pgm.proofs.Writings.{header_whole}
use Rattle.pgm.proofs.putting.put_header.Goals as goal

pub returns : goal.returns
returns c =
    header_whole c.args.size.columns c.args.size.rows c.copy_from_slice.ensures.after c.put_number.ensures c.put_number-2.ensures c.copy_from_slice-2.ensures.after
