-- `bale::putting::put_file` meets its contract: section by section, and an accepted file has room for all. Assumes nothing.
use native.Mathlib.Omega.{arith}
use Rattle.bale.specs.Definitions.Files.{file_length}
use Rattle.bale.proofs.AcceptedFiles.{accepted_writing}
use Rattle.bale.proofs.Pieces.{file_whole}
use Rattle.bale.proofs.putting.put_file.Goals as goal

pub split_at_mut-file-requires : goal.split_at_mut-file-requires
split_at_mut-file-requires c = omega (arith, c.file_length.ensures, (accepted_writing _ _ _ _ c.requires).fits)

pub split_at_mut-front-requires : goal.split_at_mut-front-requires
unfolding file_length
split_at_mut-front-requires c = omega (arith, c.levels.ensures, c.file_length.ensures, c.split_at_mut-file.ensures.front_len)

pub put_readings-requires-clause-lawful : goal.put_readings-requires-clause-lawful
put_readings-requires-clause-lawful c = (accepted_writing _ _ _ _ c.requires).noted

pub put_levels-requires-clause-levels_length : goal.put_levels-requires-clause-levels_length
put_levels-requires-clause-levels_length c = (accepted_writing _ _ _ _ c.requires).long

pub returns : goal.returns
returns c =
    let a = c.args in
    rw (c.split_at_mut-file.ensures.back, c.file_length.ensures)
    (file_whole a.shape.settings a.note a.levels.now _ c.put_shape.ensures c.put_bins.ensures c.put_readings.ensures c.put_levels.ensures)
