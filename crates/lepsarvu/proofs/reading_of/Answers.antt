-- `lepsarvu::reading_of` meets its contract: a kind that is no byte's stands for no reading. Assumes nothing.
use native.Mathlib.Omega.{arith}
use Rattle.bale.proofs.Readings.{decode_other}
use Rattle.lepsarvu.proofs.reading_of.Goals as goal

pub returns-in-Err : goal.returns-in-Err
returns-in-Err c = let large = c.in-Err.ensures in decode_other _ _ (omega arith)
