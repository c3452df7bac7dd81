-- `test_support::fillers::fill` meets its contract: each turn of its loop stores one filler. Assumes nothing.
use Rattle.std.proofs.Common.{arith}
use Rattle.mathematics.proofs.Filling.{filling_start, filling_next}
use Rattle.test_support.proofs.Filled.{filled}
use Rattle.test_support.proofs.fillers.fill.Goals as goal

pub loop-i-init : goal.loop-i-init
loop-i-init g c f gives = filling_start _ _ _ _

pub loop-i-preserved : goal.loop-i-preserved
loop-i-preserved g c f gives = filling_next (c.loop-i.invariant f gives) (omega arith) (omega arith) (gives _ _ (omega arith) c.filler.ensures) (omega arith)

pub returns : goal.returns
returns g c f gives = filled (c.loop-i.invariant f gives) (omega arith)
