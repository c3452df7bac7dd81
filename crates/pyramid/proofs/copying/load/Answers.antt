-- `pyramid::copying::load` meets its contract: each turn of its loop stores one pixel. Assumes nothing.
use Rattle.std.proofs.Common.{◌∙◌, pos, arith, rules}
use Rattle.mathematics.proofs.Tables.{tabulate-map}
use Rattle.mathematics.proofs.Filling.{filling_start, filling_next}
use Rattle.pyramid.proofs.LentParts.{filled_whole}
use Rattle.pyramid.proofs.copying.load.Goals as goal

pub loop-i-init : goal.loop-i-init
loop-i-init c = filling_start _ _ _ _

pub loop-i-preserved : goal.loop-i-preserved
loop-i-preserved c = filling_next c.loop-i.invariant (omega arith) (omega arith) (search rules) (omega arith)

pub returns : goal.returns
returns c = filled_whole c.loop-i.invariant (omega arith) (omega arith) ∙ tabulate-map pos 0 c.args.picture.now
