-- `pyramid::averaging::weigh_rows` meets its contract, column by column. Assumes nothing.
use Rattle.std.proofs.Common.{◌∙◌, arith}
use borrow.Author.Rules.{sfits_of}
use Rattle.mathematics.proofs.Held.{held_is}
use Rattle.mathematics.proofs.Filling.{filling_start, filling_next}
use Rattle.pyramid.proofs.ColumnSums.{five_unheld}
use Rattle.pyramid.proofs.LentParts.{filled_whole}
use Rattle.pyramid.proofs.TapSums.{within_held}
use Rattle.pyramid.proofs.averaging.weigh_rows.Goals as goal

pub loop-i-init : goal.loop-i-init
loop-i-init c = filling_start _ _ _ _

pub five-requires : goal.five-requires
five-requires c =
    let (a, b, m, d, e) = c.requires.small in
    (within_held tt (a _), within_held tt (b _), within_held tt (m _), within_held tt (d _), within_held tt (e _))

pub loop-i-preserved : goal.loop-i-preserved
loop-i-preserved c =
    let (a, b, m, d, e) = c.requires.small in
    filling_next c.loop-i.invariant (omega arith) (omega arith)
    (held_is (sfits_of c.five.type_inv) ∙ c.five.ensures ∙ five_unheld c.args.weights.kernel (a _) (b _) (m _) (d _) (e _))
    (omega arith)

pub returns : goal.returns
returns c = filled_whole c.loop-i.invariant (omega arith) (omega arith)
