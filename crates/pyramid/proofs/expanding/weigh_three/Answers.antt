-- `pyramid::expanding::weigh_three` meets its contract: after x turns the first x sums are written. Assumes nothing.
use Rattle.std.proofs.Common.{refl, ◌∙◌, arith}
use borrow.Author.Rules.{sfits_of}
use Rattle.mathematics.proofs.Held.{held_is}
use Rattle.mathematics.proofs.Filling.{filling_start, filling_next}
use Rattle.pyramid.proofs.LentParts.{filled_whole}
use Rattle.pyramid.proofs.TapSums.{within_more}
use Rattle.pyramid.proofs.ExpandTaps.{three_passed}
use Rattle.pyramid.proofs.expanding.weigh_three.Goals as goal

pub loop-x-init : goal.loop-x-init
loop-x-init c = filling_start _ _ _ _

pub loop-x-preserved : goal.loop-x-preserved
loop-x-preserved c =
    let (a, b, m) = c.requires.small in
    let x = c.loop-x.x in
    filling_next c.loop-x.invariant (omega arith) (omega arith)
    (held_is (sfits_of c.even.type_inv) ∙ c.even.ensures
    ∙ three_passed c.args.weights.kernel (within_more (omega arith) (a x)) (within_more (omega arith) (b x)) (within_more (omega arith) (m x)))
    (omega arith)

pub returns : goal.returns
returns c = filled_whole c.loop-x.invariant (omega arith) refl
