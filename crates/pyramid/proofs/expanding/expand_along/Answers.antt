-- `pyramid::expanding::expand_along` meets its contract: two sums a turn, and at the edges one of each. Assumes nothing.
use Rattle.std.proofs.Common.{◌≡◌, refl, ◌+◌, ◌-◌, ◌*◌, length, arith}
use borrow.Author.Rules.{sfits_of}
use Rattle.mathematics.proofs.Filling.{filling_start, filling_next}
use Rattle.pyramid.proofs.LentParts.{filled_whole}
use Rattle.pyramid.proofs.Edge.{read_inside, read_before, read_past}
use Rattle.pyramid.proofs.TapSums.{within_held}
use Rattle.pyramid.proofs.ExpandTaps.{even_sum, odd_sum}
use Rattle.pyramid.proofs.expanding.expand_along.Goals as goal

pub even-requires : goal.even-requires
even-requires c = let small = c.requires.small in (within_held tt (small _), within_held tt (small _), within_held tt (small _))

pub odd-requires : goal.odd-requires
odd-requires c = let small = c.requires.small in (within_held tt (small _), within_held tt (small _))

pub even-requires-in-loop-a : goal.even-requires-in-loop-a
even-requires-in-loop-a c = let small = c.requires.small in (within_held tt (small _), within_held tt (small _), within_held tt (small _))

pub odd-requires-in-loop-a : goal.odd-requires-in-loop-a
odd-requires-in-loop-a c = let small = c.requires.small in (within_held tt (small _), within_held tt (small _))

pub even-requires-2 : goal.even-requires-2
even-requires-2 c = let small = c.requires.small in (within_held tt (small _), within_held tt (small _), within_held tt (small _))

pub loop-a-init : goal.loop-a-init
loop-a-init c =
    let k = c.args.weights.kernel in
    let last = length c.args.sums.now - 1 in
    filling_next
    (filling_next (filling_start _ _ _ _) (omega arith) refl
    (even_sum k last c.args.sums.now c.requires.small 0 (sfits_of c.even.type_inv) c.even.ensures refl (read_before _ _ (omega arith) (omega arith)) (read_inside _ _ (omega arith) (omega arith)) (read_inside _ _ (omega arith) (omega arith)))
    (omega arith))
    (omega arith) refl
    (odd_sum k last c.args.sums.now c.requires.small 1 (sfits_of c.odd.type_inv) c.odd.ensures refl (read_inside _ _ (omega arith) (omega arith)) (read_inside _ _ (omega arith) (omega arith)))
    (omega arith)

pub loop-a-preserved : goal.loop-a-preserved
loop-a-preserved c =
    let k = c.args.weights.kernel in
    let last = length c.args.sums.now - 1 in
    let a = c.loop-a.a in
    let e : 2 * (a + 1) ≡ 2 * a + 1 + 1 = omega arith in
    rw e
    (filling_next
    (filling_next c.loop-a.invariant (omega arith) (omega arith)
    (even_sum k last c.args.sums.now c.requires.small (2 * a) (sfits_of c.even-in-loop-a.type_inv) c.even-in-loop-a.ensures (omega arith) (read_inside _ _ (omega arith) (omega arith)) (read_inside _ _ (omega arith) (omega arith)) (read_inside _ _ (omega arith) (omega arith)))
    (omega arith))
    (omega arith) (omega arith)
    (odd_sum k last c.args.sums.now c.requires.small (2 * a + 1) (sfits_of c.odd-in-loop-a.type_inv) c.odd-in-loop-a.ensures (omega arith) (read_inside _ _ (omega arith) (omega arith)) (read_inside _ _ (omega arith) (omega arith)))
    (omega arith))

pub returns : goal.returns
returns c =
    filled_whole
    (filling_next c.loop-a.invariant (omega arith) (omega arith)
    (even_sum c.args.weights.kernel (length c.args.sums.now - 1) c.args.sums.now c.requires.small (2 * c.loop-a.a) (sfits_of c.even-2.type_inv) c.even-2.ensures (omega arith) (read_inside _ _ (omega arith) (omega arith)) (read_inside _ _ (omega arith) (omega arith)) (read_past _ _ (omega arith) (omega arith)))
    (omega arith))
    (omega arith) c.requires.le_last.2
