-- `pixel::axes::Step::line` meets its contract: the taps that EXPAND takes at even and at odd columns. Assumes nothing.
use Rattle.std.proofs.Common.{pos, get_or, arith}
use borrow.Author.Rules.{sfits_of}
use Rattle.pyramid.proofs.TapSums.{within_held}
use Rattle.pixel.proofs.Lines.{odd_line, even_line}
use Rattle.pixel.proofs.axes.Step.line.Goals as goal

pub even-abc-requires : goal.even-abc-requires
even-abc-requires c = (within_held tt (c.requires 0), within_held tt (c.requires 1), within_held tt (c.requires 2))

pub odd-bc-requires : goal.odd-bc-requires
odd-bc-requires c = (within_held tt (c.requires 1), within_held tt (c.requires 2))

pub even-bcd-requires : goal.even-bcd-requires
even-bcd-requires c = (within_held tt (c.requires 1), within_held tt (c.requires 2), within_held tt (c.requires 3))

pub odd-requires : goal.odd-requires
odd-requires c = (within_held tt (c.requires 2), within_held tt (c.requires 3))

pub odd-requires-else-self-eq1 : goal.odd-requires-else-self-eq1
odd-requires-else-self-eq1 c = (within_held tt (c.requires 0), within_held tt (c.requires 1))

pub returns-then-self-eq1 : goal.returns-then-self-eq1
returns-then-self-eq1 c =
    odd_line c.args.weights.kernel c.args.self.below (λ n. get_or c.args.v n (pos 0)) c.requires
    (sfits_of c.even-abc.type_inv) (sfits_of c.odd-bc.type_inv) (sfits_of c.even-bcd.type_inv) (sfits_of c.odd.type_inv)
    c.if-self-eq1.true c.even-abc.ensures c.odd-bc.ensures c.even-bcd.ensures c.odd.ensures

pub returns-else-self-eq1 : goal.returns-else-self-eq1
returns-else-self-eq1 c =
    even_line c.args.weights.kernel c.args.self.below (λ n. get_or c.args.v n (pos 0)) c.requires
    (sfits_of c.odd-else-self-eq1.type_inv) (sfits_of c.even-abc.type_inv) (sfits_of c.odd-bc.type_inv) (sfits_of c.even-bcd.type_inv)
    (omega (arith, c.if-self-eq1.false)) c.odd-else-self-eq1.ensures c.even-abc.ensures c.odd-bc.ensures c.even-bcd.ensures
