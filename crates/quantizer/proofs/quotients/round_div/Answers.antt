-- `quantizer::quotients::round_div` meets its contract, by what `divide` promises and the law of rounding. Assumes nothing.
use mathlib.Core.Path.{sym, ◌∙◌}
use native.Mathlib.Omega.{arith}
use borrow.Author.Rules.{sfits_of}
use Rattle.mathematics.proofs.Held.{held_is}
use Rattle.quantizer.specs.Definitions.Rounding.Law.{round_zero}
use Rattle.quantizer.proofs.Rounding.{floor_round}
use Rattle.quantizer.proofs.quotients.round_div.Goals as goal

pub returns-then-divisor-eq0 : goal.returns-then-divisor-eq0
returns-then-divisor-eq0 c = sym (rw c.if-divisor-eq0.true (round_zero _))

pub returns : goal.returns
returns c =
    let s = c.before.before in
    held_is (sfits_of c.divide.type_inv) ∙ floor_round s.args.sum s.args.divisor _ (omega arith) (rw (held_is s.ranges.sum) at c.divide.ensures)
