-- `quantizer::indexing::bin_index` meets its contract, by what `divide` promises and the law of bins. Assumes nothing.
use Rattle.std.proofs.Common.{sym, ◌∙◌, arith}
use borrow.Author.Rules.{sfits_of}
use Rattle.mathematics.proofs.Held.{held_is}
use Rattle.quantizer.specs.Definitions.Bins.Law.{bin-zero}
use Rattle.quantizer.proofs.Bins.{floor_bin}
use Rattle.quantizer.proofs.indexing.bin_index.Goals as goal

pub returns-then-bin-eq0 : goal.returns-then-bin-eq0
returns-then-bin-eq0 c = sym (rw c.if-bin-eq0.true (bin-zero _))

pub returns : goal.returns
returns c =
    held_is (sfits_of c.divide.type_inv) ∙ floor_bin c.args.value c.args.bin _ (omega arith) (rw (held_is c.ranges.value) at c.divide.ensures)
