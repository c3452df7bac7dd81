-- `quantizer::testing::pairs_within` meets its contract: each turn of its loop widens the range by one index. Assumes nothing.
use mathlib.Core.Path.{sym, ◌∙◌}
use mathlib.Core.List.{[]}
use native.Mathlib.Omega.{arith}
use borrow.Author.Rules.{sfits_of}
use lib.ListN.{get_or-map, length-map}
use Rattle.mathematics.proofs.Held.{short_is}
use Rattle.quantizer.specs.Definitions.Values.{pair_index}
use Rattle.quantizer.proofs.Ranges.{ranged_start, ranged_next, ranged_end}
use Rattle.quantizer.proofs.testing.pairs_within.Goals as goal

pub loop-pair-init : goal.loop-pair-init
loop-pair-init c = ranged_start _ _ _ _ c.default-range.ensures

pub loop-pair-preserved : goal.loop-pair-preserved
unfolding pair_index
loop-pair-preserved c =
    let pairs = c.args.pairs.now in
    ranged_next _ _ c.loop-pair.invariant (omega (arith, length-map pairs pair_index, c.loop-pair-test.true)) (pair_index [])
    (short_is (sfits_of c.from_le_bytes.type_inv) ∙ c.from_le_bytes.ensures ∙ sym (get_or-map pair_index pairs c.loop-pair.pair-index []))
    c.widened-range.ensures

pub returns : goal.returns
returns c = c.range_ok.ensures ∙ ranged_end _ _ c.loop-pair.invariant (omega (arith, length-map c.args.pairs.now pair_index, c.loop-pair-test.false))
