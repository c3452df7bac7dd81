-- `quantizer::indexing::index_each_near` meets its contract: each turn of its loop makes one index. Assumes nothing.
use Rattle.std.proofs.Common.{◌≡◌, ◌∙◌, pos, arith, rules}
use lib.ListN.{get_or}
use borrow.Author.Rules.{sfits_of}
use Rattle.mathematics.proofs.Held.{held, held_is}
use Rattle.mathematics.proofs.Mapping.{mapping_start, mapping_next, mapping_end}
use Rattle.quantizer.proofs.Bins.{floor_bin}
use Rattle.quantizer.proofs.Nearness.{near_at}
use Rattle.quantizer.proofs.indexing.index_each_near.Goals as goal

pub loop-value-init : goal.loop-value-init
loop-value-init c = mapping_start _ _ _

pub multiply-requires-clause-short : goal.multiply-requires-clause-short
multiply-requires-clause-short c =
    let i = c.loop-value.value-index in
    let value : held (get_or c.loop-value.row i (pos 0)) ≡ get_or c.loop-value.row i (pos 0) = search rules in
    rw (value, c.loop-value.invariant.left i (omega arith)) (near_at c.args.row.now i c.requires.values c.loop-value-test.true)

pub loop-value-preserved : goal.loop-value-preserved
loop-value-preserved c =
    let i = c.loop-value.value-index in
    let value : held (get_or c.loop-value.row i (pos 0)) ≡ get_or c.loop-value.row i (pos 0) = search rules in
    mapping_next c.loop-value.invariant (omega arith)
    (held_is (sfits_of c.multiply.type_inv) ∙ floor_bin _ c.args.bin _ c.requires.bin.0 (rw value at c.multiply.ensures))

pub returns : goal.returns
returns c = mapping_end c.loop-value.invariant c.loop-value-test.false
