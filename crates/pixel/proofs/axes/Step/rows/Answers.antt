-- `pixel::axes::Step::rows` meets its contract: the four rows' sums, each row's down a column. Assumes nothing.
use Rattle.std.proofs.Common.{arith}
use Rattle.pyramid.proofs.TapSums.{within_fits}
use Rattle.pixel.proofs.Blocks.{sums_of, extended_block-small, rows_made, sums_within}
use Rattle.pixel.proofs.axes.Step.rows.Goals as goal

pub row-requires-clause-small : goal.row-requires-clause-small
row-requires-clause-small c = extended_block-small c.args.weights.kernel c.args.self c.args.values.now c.extended_rows-v.ensures c.requires

pub row-requires-2-clause-small : goal.row-requires-2-clause-small
row-requires-2-clause-small c = extended_block-small c.args.weights.kernel c.args.self c.args.values.now c.extended_rows-v.ensures c.requires

pub row-requires-3-clause-small : goal.row-requires-3-clause-small
row-requires-3-clause-small c = extended_block-small c.args.weights.kernel c.args.self c.args.values.now c.extended_rows-v.ensures c.requires

pub row-requires-4-clause-small : goal.row-requires-4-clause-small
row-requires-4-clause-small c = extended_block-small c.args.weights.kernel c.args.self c.args.values.now c.extended_rows-v.ensures c.requires

pub returns : goal.returns
returns c =
    let k = c.args.weights.kernel in
    let s = c.args.self in
    let v = c.args.values.now in
    let e = c.extended_rows-v.ensures in
    rows_made _ (λ y m. within_fits tt (sums_within c.args.weights.lawful s 8388608 v c.requires y m))
    (sums_of k s v e 0 (omega arith) c.row.ensures) (sums_of k s v e 1 (omega arith) c.row-2.ensures)
    (sums_of k s v e 2 (omega arith) c.row-3.ensures) (sums_of k s v e 3 (omega arith) c.row-4.ensures)
