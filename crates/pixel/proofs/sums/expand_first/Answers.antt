-- `pixel::sums::expand_first` meets its contract: the first sum of each row, and then of these. Assumes nothing.
use Rattle.std.proofs.Common.{arith}
use Rattle.pyramid.proofs.TapSums.{within_more}
use Rattle.pixel.proofs.Blocks.{sums_of, extended_block-small, firsts-small, down-small, first_made}
use Rattle.pixel.proofs.sums.expand_first.Goals as goal

pub row-requires-clause-small : goal.row-requires-clause-small
row-requires-clause-small c = extended_block-small c.args.weights.kernel c.args.columns c.args.values.now c.extended_rows-v.ensures (λ n. within_more (omega arith) (c.requires n))

pub row-requires-2-clause-small : goal.row-requires-2-clause-small
row-requires-2-clause-small c = extended_block-small c.args.weights.kernel c.args.columns c.args.values.now c.extended_rows-v.ensures (λ n. within_more (omega arith) (c.requires n))

pub row-requires-3-clause-small : goal.row-requires-3-clause-small
row-requires-3-clause-small c = extended_block-small c.args.weights.kernel c.args.columns c.args.values.now c.extended_rows-v.ensures (λ n. within_more (omega arith) (c.requires n))

pub row-requires-4-clause-small : goal.row-requires-4-clause-small
row-requires-4-clause-small c = extended_block-small c.args.weights.kernel c.args.columns c.args.values.now c.extended_rows-v.ensures (λ n. within_more (omega arith) (c.requires n))

pub extended-down-requires : goal.extended-down-requires
extended-down-requires c =
    let k = c.args.weights.kernel in
    let s = c.args.columns in
    let v = c.args.values.now in
    let e = c.extended_rows-v.ensures in
    firsts-small k s c.args.rows v c.args.weights.lawful c.requires
    (sums_of k s v e 0 (omega arith) c.row.ensures) (sums_of k s v e 1 (omega arith) c.row-2.ensures)
    (sums_of k s v e 2 (omega arith) c.row-3.ensures) (sums_of k s v e 3 (omega arith) c.row-4.ensures)

pub line-requires : goal.line-requires
line-requires c =
    let k = c.args.weights.kernel in
    let s = c.args.columns in
    let v = c.args.values.now in
    let e = c.extended_rows-v.ensures in
    down-small k s c.args.rows v c.args.weights.lawful c.requires
    (sums_of k s v e 0 (omega arith) c.row.ensures) (sums_of k s v e 1 (omega arith) c.row-2.ensures)
    (sums_of k s v e 2 (omega arith) c.row-3.ensures) (sums_of k s v e 3 (omega arith) c.row-4.ensures) c.extended-down.ensures

pub returns : goal.returns
returns c =
    let k = c.args.weights.kernel in
    let s = c.args.columns in
    let v = c.args.values.now in
    let e = c.extended_rows-v.ensures in
    first_made k s c.args.rows v c.args.weights.lawful c.requires
    (sums_of k s v e 0 (omega arith) c.row.ensures) (sums_of k s v e 1 (omega arith) c.row-2.ensures)
    (sums_of k s v e 2 (omega arith) c.row-3.ensures) (sums_of k s v e 3 (omega arith) c.row-4.ensures) c.extended-down.ensures c.line.ensures c.round_row.ensures
