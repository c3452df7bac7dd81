-- `pyramid::averaging::column_pass` meets its contract: the five rows are those about row 2j. Assumes nothing.
use Rattle.std.proofs.Common.{◌∙◌, add-zero}
use Rattle.pyramid.proofs.RowSums.{sums_small, column_formed}
use Rattle.pyramid.proofs.averaging.column_pass.Goals as goal

pub weigh_rows-requires-clause-small : goal.weigh_rows-requires-clause-small
weigh_rows-requires-clause-small c =
    let small = c.requires.small in (
      sums_small _ _ _ c.sums_at-a.ensures.is c.sums_at-a.ensures.long small,
      sums_small _ _ _ c.sums_at-b.ensures.is c.sums_at-b.ensures.long small,
      sums_small _ _ _ c.sums_at-c.ensures.is c.sums_at-c.ensures.long small,
      sums_small _ _ _ c.sums_at-d.ensures.is c.sums_at-d.ensures.long small,
      sums_small _ _ _ c.sums_at-e.ensures.is c.sums_at-e.ensures.long small,
    )

pub returns : goal.returns
returns c =
    c.round_row.ensures ∙ rw c.weigh_rows.ensures
    (column_formed c.args.weights.kernel c.args.z _ c.args.j c.args.sums.now
    (rw add-zero c.sums_at-a.ensures.is) c.sums_at-b.ensures.is c.sums_at-c.ensures.is c.sums_at-d.ensures.is c.sums_at-e.ensures.is)
