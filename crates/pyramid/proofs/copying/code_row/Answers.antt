-- `pyramid::copying::code_row` meets its contract, in either manner. Assumes nothing.
use Rattle.std.proofs.Common.{◌≡◌, ◌∙◌, refl, length, get_or, pos, ◌-ℤ◌}
use Rattle.mathematics.specs.Definitions.Tables.{tabulate}
use Rattle.quantizer.specs.Definitions.Bins.{bin_index}
use Rattle.pyramid.specs.Inner.Rows.{Small}
use Rattle.pyramid.proofs.Copies.{indices_made, indices_small, differences_small, recovered, values_within, closed_kept, open_kept}
use Rattle.pyramid.proofs.copying.code_row.Goals as goal
use Rattle.pyramid.proofs.copying.code_row.Goals.{After-subtract_row, After-recover_row, After-index_row-in-ClosedLoop}

-- what the differences give
module _ (n : After-subtract_row) where
  small : Small 16777216 n.subtract_row.new.predicted
  small = differences_small n.args.values.now n.args.predicted.now n.args.bin (length n.args.predicted.now) n.subtract_row.ensures n.requires.lengths.0 n.requires.small n.requires.small_2

pub index_row-requires-clause-small : goal.index_row-requires-clause-small
index_row-requires-clause-small c =
    indices_small c.args.values.now c.args.predicted.now c.args.bin (length c.args.predicted.now) c.subtract_row.ensures c.requires.lengths.0 c.requires.indices_within

pub returns-in-OpenLoop-clause-made : goal.returns-in-OpenLoop-clause-made
returns-in-OpenLoop-clause-made c =
    c.index_row.ensures ∙ indices_made c.args.values.now c.args.predicted.now c.args.bin (length c.args.predicted.now) c.subtract_row.ensures c.requires.lengths.0

pub returns-in-OpenLoop-clause-kept : goal.returns-in-OpenLoop-clause-kept
returns-in-OpenLoop-clause-kept c = rw c.in-OpenLoop.is (open_kept c.args.values.now c.args.predicted.now c.args.bin)

pub recover_row-requires-clause-small_2 : goal.recover_row-requires-clause-small_2
recover_row-requires-clause-small_2 c = small (goal.at.recover_row-requires-clause-small_2 c).After-subtract_row

pub index_row-requires-in-ClosedLoop-clause-small : goal.index_row-requires-in-ClosedLoop-clause-small
index_row-requires-in-ClosedLoop-clause-small c =
    indices_small c.args.values.now c.args.predicted.now c.args.bin (length c.args.predicted.now) c.subtract_row.ensures c.requires.lengths.0 c.requires.indices_within

-- what stands in the place of the averages again
back : (n : After-recover_row) → n.recover_row.new.averages ≡ n.args.predicted.now
back n = n.recover_row.ensures ∙ recovered n.args.values.now n.args.predicted.now n.args.bin (length n.args.predicted.now) n.subtract_row.ensures n.requires.lengths.0 n.requires.lengths.0

-- the indices that stand there
made : (n : After-index_row-in-ClosedLoop) → n.index_row-in-ClosedLoop.new.indices
    ≡ tabulate (length n.args.values.now) (λ i. bin_index (get_or n.args.values.now i (pos 0) -ℤ get_or n.args.predicted.now i (pos 0)) n.args.bin)
made n =
    n.index_row-in-ClosedLoop.ensures ∙ indices_made n.args.values.now n.args.predicted.now n.args.bin (length n.args.predicted.now) n.subtract_row.ensures n.requires.lengths.0

pub value_row-requires-clause-small : goal.value_row-requires-clause-small
value_row-requires-clause-small c = rw (back (goal.at.value_row-requires-clause-small c).After-recover_row) c.requires.small_2

pub value_row-requires-clause-values_within : goal.value_row-requires-clause-values_within
value_row-requires-clause-values_within c =
    values_within c.args.values.now c.args.predicted.now c.args.bin (made (goal.at.value_row-requires-clause-values_within c).After-index_row-in-ClosedLoop) c.requires.indices_within

pub returns-in-ClosedLoop-clause-made : goal.returns-in-ClosedLoop-clause-made
returns-in-ClosedLoop-clause-made c = made (goal.at.returns-in-ClosedLoop-clause-made c).After-index_row-in-ClosedLoop

pub returns-in-ClosedLoop-clause-kept : goal.returns-in-ClosedLoop-clause-kept
returns-in-ClosedLoop-clause-kept c =
    (rw (back (goal.at.returns-in-ClosedLoop-clause-kept c).After-recover_row, c.requires.lengths.0) at c.value_row.ensures)
    ∙ closed_kept c.args.values.now c.args.predicted.now c.args.bin (made (goal.at.returns-in-ClosedLoop-clause-kept c).After-index_row-in-ClosedLoop) ∙ rw c.in-ClosedLoop.is refl
