-- `pyramid::layering::value_level` meets its contract, row by row. Assumes nothing.
use Rattle.std.proofs.Common.{◌≡◌, ap, ◌∙◌, List, suc, ◌+◌, ◌*◌, ◌≤◌, ◌<◌, length, take, ◌++◌, ℤ, ◌+ℤ◌, arith}
use Rattle.mathematics.specs.Inner.Splices.{part}
use Rattle.mathematics.proofs.Tables.{length-tabulate}
use Rattle.pyramid.specs.Definitions.Sizes.{rows_at, nodes_at}
use Rattle.pyramid.specs.Definitions.Rebuilding.{value_of}
use Rattle.pyramid.specs.Definitions.Buffers.{start, read_levels}
use Rattle.pyramid.specs.Inner.Layers.{value_at, LevelSmall}
use Rattle.pyramid.proofs.Rendering.{rendering_start, rendering_end}
use Rattle.pyramid.proofs.PredictedRows.{row_small, row_of}
use Rattle.pyramid.proofs.LentParts.{lent_after}
use Rattle.pyramid.proofs.MadeRows.{row_is, row_fits, here_fits, above_small, made_next}
use Rattle.pyramid.proofs.ValueLevels.{value_room, index_node, values_within}
use Rattle.pyramid.proofs.layering.value_level.Goals as goal
use Rattle.pyramid.proofs.layering.value_level.Goals.{In-loop-j}

pub split_at_mut-before-requires : goal.split_at_mut-before-requires
split_at_mut-before-requires c = omega (arith, value_room c.requires)

pub loop-j-init : goal.loop-j-init
loop-j-init c = rendering_start _ _ _ _ _

-- in a turn
module _ (n : In-loop-j) where
  turn : n.loop-j.j < rows_at n.args.level.settings n.args.level.number
  turn = omega (arith, n.loop-j-test.true, n.rows-j-end.ensures.0)

  front : n.split_at_mut-before.result.0.now ≡ take (start n.args.level.settings n.args.level.number) n.args.work.now
  front = n.split_at_mut-before.ensures.front ∙ rw n.start-from.ensures.0

  -- the level's own place is long enough
  here_long : nodes_at n.args.level.settings n.args.level.number ≤ length n.split_at_mut-before.result.1.now
  here_long = omega (arith, value_room n.requires, n.split_at_mut-before.ensures.back_len, n.start-from.ensures.0)

  above : LevelSmall n.args.level.settings (suc n.args.level.number) 524288 n.split_at_mut-before.result.0.now
  above = above_small n.args.level.settings n.args.level.number n.args.work.now front n.requires.above (omega arith)

  -- the row of indices, and that of values
  indices : part (n.start-from.result + n.loop-j.j * n.columns-columns.result) (n.start-from.result + n.loop-j.j * n.columns-columns.result + n.columns-columns.result) n.args.levels.now
      ≡ row_of n.args.level.settings n.args.level.number n.loop-j.j n.args.levels.now
  indices = row_is n.args.level.settings n.args.level.number n.requires.deep turn n.start-from.ensures.0 n.columns-columns.ensures.0 n.args.levels.now

  fits : n.start-from.result + n.loop-j.j * n.columns-columns.result + n.columns-columns.result ≤ length n.args.levels.now
  fits = omega (arith, row_fits n.args.level.settings n.args.level.number n.requires.deep turn n.start-from.ensures.0 n.columns-columns.ensures.0, n.requires.filled)

  written : n.loop-j.j * n.columns-columns.result + n.columns-columns.result ≤ length n.loop-j.here
  written = here_fits n.args.level.settings n.args.level.number n.requires.deep turn n.start-from.ensures.0 n.columns-columns.ensures.0 (omega (arith, here_long, n.loop-j.invariant.long))

pub predict_row-requires-clause-small : goal.predict_row-requires-clause-small
predict_row-requires-clause-small c = above (goal.at.predict_row-requires-clause-small c).In-loop-j

pub slice_bounds-values-end : goal.slice_bounds-values-end
slice_bounds-values-end c = written (goal.at.slice_bounds-values-end c).In-loop-j

pub slice_bounds-value_row-end : goal.slice_bounds-value_row-end
slice_bounds-value_row-end c = fits (goal.at.slice_bounds-value_row-end c).In-loop-j

pub value_row-requires-clause-small : goal.value_row-requires-clause-small
value_row-requires-clause-small c =
    let n = (goal.at.value_row-requires-clause-small c).In-loop-j in
    row_small c.args.level.settings c.args.level.lawful c.args.level.number c.requires.deep (read_levels c.args.level.settings c.split_at_mut-before.result.0.now) (above n).small c.loop-j.j (turn n) c.predict_row.ensures

pub value_row-requires-clause-values_within : goal.value_row-requires-clause-values_within
value_row-requires-clause-values_within c =
    let n = (goal.at.value_row-requires-clause-values_within c).In-loop-j in
    rw (indices n, c.bin-bin.ensures) (values_within n.requires (turn n))

pub loop-j-preserved : goal.loop-j-preserved
unfolding value_of
loop-j-preserved c =
    let n = (goal.at.loop-j-preserved c).In-loop-j in
    let place = c.start-from.result + c.loop-j.j * c.columns-columns.result in
    made_next _ _ c.args.work.now (front n) c.args.level.lawful c.requires.deep (λ m e. value_of c.args.level.settings c.args.level.number m +ℤ e)
    (read_levels c.args.level.settings c.args.levels.now c.args.level.number) c.loop-j.invariant (omega (arith, here_long n)) (turn n)
    (part place (place + c.columns-columns.result) c.args.levels.now) (λ i hi. rw (indices n) (index_node c.requires (turn n) i hi)) c.predict_row.ensures
    (c.value_row.ensures ∙ rw c.bin-bin.ensures) (ap length c.predict_row.ensures ∙ length-tabulate _ _)
    (rw c.columns-columns.ensures.0 (omega arith)) (rw c.columns-columns.ensures.0 (omega arith))

pub returns : goal.returns
unfolding value_at
returns c =
    let s = c.args.level.settings in
    let l = c.args.level.number in
    let last = rendering_end {f = value_at s (read_levels s c.args.levels.now) (read_levels s c.args.work.now) l} c.loop-j.invariant (omega (arith, c.loop-j-test.false, c.rows-j-end.ensures.0)) in
    ap (λ (xs : List ℤ). c.split_at_mut-before.result.0.now ++ xs) last
    ∙ lent_after (start s l) c.args.work.now _
    (c.split_at_mut-before.ensures.front ∙ rw c.start-from.ensures.0)
    (c.split_at_mut-before.ensures.back ∙ rw c.start-from.ensures.0)
