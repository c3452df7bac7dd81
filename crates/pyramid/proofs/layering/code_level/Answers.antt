-- `pyramid::layering::code_level` meets its contract, row by row. Assumes nothing.
use Rattle.std.proofs.Common.{◌≡◌, sym, ap, ◌∙◌, subst, List, suc, ◌+◌, ◌*◌, ◌≤◌, ◌<◌, length, take, ◌++◌, ℤ, ◌-ℤ◌, arith}
use Rattle.mathematics.specs.Inner.Splices.{part}
use Rattle.pyramid.specs.Definitions.Settings.{bin}
use Rattle.pyramid.specs.Definitions.Sizes.{rows_at, nodes_at}
use Rattle.pyramid.specs.Definitions.Pyramid.{index_of}
use Rattle.pyramid.specs.Definitions.Buffers.{start, read_levels}
use Rattle.pyramid.specs.Inner.Rows.{Small, kept}
use Rattle.pyramid.specs.Inner.Layers.{index_at, kept_at, LevelSmall}
use Rattle.pyramid.proofs.Rendering.{rendering_start, rendering_end}
use Rattle.pyramid.proofs.PredictedRows.{row_small, row_of}
use Rattle.pyramid.proofs.LentParts.{lent_after}
use Rattle.pyramid.proofs.LevelParts.{level_inside}
use Rattle.pyramid.proofs.MadeRows.{row_fits, above_kept, above_small, made_next}
use Rattle.pyramid.proofs.CodeLevels.{code_room, length_averages, averages_here, averages_small, average_node, indices_within}
use Rattle.pyramid.proofs.layering.code_level.Goals as goal
use Rattle.pyramid.proofs.layering.code_level.Goals.{In-loop-j}

pub split_at_mut-before-requires : goal.split_at_mut-before-requires
split_at_mut-before-requires c = omega (arith, code_room c.requires)

pub loop-j-init : goal.loop-j-init
loop-j-init c = (rendering_start _ _ _ _ _, rendering_start _ _ _ _ _)

-- before a row is coded
module _ (n : In-loop-j) where
  back : n.split_at_mut-before.result.0.now ≡ take (start n.args.level.settings n.args.level.number) n.args.work.now
  back = n.split_at_mut-before.ensures.front ∙ rw n.start-from.ensures.0

  turn : n.loop-j.j < rows_at n.args.level.settings n.args.level.number
  turn = omega (arith, n.loop-j-test.true, n.rows-j-end.ensures.0)

  -- what begins with the level holds all of it
  held : nodes_at n.args.level.settings n.args.level.number ≤ length n.split_at_mut-before.result.1.now
  held = omega (arith, code_room n.requires, n.split_at_mut-before.ensures.back_len, n.start-from.ensures.0)

  small : LevelSmall n.args.level.settings (suc n.args.level.number) 524288 n.split_at_mut-before.result.0.now
  small = above_small n.args.level.settings n.args.level.number n.args.work.now back n.requires.above (omega arith)

  averages : part (n.loop-j.j * n.columns-columns.result) (n.loop-j.j * n.columns-columns.result + n.columns-columns.result) n.loop-j.here
      ≡ row_of n.args.level.settings n.args.level.number n.loop-j.j n.args.work.now
  averages =
      rw n.columns-columns.ensures.0
      (averages_here n.requires turn n.args.manner (n.split_at_mut-before.ensures.back ∙ rw n.start-from.ensures.0) n.loop-j.invariant.1 held)

pub predict_row-requires-clause-small : goal.predict_row-requires-clause-small
predict_row-requires-clause-small c = small (goal.at.predict_row-requires-clause-small c).In-loop-j

pub slice_bounds-indices-end : goal.slice_bounds-indices-end
slice_bounds-indices-end c =
    let n = (goal.at.slice_bounds-indices-end c).In-loop-j in
    omega (arith, row_fits n.args.level.settings n.args.level.number n.requires.deep (turn n) n.start-from.ensures.0 n.columns-columns.ensures.0, n.requires.filled, n.loop-j.invariant.0.long)

pub code_row-requires-clause-small : goal.code_row-requires-clause-small
code_row-requires-clause-small c =
    let n = (goal.at.code_row-requires-clause-small c).In-loop-j in
    subst (Small 8388608) (sym (averages n)) (averages_small n.requires (turn n))

pub code_row-requires-clause-small_2 : goal.code_row-requires-clause-small_2
code_row-requires-clause-small_2 c =
    let n = (goal.at.code_row-requires-clause-small_2 c).In-loop-j in
    row_small c.args.level.settings c.args.level.lawful c.args.level.number c.requires.deep (read_levels c.args.level.settings c.split_at_mut-before.result.0.now) (small n).small c.loop-j.j (turn n) c.predict_row.ensures

pub code_row-requires-clause-indices_within : goal.code_row-requires-clause-indices_within
code_row-requires-clause-indices_within c =
    let n = (goal.at.code_row-requires-clause-indices_within c).In-loop-j in
    rw (averages n, c.bin-bin.ensures)
    (indices_within n.requires (turn n) c.args.level.lawful c.split_at_mut-before.result.0.now
    (above_kept c.args.level.settings c.args.level.number c.args.work.now (back n)) c.predict_row.ensures)

pub loop-j-preserved : goal.loop-j-preserved
unfolding index_of
loop-j-preserved c =
    let n = (goal.at.loop-j-preserved c).In-loop-j in
    let s = c.args.level.settings in
    let l = c.args.level.number in
    let across = c.columns-columns.ensures.0 in
    let given = part (c.loop-j.j * c.columns-columns.result) (c.loop-j.j * c.columns-columns.result + c.columns-columns.result) c.loop-j.here in
    let count = ap length (averages n) ∙ length_averages c.requires (turn n) in (
      made_next s l c.args.work.now (back n) c.args.level.lawful c.requires.deep (λ a e. index_of s l (a -ℤ e)) (read_levels s c.args.work.now l) c.loop-j.invariant.0 (omega (arith, level_inside s l c.requires.deep, c.requires.filled)) (turn n)
          given (λ i hi. rw (averages n) (average_node c.requires (turn n) i hi)) c.predict_row.ensures
          (c.code_row.ensures.made ∙ rw c.bin-bin.ensures) count (rw (c.start-from.ensures.0, across)) (rw across (omega arith)),
      made_next s l c.args.work.now (back n) c.args.level.lawful c.requires.deep (λ a e. kept c.args.manner a e (bin s l)) (read_levels s c.args.work.now l) c.loop-j.invariant.1 (omega (arith, held n)) (turn n)
          given (λ i hi. rw (averages n) (average_node c.requires (turn n) i hi)) c.predict_row.ensures
          (c.code_row.ensures.kept ∙ rw c.bin-bin.ensures) count (rw across (omega arith)) (rw across (omega arith)),
    )

pub returns-clause-levels_after : goal.returns-clause-levels_after
unfolding index_at
returns-clause-levels_after c = rendering_end c.loop-j.invariant.0 (omega (arith, c.loop-j-test.false, c.rows-j-end.ensures.0))

pub returns-clause-work_after : goal.returns-clause-work_after
unfolding kept_at
returns-clause-work_after c =
    ap (λ (xs : List ℤ). c.split_at_mut-before.result.0.now ++ xs) (rendering_end c.loop-j.invariant.1 (omega (arith, c.loop-j-test.false, c.rows-j-end.ensures.0)))
    ∙ lent_after (start c.args.level.settings c.args.level.number) c.args.work.now _
    (c.split_at_mut-before.ensures.front ∙ rw c.start-from.ensures.0) (c.split_at_mut-before.ensures.back ∙ rw c.start-from.ensures.0)
