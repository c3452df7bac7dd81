-- `pyramid::layering::average_levels` meets its contract: each turn makes the averages of one level more. Assumes nothing.
use Rattle.std.proofs.Common.{◌≡◌, ◌<◌, suc, refl, ap, ◌∙◌, take, drop, arith}
use Rattle.pyramid.specs.declared.Settings.{Settings}
use Rattle.pyramid.specs.Definitions.Sizes.{columns_at, rows_at, nodes_at}
use Rattle.pyramid.specs.Definitions.Buffers.{start}
use Rattle.pyramid.specs.Inner.Lawful.{Lawful}
use Rattle.pyramid.proofs.Refusals.{accepted_seen}
use Rattle.pyramid.proofs.AverageLevels.{Averaged, averaged_first, averaged_last, turn_cut, turn_after, turn_up, turn_reducible, turn_next}
use Rattle.pyramid.proofs.layering.average_levels.Goals as goal
use Rattle.pyramid.proofs.layering.average_levels.Goals.{After-lawful, After-start, After-start-start, After-raster}

pub loop-l-init : goal.loop-l-init
loop-l-init c law long = averaged_first c.args.lawful law c.args.work.now long

depth_is : {t s : Settings} → t ≡ s → t.depth ≡ s.depth
depth_is e = ap (λ (s : Settings). s.depth) e

pub split_at_mut-before-requires : goal.split_at_mut-before-requires
split_at_mut-before-requires c =
    let s = c.args.lawful in
    let law = accepted_seen _ c.lawful.view_is c.lawful.invariant in
    let mid : c.start.result ≡ start s c.loop-l.l = c.start.ensures.0 ∙ rw (c.level-level.ensures.0, c.level-level.ensures.1) in
    turn_cut s law c.args.work.now c.requires.long (c.loop-l.invariant law c.requires.long) (omega (arith, c.loop-l-test.true, depth_is c.lawful.view_is)) mid refl refl refl

-- once it is cut before the level
module _ (m : After-start-start) where
  law : Lawful m.args.lawful
  law = accepted_seen _ m.lawful.view_is m.lawful.invariant

  so_far : Averaged m.args.lawful law m.args.work.now m.requires.long m.loop-l.work m.loop-l.l
  so_far = m.loop-l.invariant law m.requires.long

  below : m.loop-l.l < m.args.lawful.depth
  below = omega (arith, m.loop-l-test.true, depth_is m.lawful.view_is)

  mid_is : m.start.result ≡ start m.args.lawful m.loop-l.l
  mid_is = m.start.ensures.0 ∙ rw (m.level-level.ensures.0, m.level-level.ensures.1)

  up_is : m.start-start.result ≡ start m.args.lawful (suc m.loop-l.l)
  up_is = m.start-start.ensures.0 ∙ rw (m.above.ensures.0, m.above.ensures.1, m.level-level.ensures.0, m.level-level.ensures.1)

  front : m.split_at_mut-before.result.0.now ≡ take m.start.result m.loop-l.work
  front = m.split_at_mut-before.ensures.front

  back : m.split_at_mut-before.result.1.now ≡ drop m.start.result m.loop-l.work
  back = m.split_at_mut-before.ensures.back

pub raster-requires : goal.raster-requires
raster-requires c =
    rw (c.level-level.ensures.0, c.level-level.ensures.1)
    (turn_after c.args.lawful (law c) c.args.work.now c.requires.long (so_far c) (below c) (mid_is c) (up_is c) (front c) (back c))

pub slice_bounds-reduce_level-count : goal.slice_bounds-reduce_level-count
slice_bounds-reduce_level-count c =
    let m = (goal.at.slice_bounds-reduce_level-count c).After-start-start in
    turn_up c.args.lawful (law m) c.args.work.now c.requires.long (so_far m) (below m) (mid_is m) (up_is m) (front m) (back m)

pub slice_bounds-reduce_level-start : goal.slice_bounds-reduce_level-start
slice_bounds-reduce_level-start c =
    let m = (goal.at.slice_bounds-reduce_level-start c).After-start-start in
    turn_up c.args.lawful (law m) c.args.work.now c.requires.long (so_far m) (below m) (mid_is m) (up_is m) (front m) (back m)

-- what is known of the level that is read
module _ (r : After-raster) where
  across : r.raster.result.columns ≡ columns_at r.args.lawful r.loop-l.l
  across = r.raster.ensures.size.0 ∙ rw (r.level-level.ensures.0, r.level-level.ensures.1)

  along : r.raster.result.rows ≡ rows_at r.args.lawful r.loop-l.l
  along = r.raster.ensures.size.1 ∙ rw (r.level-level.ensures.0, r.level-level.ensures.1)

  held : r.raster.result.values.now ≡ take (nodes_at r.args.lawful r.loop-l.l) r.split_at_mut-before.result.1.now
  held = r.raster.ensures.values ∙ rw (r.level-level.ensures.0, r.level-level.ensures.1)

pub reduce_level-requires : goal.reduce_level-requires
reduce_level-requires c =
    let m = (goal.at.reduce_level-requires c).After-start-start in
    let r = (goal.at.reduce_level-requires c).After-raster in
    turn_reducible c.args.lawful (law m) c.args.work.now c.requires.long (so_far m) (below m) (mid_is m) (up_is m) (front m) (back m)
    (across r) (along r) (held r) c.requires.coding_ranges

pub loop-l-preserved : goal.loop-l-preserved
loop-l-preserved c law' long =
    let m = (goal.at.loop-l-preserved c).After-start-start in
    let r = (goal.at.loop-l-preserved c).After-raster in
    turn_next c.args.lawful law' c.args.work.now long (c.loop-l.invariant law' long) (below m) (mid_is m) (up_is m) (front m) (back m)
    (across r) (along r) (held r) (c.raster.ensures.weights ∙ rw c.level-level.ensures.0) c.reduce_level.ensures

pub returns : goal.returns
returns c =
    let law = accepted_seen _ c.lawful.view_is c.lawful.invariant in
    averaged_last c.args.lawful law c.args.work.now c.requires.long (c.loop-l.invariant law c.requires.long) (omega (arith, c.loop-l-test.false, depth_is c.lawful.view_is))
