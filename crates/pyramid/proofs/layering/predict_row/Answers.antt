-- `pyramid::layering::predict_row` meets its contract: zeros at the top, below it what `expand_row` promises. Assumes nothing.
use Rattle.std.proofs.Common.{◌≡◌, ◌∙◌, suc, ◌+◌, ◌-◌, ◌≤◌, ◌<◌, length, take, drop, arith}
use Rattle.std.proofs.lemmas.List.{length-drop, length-take-le, take-take}
use Rattle.mathematics.specs.Inner.Splices.{part}
use Rattle.pyramid.specs.Definitions.Sizes.{columns_at, rows_at, nodes_at}
use Rattle.pyramid.specs.Definitions.Buffers.{start}
use Rattle.pyramid.proofs.LevelParts.{start-below}
use Rattle.pyramid.proofs.Prediction.{top_row, below_row, below_small, below_sizes}
use Rattle.pyramid.proofs.layering.predict_row.Goals as goal
use Rattle.pyramid.proofs.layering.predict_row.Goals.{After-start-start, After-raster}

-- what is known once the place of the level above is there
module _ (r : After-start-start) where
  below : r.args.level.number < r.args.level.settings.depth
  below = omega (arith, r.if-level.false, r.args.level.within)

  place : r.start-start.result ≡ start r.args.level.settings (suc r.args.level.number)
  place = r.start-start.ensures.0 ∙ rw (r.above-above.ensures.0, r.above-above.ensures.1)

  above : r.start-start.result + nodes_at r.args.level.settings (suc r.args.level.number) ≤ length r.args.before.now
  above = omega (arith, place, start-below r.args.level.settings r.args.level.number below, r.requires.lengths.1)

  rest_long : length (take (length r.args.before.now - r.start-start.result) (drop r.start-start.result r.args.before.now)) ≡ length r.args.before.now - r.start-start.result
  rest_long = length-take-le _ _ (omega (arith, length-drop r.start-start.result r.args.before.now))

pub slice_bounds-raster-count : goal.slice_bounds-raster-count
slice_bounds-raster-count c = omega (arith, above c)

pub slice_bounds-raster-start : goal.slice_bounds-raster-start
slice_bounds-raster-start c = omega (arith, above c)

pub raster-requires : goal.raster-requires
raster-requires c =
    let r = (goal.at.raster-requires c).After-start-start in
    rw (c.above-above.ensures.0, c.above-above.ensures.1, rest_long r) (omega (arith, above r))

-- and once its values are
module _ (n : After-raster) where
  abbrev r : After-start-start
  r = n.before.before

  across : n.raster.result.columns ≡ columns_at n.args.level.settings (suc n.args.level.number)
  across = n.raster.ensures.size.0 ∙ rw (n.above-above.ensures.0, n.above-above.ensures.1)

  along : n.raster.result.rows ≡ rows_at n.args.level.settings (suc n.args.level.number)
  along = n.raster.ensures.size.1 ∙ rw (n.above-above.ensures.0, n.above-above.ensures.1)

  held : n.raster.result.values.now ≡ part (start n.args.level.settings (suc n.args.level.number)) (start n.args.level.settings (suc n.args.level.number) + nodes_at n.args.level.settings (suc n.args.level.number)) n.args.before.now
  held =
      let s = n.args.level.settings in
      let up = suc n.args.level.number in
      let nodes : start s up + nodes_at s up - start s up ≡ nodes_at s up = omega arith in
      n.raster.ensures.values
      ∙ rw (n.above-above.ensures.0, n.above-above.ensures.1, place r, nodes)
      (take-take (nodes_at s up) (length n.args.before.now - start s up) (drop (start s up) n.args.before.now) (omega (arith, place r, above r)))

pub expand_row-requires-clause-j_bound : goal.expand_row-requires-clause-j_bound
expand_row-requires-clause-j_bound c =
    let n = (goal.at.expand_row-requires-clause-j_bound c).After-raster in
    let a = c.args in
    let (turn, long, wide) = below_sizes a.level.settings a.level.number a.j a.before.now a.level.lawful (below (r n)) c.requires.lengths.1 (held n) (along n) (across n) _ c.requires.lengths.0 c.requires.lengths.2 in
    (turn, long, omega (arith, wide, c.requires.room))

pub expand_row-requires-clause-small : goal.expand_row-requires-clause-small
expand_row-requires-clause-small c =
    let n = (goal.at.expand_row-requires-clause-small c).After-raster in
    let a = c.args in
    below_small a.level.settings a.level.number a.j a.before.now a.level.lawful (below (r n)) c.requires.lengths.1 (held n) (along n) (across n) _ c.requires.small

pub returns-then-level : goal.returns-then-level
returns-then-level c = c.fill.ensures.after (λ y h. h) ∙ top_row c.args.level.settings c.args.level.number c.args.j c.args.before.now (omega arith) _ c.requires.lengths.2

pub returns-else-level : goal.returns-else-level
returns-else-level c =
    let n = (goal.at.returns-else-level c).After-raster in
    let a = c.args in
    c.expand_row.ensures
    ∙ rw (c.raster.ensures.weights, c.above-above.ensures.0)
    (below_row a.level.settings a.level.number a.j a.before.now a.level.lawful (below (r n)) c.requires.lengths.1 (held n) (along n) (across n) c.requires.lengths.0)
