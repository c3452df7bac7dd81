-- `pyramid::rasters::Raster::row` meets its contract: the reflected row lies inside the level. Assumes nothing.
use Rattle.std.proofs.Common.{◌-◌, ◌+◌, ◌*◌, ◌≤◌, ◌<◌, length, arith}
use Rattle.pyramid.specs.Definitions.Edge.{reflect}
use Rattle.pyramid.proofs.Edge.{reflect_most}
use Rattle.pyramid.proofs.Buffers.{row_inside, level_small}
use Rattle.pyramid.proofs.rasters.Raster.row.Goals as goal
use Rattle.pyramid.proofs.rasters.Raster.row.Goals.{After-reflected}

module _ (c : After-reflected) where
  below : reflect (c.args.self.rows - 1) c.args.p < c.args.self.rows
  below = omega (arith, reflect_most (c.args.self.rows - 1) c.args.p (omega arith) (omega arith))

  inside : c.reflected.result * c.args.self.columns + c.args.self.columns ≤ length c.args.self.values.now
  inside = rw (c.reflected.ensures, c.args.self.filled) (row_inside c.args.self.columns below)

  near : c.reflected.result * c.args.self.columns + c.args.self.columns ≤ 16641
  near = omega (arith, inside, c.args.self.filled, level_small c.args.self.wide.1 c.args.self.high.1)

pub overflow_mul-start : goal.overflow_mul-start
overflow_mul-start c = omega (arith, near (goal.at.overflow_mul-start c).After-reflected)

pub overflow_add-result : goal.overflow_add-result
overflow_add-result c = omega (arith, near (goal.at.overflow_add-result c).After-reflected)

pub offset_bounds-self-start : goal.offset_bounds-self-start
offset_bounds-self-start c = omega (arith, near (goal.at.offset_bounds-self-start c).After-reflected)

pub slice_bounds-result-end : goal.slice_bounds-result-end
slice_bounds-result-end c = inside (goal.at.slice_bounds-result-end c).After-reflected
