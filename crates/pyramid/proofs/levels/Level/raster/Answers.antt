-- `pyramid::levels::Level::raster` meets its contract: a level has two to 129 columns and rows. Assumes nothing.
use Rattle.std.proofs.Common.{refl, arith}
use Rattle.std.proofs.lemmas.List.{length-take-le}
use Rattle.pyramid.proofs.Sizes.{count_range}
use Rattle.pyramid.proofs.levels.Level.raster.Goals as goal

pub invariant_of-result : goal.invariant_of-result
invariant_of-result c =
    let a = c.args in
    let shape = a.self.lawful.shaped in
    let wide = count_range {l = a.self.number} shape.across a.self.within refl in
    let high = count_range {l = a.self.number} shape.along a.self.within refl in
    record {
      wide = (omega (arith, wide.1, c.columns-columns.ensures.0), omega (arith, c.columns-columns.ensures.1));
      high = (omega (arith, high.1, c.rows-rows.ensures.0), omega (arith, c.rows-rows.ensures.1));
      filled = length-take-le _ a.values.now (rw (c.rows-rows.ensures.0, c.columns-columns.ensures.0) c.requires);
    }
