-- Averages and differences of a legal picture stay within ±4,096, and so do the values of their indices and, in a closed loop, the rebuilt
-- values. Assumes nothing.
use Rattle.pyramid.specs.Checks.Ranges.{Ranges}
use Rattle.pyramid.proofs.Refusals.{accepted_coding}
use Rattle.pyramid.proofs.Clamps.{coded_bytes}
use Rattle.pyramid.proofs.Ranges.{coding_ranges}

pub ranges : Ranges
ranges s manner picture levels work accepted l i j hl hi hj =
    let r = coding_ranges s (accepted_coding s picture levels work accepted).law picture (coded_bytes s picture levels work accepted) manner in
    record {
      average = r.averages l hl i j hi hj;
      reference = r.references l hl i j hi hj;
      difference = r.differences l hl i j hi hj;
      value = r.values l hl i j hi hj;
    }
