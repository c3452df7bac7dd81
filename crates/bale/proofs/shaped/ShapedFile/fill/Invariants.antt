-- What the loop of `bale::shaped::ShapedFile::fill` keeps: what is left to read makes the level buffer that is wanted.
use mathlib.Core.Path.{◌≡◌}
use Prim.Native.Nat.{◌+◌, ◌*◌}
use lib.ListN.{length}
use Rattle.mathematics.specs.Inner.Splices.{splice}
use Rattle.pyramid.specs.Definitions.Sizes.{nodes_to}
use Rattle.bale.specs.Definitions.Reader.{levels_place, levels_from}
use Rattle.bale.proofs.shaped.ShapedFile.fill.Given as goal

abbrev pub invariant-loop-level : goal.invariant-loop-level
invariant-loop-level l =
    let s = l.fn.self.shape.settings in
    record {
      room : l.from + nodes_to s l.level ≡ length l.fn.levels;
      whole : 2 * (l.level + 1) + 2 * nodes_to s l.level ≡ length l.left;
      read : splice l.from (levels_from l.left s l.level 0) l.levels ≡ splice 0 (levels_from l.fn.self.bytes.now s s.depth (levels_place s)) l.fn.levels;
    }
