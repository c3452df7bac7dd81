-- What the loop of `bale::putting::put_levels` keeps: what is left to write makes the sections that are wanted.
use mathlib.Core.Path.{◌≡◌}
use Prim.Native.Nat.{◌+◌, ◌*◌}
use lib.ListN.{length}
use Rattle.mathematics.specs.Inner.Splices.{splice}
use Rattle.pyramid.specs.Definitions.Sizes.{nodes_to}
use Rattle.bale.specs.Definitions.Files.{level_sections}
use Rattle.bale.proofs.putting.put_levels.Given as goal

abbrev pub invariant-loop-level : goal.invariant-loop-level
invariant-loop-level l =
    let s = l.fn.shape.settings in
    record {
      long : length l.left ≡ nodes_to s l.level;
      room : l.at + 2 * (l.level + 1) + 2 * nodes_to s l.level ≡ length l.sections;
      left : splice l.at (level_sections s l.level l.left) l.sections ≡ splice 0 (level_sections s s.depth l.fn.levels) l.fn.sections;
    }
