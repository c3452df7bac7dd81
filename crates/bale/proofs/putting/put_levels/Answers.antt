-- `bale::putting::put_levels` meets its contract: level by level. Assumes nothing.
use mathlib.Core.Path.{refl, ap, ◌∙◌}
use native.Mathlib.Omega.{arith}
use lib.ListN.{length}
use Rattle.pyramid.proofs.Sizes.{nodes_down, total-is}
use Rattle.pyramid.proofs.LevelParts.{least_nodes}
use Rattle.bale.specs.Definitions.Files.{file_length}
use Rattle.bale.proofs.Checks.{nodes_here}
use Rattle.bale.proofs.Pieces.{level_put, level_put_long, sections_last, sections_more, sections_whole}
use Rattle.bale.proofs.putting.put_levels.Goals as goal

pub loop-level-init : goal.loop-level-init
unfolding file_length
loop-level-init c =
    let t = total-is c.args.shape.settings in
    record { long = c.requires.levels_length ∙ t; room = omega (arith, t, c.requires.long); left = refl }

pub split_at-requires : goal.split_at-requires
split_at-requires c =
    let s = c.args.shape.settings in
    omega (arith, nodes_here s c.loop-level.level (omega arith) c.level_nodes.ensures, least_nodes s c.loop-level.level)

pub loop-level-preserved : goal.loop-level-preserved
loop-level-preserved c =
    let s = c.args.shape.settings in
    let l = c.loop-level in
    let n = nodes_here s l.level (omega arith) c.level_nodes.ensures in
    let least = least_nodes s l.level in
    let down = nodes_down s l.level (λ e. omega (arith, e)) in
    let front = rw n at c.split_at.ensures.front in
    let put = level_put _ _ l.at l.sections c.put_level.ensures front in
    let same = level_put_long _ l.at l.sections put (omega (arith, n, least, ap length front)) in
    record {
      long = omega (arith, n, down);
      room = omega (arith, n, down, same);
      left = rw (c.split_at.ensures.back, n) (sections_more s l.level l.at l.left.now l.sections put (λ e. omega (arith, e)) (omega (arith, ap length front)) (omega (arith, n, least))) ∙ l.invariant.left;
    }

pub returns-2 : goal.returns-2
returns-2 c =
    let s = c.args.shape.settings in
    let l = c.loop-level in
    let n = nodes_here s l.level (omega arith) c.level_nodes.ensures in
    let front = rw n at c.split_at.ensures.front in
    let put = level_put _ _ l.at l.sections c.put_level.ensures front in
    sections_whole s c.args.levels.now c.args.sections.now c.requires.levels_length c.requires.long
    (sections_last s l.level l.at l.left.now l.sections put (omega arith) ∙ l.invariant.left)
