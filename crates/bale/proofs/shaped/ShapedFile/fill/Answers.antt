-- `bale::shaped::ShapedFile::fill` meets its contract: level by level. Assumes nothing.
use mathlib.Core.Path.{sym, ap, ◌∙◌}
use native.Mathlib.Omega.{arith}
use lib.ListN.{length, length-drop}
use Rattle.pyramid.specs.Definitions.Sizes.{total}
use Rattle.pyramid.proofs.Sizes.{nodes_down, total-is}
use Rattle.pyramid.proofs.LevelParts.{least_nodes}
use Rattle.bale.proofs.AcceptedFiles.{accepted_file, filled}
use Rattle.bale.proofs.After.{levels_after, section_items}
use Rattle.bale.proofs.Checks.{nodes_here}
use Rattle.bale.proofs.Pieces.{part_filled, read_last, read_more}
use Rattle.bale.proofs.shaped.ShapedFile.fill.Goals as goal

pub loop-level-init : goal.loop-level-init
loop-level-init c =
    let file = c.args.self.now in
    let w = accepted_file file.bytes.now _ c.requires in
    let places = w.places_are ∙ sym (ap total file.read) in
    let t = total-is file.shape.settings in
    let whole = rw (← file.read) at w.whole in
    let long = ap length c.rest-left.ensures ∙ length-drop c.levels.result file.bytes.now in
    record { room = omega (arith, places, t); whole = omega (arith, whole, long, c.levels.ensures); read = rw (c.rest-left.ensures, levels_after, c.levels.ensures) }

pub split_at-requires : goal.split_at-requires
split_at-requires c =
    let s = c.args.self.now.shape.settings in
    omega (arith, nodes_here s c.loop-level.level (omega arith) c.level_nodes-nodes.ensures, least_nodes s c.loop-level.level)

pub slice_bounds-fill_indices-end-in-loop-level : goal.slice_bounds-fill_indices-end-in-loop-level
slice_bounds-fill_indices-end-in-loop-level c =
    let s = c.args.self.now.shape.settings in
    omega (arith, nodes_here s c.loop-level.level (omega arith) c.level_nodes-nodes.ensures, least_nodes s c.loop-level.level)

pub loop-level-preserved : goal.loop-level-preserved
loop-level-preserved c =
    let s = c.args.self.now.shape.settings in
    let l = c.loop-level in
    let n = nodes_here s l.level (omega arith) c.level_nodes-nodes.ensures in
    let down = nodes_down s l.level (λ e. omega (arith, e)) in
    let least = least_nodes s l.level in
    let read = rw (section_items _ _ c.split_at.ensures.front) at c.fill_indices.ensures in
    let mid = part_filled s l.left.now l.level l.from l.levels n (omega arith) read in
    let below = rw n at c.split_at.ensures.back in
    record {
      room = omega (arith, n, down);
      whole = omega (arith, n, down, c.split_at.ensures.back_len);
      read = read_more s l.left.now l.level l.from l.levels mid (λ e. omega (arith, e)) below (omega arith) (omega arith) ∙ l.invariant.read;
    }

pub returns-2 : goal.returns-2
returns-2 c =
    let file = c.args.self.now in
    let s = file.shape.settings in
    let l = c.loop-level in
    let n = nodes_here s l.level (omega arith) c.level_nodes-nodes.ensures in
    let least = least_nodes s l.level in
    let read = rw (section_items _ _ c.split_at.ensures.front) at c.fill_indices.ensures in
    let mid = part_filled s l.left.now l.level l.from l.levels n (omega arith) read in
    filled file.bytes.now s c.args.levels.now file.read c.requires (read_last s l.left.now l.level l.from l.levels mid (omega arith) ∙ l.invariant.read)
