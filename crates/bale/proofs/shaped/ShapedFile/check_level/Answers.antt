-- `bale::shaped::ShapedFile::check_level` meets its contract: the section, then its indices. Assumes nothing.
use mathlib.Core.Path.{sym}
use native.Mathlib.Omega.{arith}
use Rattle.std.proofs.lemmas.Result.{err_from_is_err_and}
use Rattle.refusals.specs.declared.Refusal.TheVariants.{Index}
use Rattle.refusals.proofs.Outcomes.{refuses, accepts, none, some, passes}
use Rattle.pyramid.specs.Definitions.Refusals.{unless}
use Rattle.bale.proofs.Sections.{section_whole}
use Rattle.bale.proofs.After.{section_items}
use Rattle.bale.proofs.Checks.{nodes_here, level_stop, level_left}
use Rattle.pyramid.proofs.Refusals.{accepted_shape}
use Rattle.bale.proofs.shaped.ShapedFile.check_level.Goals as goal

pub bounds-bins-level : goal.bounds-bins-level
bounds-bins-level c = omega (arith, c.requires, (accepted_shape _ c.args.self.now.shape.shaped).deep)

pub returns-in_err-check_section : goal.returns-in_err-check_section
returns-in_err-check_section c =
    let s = c.args.self.now.shape.settings in
    let nodes = nodes_here s _ c.requires c.level_nodes-nodes.ensures in
    let (r, was, from) = err_from_is_err_and c.from_residual.result c.from_residual.ensures.1 in
    let e = sym c.in_err-check_section.ensures in
    rw (was, from, level_stop c.args.left.now s c.args.level nodes (some _ _ e)) (passes _ _ _ e)

pub split_at-requires : goal.split_at-requires
split_at-requires c = omega (arith, (section_whole (none _ _ (sym c.in_ok-check_section.ensures))).present)

pub returns-then-not-indices_ok : goal.returns-then-not-indices_ok
unfolding unless
returns-then-not-indices_ok c =
    let s = c.args.self.now.shape.settings in
    let nodes = nodes_here s _ c.requires c.level_nodes-nodes.ensures in
    let test = rw (section_items _ _ c.split_at.ensures.front) at c.if-not-indices_ok.ensures in
    refuses _ Index (sym (level_left _ s c.args.level nodes (none _ _ (sym c.in_ok-check_section.ensures)) test))

pub returns : goal.returns
unfolding unless
returns c =
    let s = c.args.self.now.shape.settings in
    let nodes = nodes_here s _ c.requires c.level_nodes-nodes.ensures in
    let test = rw (section_items _ _ c.split_at.ensures.front) at c.if-not-indices_ok.ensures in
    rw (c.split_at.ensures.back, ← nodes) (accepts _ (level_left _ s c.args.level nodes (none _ _ (sym c.in_ok-check_section.ensures)) test))
