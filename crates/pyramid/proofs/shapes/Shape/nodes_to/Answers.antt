-- `pyramid::shapes::Shape::nodes_to` meets its contract: each turn adds the nodes of one level. Assumes nothing.
use Rattle.std.proofs.Common.{◌≡◌, ℕ, zero, suc, ◌+◌, ◌∙◌, ap, zero-add, add_comm, add-one, arith}
use Rattle.pyramid.specs.declared.Settings.{Settings}
use Rattle.pyramid.specs.Definitions.Sizes.{nodes_at, nodes_to}
use Rattle.pyramid.proofs.Sizes.{nodes_to_room}
use Rattle.pyramid.proofs.Refusals.{accepted_shape}
use Rattle.pyramid.proofs.shapes.Shape.nodes_to.Invariants.{nodes_before}
use Rattle.pyramid.proofs.shapes.Shape.nodes_to.Goals as goal

with_level : (s : Settings) (l : ℕ) {t n : ℕ} → t ≡ nodes_before s l → n ≡ nodes_at s l → t + n ≡ nodes_to s l
unfolding nodes_to
with_level s zero e f = rw (e, f) (zero-add _)
with_level s (suc l) e f = rw (e, f) (add_comm _ _)

pub overflow_add-t : goal.overflow_add-t
overflow_add-t c =
    let l = c.loop-l.l in
    omega (arith, with_level c.args.self.settings l c.loop-l.invariant c.nodes_at-t.ensures.0, nodes_to_room c.args.self.settings (accepted_shape _ c.args.self.shaped) l)

pub loop-l-preserved : goal.loop-l-preserved
loop-l-preserved c = rw add-one (with_level c.args.self.settings c.loop-l.l c.loop-l.invariant c.nodes_at-t.ensures.0)

pub returns-2 : goal.returns-2
returns-2 c =
    let last : c.loop-l.l ≡ c.args.n = omega arith in
    with_level c.args.self.settings c.loop-l.l c.loop-l.invariant c.nodes_at-t.ensures.0 ∙ ap (nodes_to c.args.self.settings) last
