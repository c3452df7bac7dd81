-- What the loop of `pyramid::shapes::Shape::nodes_to` keeps: the levels before level l have t nodes.
use Rattle.std.proofs.Common.{◌≡◌, ℕ, zero, suc}
use Rattle.pyramid.specs.declared.Settings.{Settings}
use Rattle.pyramid.specs.Definitions.Sizes.{nodes_to}
use Rattle.pyramid.proofs.shapes.Shape.nodes_to.Given as goal

-- the nodes of the levels before level l
abbrev pub nodes_before : Settings → ℕ → ℕ
nodes_before s zero = 0
nodes_before s (suc l) = nodes_to s l

abbrev pub invariant-loop-l : goal.invariant-loop-l
invariant-loop-l l = l.t ≡ nodes_before l.self.settings l.l
