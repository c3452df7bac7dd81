-- `pyramid::taps::reflected` meets its contract: the nearer of two reflections, as the definition has them. Assumes nothing.
use Rattle.std.proofs.Common.{refl, ◌∙◌}
use Rattle.pyramid.specs.Definitions.Edge.{reflect}
use Rattle.pyramid.proofs.taps.reflected.Goals as goal

pub returns : goal.returns
unfolding reflect
returns c = c.min.ensures ∙ rw (c.abs_diff.ensures, c.abs_diff-column.ensures) refl
