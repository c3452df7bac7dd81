-- `pyramid::shapes::Shape::lawful` meets its contract: the shape is lawful, so the bins are what is left to look at. Assumes nothing.
use mathlib.Core.Path.{◌∙◌}
use Rattle.refusals.specs.declared.Refusal.TheVariants.{Bin}
use Rattle.refusals.proofs.Outcomes.{refuses, accepts}
use Rattle.pyramid.specs.Definitions.Refusals.{unless}
use Rattle.pyramid.proofs.Refusals.{settings_bins}
use Rattle.pyramid.proofs.shapes.Shape.lawful.Goals as goal

pub returns-then-not-bins_ok : goal.returns-then-not-bins_ok
unfolding unless
returns-then-not-bins_ok c = refuses _ Bin (rw (← c.if-not-bins_ok.ensures))

pub invariant_of-result : goal.invariant_of-result
unfolding unless
invariant_of-result c = settings_bins _ c.args.self.shaped ∙ rw (← c.if-not-bins_ok.ensures)

pub returns : goal.returns
unfolding unless
returns c = accepts _ (rw (← c.if-not-bins_ok.ensures))
