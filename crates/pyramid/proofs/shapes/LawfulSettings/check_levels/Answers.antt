-- `pyramid::shapes::LawfulSettings::check_levels` meets its contract: the length, then the values. Assumes nothing.
use mathlib.Core.Path.{◌≡◌, ◌∙◌}
use borrow.Author.Tests.{eq-eqb, ne_eqb}
use Rattle.refusals.specs.declared.Refusal.TheVariants.{LevelsLength, Index}
use Rattle.refusals.proofs.Outcomes.{refuses, accepts}
use Rattle.pyramid.specs.Definitions.Sizes.{total}
use Rattle.pyramid.specs.Definitions.Refusals.{unless, first}
use Rattle.pyramid.proofs.shapes.LawfulSettings.check_levels.Goals as goal

pub returns-then-levels-total : goal.returns-then-levels-total
unfolding unless first
returns-then-levels-total c = let t : c.total.result ≡ total c.args.self = c.total.ensures.0 ∙ rw c.shape.ensures in refuses _ LevelsLength (rw (← t, ne_eqb _ _ c.if-levels-total.true))

pub returns-else-values_ok : goal.returns-else-values_ok
unfolding unless first
returns-else-values_ok c = let t : c.total.result ≡ total c.args.self = c.total.ensures.0 ∙ rw c.shape.ensures in refuses _ Index (rw (← t, eq-eqb _ _ c.if-levels-total.false, ← c.if-values_ok.ensures))

pub returns-then-values_ok : goal.returns-then-values_ok
unfolding unless first
returns-then-values_ok c = let t : c.total.result ≡ total c.args.self = c.total.ensures.0 ∙ rw c.shape.ensures in accepts _ (rw (← t, eq-eqb _ _ c.if-levels-total.false, ← c.if-values_ok.ensures))
