-- `pyramid::deepest_depth` meets its contract. Assumes nothing.
use mathlib.Core.Path.{sym}
use Rattle.refusals.proofs.Outcomes.{refuses, accepts}
use Rattle.refusals.specs.declared.Refusal.TheVariants.{Size}
use Rattle.pyramid.specs.Definitions.Answers.{deepest_answer}
use Rattle.pyramid.proofs.Refusals.{outcome_left, unless_passes, unless_fails}
use Rattle.pyramid.proofs.SettingsTests.{size_positive}
use Rattle.pyramid.proofs.deepest_depth.Goals as goal

pub returns-then-not-size_ok : goal.returns-then-not-size_ok
unfolding deepest_answer
returns-then-not-size_ok c = refuses _ Size (sym (unless_fails 1 (sym c.if-not-size_ok.ensures)))

pub deepest-requires : goal.deepest-requires
deepest-requires c = size_positive _ _ (sym c.if-not-size_ok.ensures)

pub returns : goal.returns
unfolding deepest_answer
returns c = rw (outcome_left, c.deepest.ensures) (accepts _ (unless_passes 1 (sym c.if-not-size_ok.ensures)))
