-- `bale::file_size` meets its contract: the size of a file of lawful settings. Assumes nothing.
use mathlib.Core.Path.{refl, sym}
use Rattle.refusals.proofs.Outcomes.{accepts, none, value-is, passed_on}
use Rattle.pyramid.proofs.Refusals.{outcome_left}
use Rattle.bale.specs.Definitions.Calls.{size_answer}
use Rattle.bale.proofs.file_size.Goals as goal

pub returns-in_err-lawful : goal.returns-in_err-lawful
unfolding size_answer
returns-in_err-lawful c = passed_on _ _ _ c.from_residual.result _ c.from_residual.ensures.1 c.in_err-lawful.ensures (λ _. refl)

pub returns : goal.returns
unfolding size_answer
returns c =
    let said = sym c.in_ok-lawful.ensures in
    rw (outcome_left, c.file_length.ensures, c.shape.ensures, value-is _ _ said) (accepts _ (none _ _ said))
