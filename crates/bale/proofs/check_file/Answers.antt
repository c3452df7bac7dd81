-- `bale::check_file` meets its contract: a refusal, or what the file says of its bale. Assumes nothing.
use mathlib.Core.Path.{sym, ◌∙◌}
use Rattle.refusals.proofs.Outcomes.{none, value-is, passed_on}
use Rattle.pyramid.proofs.Refusals.{first_stop}
use Rattle.bale.specs.Definitions.Calls.{check_refusal, bale_of, check_file}
use Rattle.bale.proofs.Answers.{checked}
use Rattle.bale.proofs.check_file.Goals as goal

pub returns-in_err-shaped : goal.returns-in_err-shaped
unfolding check_file bale_of check_refusal
returns-in_err-shaped c = passed_on _ _ _ c.from_residual.result _ c.from_residual.ensures.1 c.in_err-shaped.ensures (first_stop _ _)

pub returns : goal.returns
returns c =
    let shaped = sym c.in_ok-shaped.ensures in
    (rw (value-is _ _ shaped) at c.bale.ensures) ∙ checked _ (none _ _ shaped)
