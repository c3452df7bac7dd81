-- `pgm::check_pgm` meets its contract. Assumes nothing.
use mathlib.Core.Path.{refl, sym}
use Rattle.refusals.proofs.Outcomes.{none, value-is, passed_on}
use Rattle.pgm.specs.Definitions.Calls.{size_in, check_pgm}
use Rattle.pgm.proofs.Answers.{checked}
use Rattle.pgm.proofs.check_pgm.Goals as goal

pub returns-in_err-accepted : goal.returns-in_err-accepted
unfolding check_pgm size_in
returns-in_err-accepted c = passed_on _ _ _ c.from_residual.result _ c.from_residual.ensures.1 c.in_err-accepted.ensures (λ _. refl)

pub returns : goal.returns
returns c = let e = sym c.in_ok-accepted.ensures in checked _ (none _ _ e) (value-is _ _ e)
