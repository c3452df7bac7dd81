-- `pgm::checking::lawful_size` meets its contract: what 16 bits do not hold is too large. Assumes nothing.
use mathlib.Core.Path.{refl, sym, ◌∙◌}
use native.Mathlib.Omega.{arith}
use Rattle.refusals.proofs.Outcomes.{refuses, accepts, none, passed_on}
use Rattle.refusals.specs.declared.Refusal.TheVariants.{Size}
use Rattle.pgm.proofs.Answers.{depth_refused, depth_accepted, too_large}
use Rattle.pgm.proofs.checking.lawful_size.Goals as goal

pub returns-in_default : goal.returns-in_default
returns-in_default c = refuses _ Size (too_large _ _ (λ r. c.in_default.ensures (omega (arith, r.0.1))))

pub returns-in_default-try_from : goal.returns-in_default-try_from
returns-in_default-try_from c = refuses _ Size (too_large _ _ (λ r. c.in_default-try_from.ensures (omega (arith, r.1.1))))

pub returns-in_err-deepest_depth : goal.returns-in_err-deepest_depth
returns-in_err-deepest_depth c =
    rw (← c.in-Ok.ensures.1, ← c.in-Ok-try_from.ensures.1)
    (passed_on _ _ _ c.from_residual.result _ c.from_residual.ensures.1 c.in_err-deepest_depth.ensures (λ _. depth_refused _ _))

pub returns : goal.returns
returns c = rw (← c.in-Ok.ensures.1, ← c.in-Ok-try_from.ensures.1) (accepts _ (depth_accepted _ _ (none _ _ (sym c.in_ok-deepest_depth.ensures))))
