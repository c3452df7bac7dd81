-- `pyramid::bounding::magnify` meets its contract: 100 hundredths of a distance, rounded up, are the distance. Assumes nothing.
use native.Mathlib.Omega.{arith}
use borrow.Author.Tests.{eq-eqb, ne_eqb}
use Rattle.pyramid.specs.Definitions.Bound.{hundredths, magnified}
use Rattle.pyramid.proofs.bounding.magnify.Goals as goal

pub returns-then-kernel-eq6 : goal.returns-then-kernel-eq6
unfolding magnified hundredths
returns-then-kernel-eq6 c = rw (eq-eqb _ _ c.if-kernel-eq6.true) (omega (arith, c.div_ceil.ensures))

pub returns : goal.returns
unfolding magnified hundredths
returns c = rw (ne_eqb _ _ c.if-kernel-eq6.false) (omega arith)
