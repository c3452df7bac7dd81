-- `pyramid::limits::pixels_ok` meets its contract: each turn of its loop tests one pixel. Assumes nothing.
use mathlib.Core.Bool.{and_assoc}
use Rattle.mathematics.proofs.Tests.{testing_start, testing_next, testing_end}
use Rattle.pyramid.specs.Definitions.Refusals.{pixels_ok}
use Rattle.pyramid.proofs.Refusals.{greys_fit}
use Rattle.pyramid.proofs.limits.pixels_ok.Goals as goal

pub overflow_cast-black : goal.overflow_cast-black
overflow_cast-black c = (greys_fit _ c.lawful.invariant).0

pub overflow_cast-white : goal.overflow_cast-white
overflow_cast-white c = (greys_fit _ c.lawful.invariant).1

pub loop-pixel-init : goal.loop-pixel-init
loop-pixel-init c = testing_start _ _

pub loop-pixel-preserved : goal.loop-pixel-preserved
loop-pixel-preserved c = testing_next _ 0 c.loop-pixel.invariant c.loop-pixel-test.true (rw (← c.lawful.view_is) (and_assoc c.loop-pixel.ok _ _))

pub returns : goal.returns
unfolding pixels_ok
returns c = testing_end _ c.loop-pixel.invariant c.loop-pixel-test.false
