-- What the loop of `pyramid::limits::pixels_ok` keeps.
use Rattle.std.proofs.Common.{leb, ◌&&◌}
use Rattle.mathematics.proofs.Tests.{Testing}
use Rattle.pyramid.proofs.limits.pixels_ok.Given as goal

abbrev pub invariant-loop-pixel : goal.invariant-loop-pixel
invariant-loop-pixel l = Testing (λ p. leb l.fn.lawful.black p && leb p l.fn.lawful.white) l.picture l.pixel-index l.ok
