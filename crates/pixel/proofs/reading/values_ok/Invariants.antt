-- What the loop of `pixel::reading::values_ok` keeps.
use Rattle.std.proofs.Common.{leb, nat_abs, true}
use Rattle.mathematics.proofs.Tests.{Testing}
use Rattle.pyramid.specs.Definitions.Refusals.{limit}
use Rattle.pixel.proofs.reading.values_ok.Given as goal

abbrev pub invariant-loop-value : goal.invariant-loop-value
invariant-loop-value l = Testing (λ v. leb (nat_abs v) limit) l.values l.value-index true
