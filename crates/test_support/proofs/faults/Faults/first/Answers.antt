-- `test_support::faults::Faults::first` meets its contract: each refusal passes. Assumes nothing.
use Rattle.std.proofs.Common.{◌∙◌, true, rules}
use Rattle.test_support.proofs.Choosing.{found_first}
use Rattle.test_support.proofs.faults.Faults.first.Goals as goal

pub returns : goal.returns
returns c = c.find.ensures (λ _. true) (λ refusal r p. search rules) ∙ found_first _
