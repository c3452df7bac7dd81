-- `bale::finding::settings_in` meets its contract: field by field. Assumes nothing.
use Rattle.bale.specs.Definitions.Reader.{settings_in}
use Rattle.bale.proofs.finding.settings_in.Goals as goal

pub returns : goal.returns
unfolding settings_in
returns c = cc
