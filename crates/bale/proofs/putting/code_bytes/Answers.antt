-- `bale::putting::code_bytes` meets its contract: the kind, then the number's bytes. Assumes nothing.
use mathlib.Core.Path.{refl}
use Rattle.bale.specs.Definitions.Words.{le32}
use Rattle.bale.proofs.putting.code_bytes.Goals as goal

pub returns : goal.returns
unfolding le32
returns c = rw c.to_le_bytes.ensures refl
