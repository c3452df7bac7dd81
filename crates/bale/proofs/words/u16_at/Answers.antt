-- `bale::words::u16_at` meets its contract: by the two bytes. Assumes nothing.
use mathlib.Core.Path.{◌∙◌}
use Rattle.bale.proofs.WordLists.{number16}
use Rattle.bale.proofs.words.u16_at.Goals as goal

pub returns : goal.returns
returns c = c.from_le_bytes.ensures ∙ number16 _ _ c.bytes_at.ensures
