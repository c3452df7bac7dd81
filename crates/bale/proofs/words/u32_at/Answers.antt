-- `bale::words::u32_at` meets its contract: by the four bytes. Assumes nothing.
use mathlib.Core.Path.{◌∙◌}
use Rattle.bale.proofs.WordLists.{number32}
use Rattle.bale.proofs.words.u32_at.Goals as goal

pub returns : goal.returns
returns c = c.from_le_bytes.ensures ∙ number32 _ _ c.bytes_at.ensures
