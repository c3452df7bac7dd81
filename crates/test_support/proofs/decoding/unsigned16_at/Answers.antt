-- `test_support::decoding::unsigned16_at` meets its contract: by the two bytes. Assumes nothing.
use Rattle.std.proofs.Common.{◌∙◌}
use Rattle.test_support.proofs.Filled.{number16}
use Rattle.test_support.proofs.decoding.unsigned16_at.Goals as goal

pub returns : goal.returns
returns c = c.from_le_bytes.ensures ∙ number16 _ _ c.bytes_at.ensures
