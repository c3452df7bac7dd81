-- `test_support::decoding::unsigned32_at` meets its contract: by the four bytes. Assumes nothing.
use Rattle.std.proofs.Common.{◌∙◌}
use Rattle.test_support.proofs.Filled.{number32}
use Rattle.test_support.proofs.decoding.unsigned32_at.Goals as goal

pub returns : goal.returns
returns c = c.from_le_bytes.ensures ∙ number32 _ _ c.bytes_at.ensures
