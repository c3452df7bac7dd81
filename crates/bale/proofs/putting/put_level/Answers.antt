-- `bale::putting::put_level` meets its contract: its count, then its indices. Assumes nothing.
use mathlib.Core.Path.{◌∙◌}
use Rattle.bale.proofs.WordLaws.{low_bytes16}
use Rattle.bale.proofs.Pieces.{level_whole}
use Rattle.bale.proofs.putting.put_level.Goals as goal

pub returns : goal.returns
returns c = level_whole c.args.indices.now (c.copy_from_slice.ensures.after ∙ c.to_le_bytes.ensures ∙ low_bytes16 _) c.put_indices.ensures
