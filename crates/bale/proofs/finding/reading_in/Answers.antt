-- `bale::finding::reading_in` meets its contract: the kind and the number are the first five bytes'. Assumes nothing.
use mathlib.Core.Path.{◌∙◌}
use Rattle.bale.specs.Definitions.Reader.{probe_at}
use Rattle.bale.proofs.finding.reading_in.Goals as goal

pub returns : goal.returns
unfolding probe_at
returns c = c.try_from.ensures ∙ rw (c.byte_at.ensures, c.u32_at.ensures)
