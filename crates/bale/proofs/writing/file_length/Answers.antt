-- `bale::writing::file_length` meets its contract: by its definition. Assumes nothing.
use mathlib.Core.Path.{refl}
use Rattle.bale.specs.Definitions.Files.{file_length}
use Rattle.bale.proofs.writing.file_length.Goals as goal

pub returns : goal.returns
unfolding file_length
returns c = rw (c.nodes.ensures, c.shape_count.ensures.0) refl
