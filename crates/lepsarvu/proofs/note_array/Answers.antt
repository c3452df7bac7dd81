-- `lepsarvu::note_array` meets its contract: number by number. Assumes nothing.
use mathlib.Core.Path.{refl}
use Rattle.lepsarvu.specs.Definitions.Exports.{note_array}
use Rattle.lepsarvu.proofs.note_array.Goals as goal

pub returns : goal.returns
unfolding note_array
returns c = rw (c.from.ensures, c.from-2.ensures, c.code_of-drier.ensures, c.code_of-press.ensures) refl
