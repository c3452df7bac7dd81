-- `bale::putting::put_readings` meets its contract: piece by piece. Assumes nothing.
use mathlib.Core.Path.{◌∙◌}
use Rattle.mathematics.proofs.Tests.{both}
use Rattle.bale.specs.Definitions.Readings.{reading_ok, note_ok}
use Rattle.bale.proofs.WordLaws.{low_bytes16}
use Rattle.bale.proofs.Pieces.{readings_whole}
use Rattle.bale.proofs.putting.put_readings.Goals as goal

pub code-requires : goal.code-requires
unfolding note_ok
code-requires c = (both (reading_ok c.args.note.before_drier) (reading_ok c.args.note.at_press) c.requires.lawful).0

pub code-requires-2 : goal.code-requires-2
unfolding note_ok
code-requires-2 c = (both (reading_ok c.args.note.before_drier) (reading_ok c.args.note.at_press) c.requires.lawful).1

pub returns : goal.returns
returns c =
    readings_whole c.args.note (c.copy_from_slice.ensures.after ∙ c.to_le_bytes.ensures ∙ low_bytes16 2)
    (c.copy_from_slice-2.ensures.after ∙ c.code_bytes.ensures ∙ rw c.code.ensures)
    (c.copy_from_slice-3.ensures.after ∙ c.code_bytes-2.ensures ∙ rw c.code-2.ensures)
