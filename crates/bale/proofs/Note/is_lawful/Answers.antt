-- `bale::Note::is_lawful` meets its contract: both readings are. Assumes nothing.
use mathlib.Core.Path.{refl}
use Rattle.bale.specs.Definitions.Readings.{note_ok}
use Rattle.bale.proofs.Note.is_lawful.Goals as goal

pub returns-then-is_lawful : goal.returns-then-is_lawful
unfolding note_ok
returns-then-is_lawful c = rw (c.is_lawful-then-is_lawful.ensures, ← c.if-is_lawful.ensures) refl

pub returns-else-is_lawful : goal.returns-else-is_lawful
unfolding note_ok
returns-else-is_lawful c = rw (← c.if-is_lawful.ensures) c.if-is_lawful.false
