-- `bale::probes::CodeTryFromReading::try_from` meets its contract: the code of a lawful reading, else refusal 4. Assumes nothing.
use Rattle.bale.proofs.Readings.{coded, not_coded}
use Rattle.bale.proofs.probes.CodeTryFromReading.try_from.Goals as goal

pub returns-then-is_lawful : goal.returns-then-is_lawful
returns-then-is_lawful c = rw c.code.ensures (coded _ c.if-is_lawful.ensures)

pub returns-else-is_lawful : goal.returns-else-is_lawful
returns-else-is_lawful c = not_coded _ c.if-is_lawful.ensures
