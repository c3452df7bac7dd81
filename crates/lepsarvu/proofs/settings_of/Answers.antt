-- `lepsarvu::settings_of` meets its contract: number by number. Assumes nothing.
use mathlib.Core.Path.{refl}
use Rattle.mathematics.specs.Definitions.Tables.{tabulate}
use Rattle.lepsarvu.specs.Definitions.Exports.{settings_of}
use Rattle.lepsarvu.proofs.settings_of.Goals as goal

pub returns : goal.returns
unfolding tabulate settings_of
returns c = refl
