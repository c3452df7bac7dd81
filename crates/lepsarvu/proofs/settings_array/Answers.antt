-- `lepsarvu::settings_array` meets its contract: number by number. Assumes nothing.
use mathlib.Core.Path.{refl}
use Rattle.mathematics.specs.Definitions.Tables.{tabulate}
use Rattle.lepsarvu.specs.Definitions.Exports.{settings_array}
use Rattle.lepsarvu.proofs.settings_array.Goals as goal

pub returns : goal.returns
unfolding tabulate settings_array
returns c = refl
