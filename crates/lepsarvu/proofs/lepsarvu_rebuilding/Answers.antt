-- `lepsarvu::lepsarvu_rebuilding` meets its contract, which is that of `pyramid::rebuilding`: the number is that of its answer. Assumes nothing.
use Rattle.lepsarvu.proofs.FileAnswers.{rebuilding_number}
use Rattle.lepsarvu.proofs.Given.{number-is}
use Rattle.lepsarvu.proofs.lepsarvu_rebuilding.Goals as goal

pub returns-clause-value : goal.returns-clause-value
returns-clause-value c =
    let h = rebuilding_number c.settings_of-s.result c.args.levels.now c.args.picture.now c.args.work.now in
    rw (← c.settings_of-s.ensures) (number-is h tt c.rebuilding.ensures.value c.answer_number.ensures)
