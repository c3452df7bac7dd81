-- `lepsarvu::lepsarvu_coding` meets its contract, which is that of `pyramid::coding`: the number is that of its answer. Assumes nothing.
use Rattle.pyramid.specs.declared.Manner.TheVariants.{OpenLoop}
use Rattle.lepsarvu.proofs.FileAnswers.{coding_number}
use Rattle.lepsarvu.proofs.Given.{number-is}
use Rattle.lepsarvu.proofs.lepsarvu_coding.Goals as goal

pub returns-clause-value : goal.returns-clause-value
returns-clause-value c =
    let h = coding_number c.settings_of-s.result OpenLoop c.args.picture.now c.args.levels.now c.args.work.now in
    rw (← c.settings_of-s.ensures) (number-is h tt c.coding.ensures.value c.answer_number.ensures)
