-- `lepsarvu::closed::lepsarvu_closed_loop_coding` meets its contract, which is that of `pyramid::closed_loop_coding`: the number is that of its answer. Assumes nothing.
use Rattle.pyramid.specs.declared.Manner.TheVariants.{ClosedLoop}
use Rattle.lepsarvu.proofs.FileAnswers.{coding_number}
use Rattle.lepsarvu.proofs.Given.{number-is}
use Rattle.lepsarvu.proofs.closed.lepsarvu_closed_loop_coding.Goals as goal

pub returns-clause-value : goal.returns-clause-value
returns-clause-value c =
    let h = coding_number c.settings_of-s.result ClosedLoop c.args.picture.now c.args.levels.now c.args.work.now in
    rw (← c.settings_of-s.ensures) (number-is h tt c.closed_loop_coding.ensures.value c.answer_number.ensures)
