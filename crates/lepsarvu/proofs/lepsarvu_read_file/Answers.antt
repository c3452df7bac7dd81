-- `lepsarvu::lepsarvu_read_file` meets its contract, which is that of `bale::read_file`. Assumes nothing.
use Rattle.bale.specs.declared.Bale.{Bale}
use Rattle.lepsarvu.specs.Definitions.Exports.{settings_array, note_array}
use Rattle.lepsarvu.proofs.FileAnswers.{read_number}
use Rattle.lepsarvu.proofs.Given.{number-is, left}
use Rattle.lepsarvu.proofs.lepsarvu_read_file.Goals as goal

pub returns : goal.returns
returns c =
    let h = read_number c.args.file.now c.args.levels.now in
    let e = c.read_file-answer.ensures.value in
    let g = c.give_bale.ensures in
    record {
      value = number-is h _ e g.value;
      levels_after = c.read_file-answer.ensures.levels_after;
      settings_after = left h _ e (λ (b : Bale). settings_array b.settings) _ g.value g.settings_after;
      note_after = left h _ e (λ (b : Bale). note_array b.note) _ g.value g.note_after;
    }
