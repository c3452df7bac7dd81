-- `lepsarvu::lepsarvu_check_file` meets its contract, which is that of `bale::check_file`. Assumes nothing.
use Rattle.bale.specs.declared.Bale.{Bale}
use Rattle.lepsarvu.specs.Definitions.Exports.{settings_array, note_array}
use Rattle.lepsarvu.proofs.FileAnswers.{check_number}
use Rattle.lepsarvu.proofs.Given.{number-is, left}
use Rattle.lepsarvu.proofs.lepsarvu_check_file.Goals as goal

pub returns : goal.returns
returns c =
    let h = check_number c.args.file.now in
    let e = c.check_file.ensures in
    let g = c.give_bale.ensures in
    record {
      value = number-is h _ e g.value;
      settings_after = left h _ e (λ (b : Bale). settings_array b.settings) _ g.value g.settings_after;
      note_after = left h _ e (λ (b : Bale). note_array b.note) _ g.value g.note_after;
    }
