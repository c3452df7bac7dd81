-- `lepsarvu::lepsarvu_write_file` meets its contract: the number of what is answered, and the size where there is one. Assumes nothing.
use Rattle.lepsarvu.specs.Definitions.Exports.{coded_size}
use Rattle.lepsarvu.proofs.CodedNotes.{coded_number}
use Rattle.lepsarvu.proofs.Given.{number-is, left}
use Rattle.lepsarvu.proofs.lepsarvu_write_file.Goals as goal

pub returns : goal.returns
unfolding coded_size
returns c =
    let h = coded_number c.settings_of-s.result c.args.note.now c.args.levels.now c.args.file.now in
    let e = c.write_coded.ensures in
    rw (← c.settings_of-s.ensures)
    (record {
      value = number-is h _ e.value c.give.ensures.value;
      file_after = e.file_after;
      size_after = rw (number-is h _ e.value c.give.ensures.value) at (left h _ e.value (λ value. value) _ c.give.ensures.value c.give.ensures.place_after);
    })
