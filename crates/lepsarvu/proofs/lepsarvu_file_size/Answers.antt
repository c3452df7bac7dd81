-- `lepsarvu::lepsarvu_file_size` meets its contract, which is that of `bale::file_size`. Assumes nothing.
use Rattle.lepsarvu.proofs.FileAnswers.{size_number}
use Rattle.lepsarvu.proofs.Given.{number-is, left}
use Rattle.lepsarvu.proofs.lepsarvu_file_size.Goals as goal

pub returns : goal.returns
returns c =
    let h = size_number c.settings_of-s.result in
    let e = c.file_size.ensures in
    let g = c.give.ensures in
    rw (← c.settings_of-s.ensures) (record { value = number-is h _ e g.value; size_after = left h _ e (λ value. value) _ g.value g.place_after })
