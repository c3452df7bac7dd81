-- `lepsarvu::pictures::lepsarvu_write_pgm` meets its contract, which is that of `pgm::write_pgm`. Assumes nothing.
use Rattle.lepsarvu.proofs.PictureAnswers.{write_number}
use Rattle.lepsarvu.proofs.Given.{number-is, left}
use Rattle.lepsarvu.proofs.pictures.lepsarvu_write_pgm.Goals as goal

pub returns : goal.returns
returns c =
    let h = write_number c.args.columns c.args.rows c.args.picture.now c.args.file.now in
    let e = c.write_pgm.ensures.value in
    let g = c.give.ensures in
    record { value = number-is h _ e g.value; file_after = c.write_pgm.ensures.file_after; size_after = left h _ e (λ n. n) _ g.value g.place_after }
