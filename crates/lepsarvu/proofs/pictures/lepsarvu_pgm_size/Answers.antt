-- `lepsarvu::pictures::lepsarvu_pgm_size` meets its contract, which is that of `pgm::pgm_size`. Assumes nothing.
use Rattle.lepsarvu.proofs.PictureAnswers.{size_number}
use Rattle.lepsarvu.proofs.Given.{number-is, left}
use Rattle.lepsarvu.proofs.pictures.lepsarvu_pgm_size.Goals as goal

pub returns : goal.returns
returns c =
    let h = size_number c.args.columns c.args.rows in
    let e = c.pgm_size.ensures in
    let g = c.give.ensures in
    record { value = number-is h _ e g.value; size_after = left h _ e (λ n. n) _ g.value g.place_after }
