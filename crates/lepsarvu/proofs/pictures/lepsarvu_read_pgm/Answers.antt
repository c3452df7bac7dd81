-- `lepsarvu::pictures::lepsarvu_read_pgm` meets its contract, which is that of `pgm::read_pgm`. Assumes nothing.
use Rattle.pyramid.specs.declared.Dimensions.{Dimensions}
use Rattle.lepsarvu.proofs.PictureAnswers.{read_number}
use Rattle.lepsarvu.proofs.Given.{number-is, left}
use Rattle.lepsarvu.proofs.pictures.lepsarvu_read_pgm.Goals as goal

pub returns : goal.returns
returns c =
    let h = read_number c.args.file.now c.args.picture.now in
    let e = c.read_pgm.ensures.value in
    let g = c.give_picture_size.ensures in
    record {
      value = number-is h _ e g.value;
      picture_after = c.read_pgm.ensures.picture_after;
      columns_after = left h _ e (λ (s : Dimensions). s.columns) _ g.value g.columns_after;
      rows_after = left h _ e (λ (s : Dimensions). s.rows) _ g.value g.rows_after;
    }
