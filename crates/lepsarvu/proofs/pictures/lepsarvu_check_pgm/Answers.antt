-- `lepsarvu::pictures::lepsarvu_check_pgm` meets its contract, which is that of `pgm::check_pgm`. Assumes nothing.
use Rattle.pyramid.specs.declared.Dimensions.{Dimensions}
use Rattle.lepsarvu.proofs.PictureAnswers.{check_number}
use Rattle.lepsarvu.proofs.Given.{number-is, left}
use Rattle.lepsarvu.proofs.pictures.lepsarvu_check_pgm.Goals as goal

pub returns : goal.returns
returns c =
    let h = check_number c.args.file.now in
    let e = c.check_pgm.ensures in
    let g = c.give_picture_size.ensures in
    record {
      value = number-is h _ e g.value;
      columns_after = left h _ e (λ (s : Dimensions). s.columns) _ g.value g.columns_after;
      rows_after = left h _ e (λ (s : Dimensions). s.rows) _ g.value g.rows_after;
    }
