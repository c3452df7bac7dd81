-- `lepsarvu::pixels::lepsarvu_rebuild_pixel` meets its contract, which is that of `pixel::rebuild_pixel`. Assumes nothing.
use Rattle.pixel.specs.declared.RebuiltPixel.{RebuiltPixel}
use Rattle.lepsarvu.proofs.PixelNumbers.{pixel_number}
use Rattle.lepsarvu.proofs.Given.{number-is, left}
use Rattle.lepsarvu.proofs.pixels.lepsarvu_rebuild_pixel.Goals as goal

pub returns : goal.returns
returns c =
    let h = pixel_number c.settings_of-s.result c.args.column c.args.row c.args.levels.now in
    let e = c.rebuild_pixel-answer.ensures in
    let g = c.give_pixel.ensures in
    rw (← c.settings_of-s.ensures)
    (record {
      value = number-is h _ e g.value;
      pixel_after = left h _ e (λ (p : RebuiltPixel). p.pixel) _ g.value g.pixel_after;
      read_after = left h _ e (λ (p : RebuiltPixel). p.read) _ g.value g.read_after;
    })
