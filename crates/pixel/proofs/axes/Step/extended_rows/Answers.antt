-- `pixel::axes::Step::extended_rows` meets its contract: each of its rows. Assumes nothing.
use Rattle.std.proofs.Common.{refl}
use Rattle.pyramid.proofs.TapSums.{within_fits}
use Rattle.pixel.proofs.Blocks.{row_extended, extended_small, block_extended}
use Rattle.pixel.proofs.axes.Step.extended_rows.Goals as goal

pub returns : goal.returns
returns c =
    let a = c.args.self.above in
    let v = c.args.values.now in
    block_extended _ (λ n y. within_fits tt (extended_small a v c.requires n y))
    (row_extended v c.requires 0 refl refl refl refl a c.extended.ensures) (row_extended v c.requires 1 refl refl refl refl a c.extended-2.ensures)
    (row_extended v c.requires 2 refl refl refl refl a c.extended-3.ensures) (row_extended v c.requires 3 refl refl refl refl a c.extended-4.ensures)
