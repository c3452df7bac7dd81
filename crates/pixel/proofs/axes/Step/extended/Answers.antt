-- `pixel::axes::Step::extended` meets its contract: each place is the line's or what an edge reflects to it. Assumes nothing.
use borrow.Author.Rules.{sfits_of}
use Rattle.pixel.proofs.Lines.{extended_made}
use Rattle.pixel.proofs.axes.Step.extended.Goals as goal

pub returns : goal.returns
returns c =
    extended_made c.args.self.above c.args.self.wide c.args.v c.requires (sfits_of c.choose.type_inv) (sfits_of c.choose-2.type_inv) (sfits_of c.choose-3.type_inv)
    c.choose.ensures c.choose-2.ensures c.choose-3.ensures
