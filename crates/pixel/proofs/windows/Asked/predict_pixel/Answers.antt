-- `pixel::windows::Asked::predict_pixel` meets its contract: 0 at the top, and else the first place of EXPAND. Assumes nothing.
use Rattle.std.proofs.Common.{◌≡◌, ◌≤◌, ◌∙◌, sym, ap, ℕ, arith}
use borrow.Author.Rules.{sfits_of}
use Rattle.mathematics.proofs.Held.{held, held_is}
use Rattle.quantizer.specs.Definitions.Rounding.{round_div}
use Rattle.pixel.specs.Inner.Blocks.{block_sum}
use Rattle.pixel.proofs.StepsDown.{axis_wide, step_of}
use Rattle.pixel.proofs.Predictions.{pixel_top, pixel_below}
use Rattle.pixel.proofs.windows.Asked.predict_pixel.Goals as goal
use Rattle.pixel.proofs.windows.Asked.predict_pixel.Goals.{After-expand_first}

pub returns-then-self-eq0 : goal.returns-then-self-eq0
returns-then-self-eq0 c = λ levels above. pixel_top c.args.self.settings c.args.self.column c.args.self.row (sym c.if-self-eq0.true) levels

pub new-columns-requires : goal.new-columns-requires
new-columns-requires c =
    let a = c.args.self in
    let side = a.lawful.shaped.across in
    let deep : 1 ≤ a.settings.depth = omega (arith, c.if-self-eq0.false) in
    (omega (arith, a.inside.0, side.most), omega arith, axis_wide side a.inside.0 0 deep (c.requires.axes deep).columns_are)

pub new-rows-requires : goal.new-rows-requires
new-rows-requires c =
    let a = c.args.self in
    let side = a.lawful.shaped.along in
    let deep : 1 ≤ a.settings.depth = omega (arith, c.if-self-eq0.false) in
    (omega (arith, a.inside.1, side.most), omega arith, axis_wide side a.inside.1 0 deep (c.requires.axes deep).rows_are)

-- what is returned, stored
made : (n : After-expand_first) → held n.expand_first.result
    ≡ round_div (block_sum n.args.self.settings.kernel n.new-columns.result n.new-rows.result n.args.upper.block.values 0 0) 100
made n =
    held_is (sfits_of n.expand_first.type_inv) ∙ n.expand_first.ensures
    ∙ ap (λ (k : ℕ). round_div (block_sum k n.new-columns.result n.new-rows.result n.args.upper.block.values 0 0) 100) n.weights.ensures

pub returns : goal.returns
returns c = λ levels above.
    let a = c.args.self in
    let deep : 1 ≤ a.settings.depth = omega (arith, c.if-self-eq0.false) in
    pixel_below a.settings a.column a.row a.lawful a.inside.0 a.inside.1 deep
    (step_of c.new-columns.result c.new-columns.ensures (c.requires.axes deep).columns_are) (step_of c.new-rows.result c.new-rows.ensures (c.requires.axes deep).rows_are) (made (goal.at.returns c).After-expand_first) levels above
