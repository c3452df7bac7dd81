-- `lepsarvu::lepsarvu_deepest_depth` meets its contract, which is that of `pyramid::deepest_depth`. Assumes nothing.
use Rattle.lepsarvu.proofs.FileAnswers.{deepest_number}
use Rattle.lepsarvu.proofs.Given.{number-is, left}
use Rattle.lepsarvu.proofs.lepsarvu_deepest_depth.Goals as goal

pub returns : goal.returns
returns c =
    let h = deepest_number c.args.columns c.args.rows in
    let e = c.deepest_depth.ensures in
    let g = c.give.ensures in
    record { value = number-is h _ e g.value; depth_after = left h _ e (λ value. value) _ g.value g.place_after }
