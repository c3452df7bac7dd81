-- `lepsarvu::lepsarvu_total_nodes` meets its contract, which is that of `pyramid::total_nodes`. Assumes nothing.
use Rattle.lepsarvu.proofs.FileAnswers.{nodes_number}
use Rattle.lepsarvu.proofs.Given.{number-is, left}
use Rattle.lepsarvu.proofs.lepsarvu_total_nodes.Goals as goal

pub returns : goal.returns
returns c =
    let h = nodes_number c.settings_of-s.result in
    let e = c.total_nodes.ensures in
    let g = c.give.ensures in
    rw (← c.settings_of-s.ensures) (record { value = number-is h _ e g.value; nodes_after = left h _ e (λ value. value) _ g.value g.place_after })
