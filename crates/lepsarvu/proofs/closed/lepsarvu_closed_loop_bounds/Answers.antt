-- `lepsarvu::closed::lepsarvu_closed_loop_bounds` meets its contract, which is that of `pyramid::closed_loop_bounds`. Assumes nothing.
use Rattle.pyramid.specs.declared.Manner.TheVariants.{ClosedLoop}
use Rattle.lepsarvu.proofs.FileAnswers.{bounds_number}
use Rattle.lepsarvu.proofs.Given.{number-is, left}
use Rattle.lepsarvu.proofs.closed.lepsarvu_closed_loop_bounds.Goals as goal

pub returns : goal.returns
returns c =
    let h = bounds_number c.settings_of-s.result ClosedLoop in
    let e = c.closed_loop_bounds.ensures in
    let g = c.give.ensures in
    rw (← c.settings_of-s.ensures) (record { value = number-is h _ e g.value; bounds_after = left h _ e (λ value. value) _ g.value g.place_after })
