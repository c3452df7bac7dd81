-- `pgm::read_pgm` meets its contract: refused, nothing is touched; accepted, the pixels are copied. Assumes nothing.
use mathlib.Core.Path.{sym}
use Rattle.refusals.proofs.Outcomes.{none, some, value-is, passed_on}
use Rattle.pgm.specs.Definitions.Calls.{size_in, read_pgm}
use Rattle.pgm.proofs.Answers.{picture_refused, read, stops, untouched}
use Rattle.pgm.proofs.read_pgm.Goals as goal

pub returns-in_err-found : goal.returns-in_err-found
unfolding read_pgm size_in
returns-in_err-found c =
    let file = c.args.file.now in
    let picture = c.args.picture.now in
    let refused = some _ _ (sym c.in_err-found.ensures) in
    record {
      value = passed_on _ _ _ c.from_residual.result _ c.from_residual.ensures.1 c.in_err-found.ensures (stops file picture);
      picture_after = untouched file picture refused;
    }

pub returns-then-picture-found : goal.returns-then-picture-found
returns-then-picture-found c =
    let e = sym c.in_ok-found.ensures in
    let refused = picture_refused _ (none _ _ e) (value-is _ _ e) c.args.picture.now c.if-picture-found.true in
    record { value = refused.0; picture_after = refused.1 }

pub returns : goal.returns
returns c =
    let e = sym c.in_ok-found.ensures in
    let read = read _ (none _ _ e) (value-is _ _ e) c.args.picture.now c.if-picture-found.false c.copy_from_slice.ensures.after in
    record { value = read.0; picture_after = read.1 }
