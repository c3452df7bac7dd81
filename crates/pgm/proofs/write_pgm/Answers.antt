-- `pgm::write_pgm` meets its contract: refused, nothing is touched; accepted, the file is put. Assumes nothing.
use mathlib.Core.Path.{sym, ◌∙◌}
use Rattle.refusals.proofs.Outcomes.{none, some, value-is, passed_on}
use Rattle.pgm.specs.Definitions.Calls.{write_pgm}
use Rattle.pgm.proofs.Writings.{size-outcome, stops, size_untouched, picture_refused, room_refused, part_long, written}
use Rattle.pgm.proofs.write_pgm.Goals as goal

pub returns-in_err-bytes : goal.returns-in_err-bytes
unfolding write_pgm
returns-in_err-bytes c =
    let file = c.args.file.now in
    let picture = c.args.picture.now in
    let e = c.in_err-bytes.ensures ∙ size-outcome _ _ in
    record {
      value = passed_on _ _ _ c.from_residual.result _ c.from_residual.ensures.1 e (stops _ _ picture file);
      file_after = size_untouched _ _ picture file (some _ _ (sym e));
    }

pub returns-then-picture-size : goal.returns-then-picture-size
returns-then-picture-size c =
    let e = sym (c.in_ok-bytes.ensures ∙ size-outcome _ _) in
    let refused = picture_refused _ _ c.args.picture.now c.args.file.now (none _ _ e) c.if-picture-size.true in
    record { value = refused.0; file_after = refused.1 }

pub returns-then-file-bytes : goal.returns-then-file-bytes
returns-then-file-bytes c =
    let e = sym (c.in_ok-bytes.ensures ∙ size-outcome _ _) in
    let refused = room_refused _ _ c.args.picture.now c.args.file.now (none _ _ e) c.if-picture-size.false (value-is _ _ e) c.if-file-bytes.true in
    record { value = refused.0; file_after = refused.1 }

pub put_pgm-requires : goal.put_pgm-requires
put_pgm-requires c =
    let e = sym (c.in_ok-bytes.ensures ∙ size-outcome _ _) in
    part_long _ _ c.args.picture.now c.args.file.now (none _ _ e) c.if-picture-size.false (value-is _ _ e) c.if-file-bytes.false

pub returns : goal.returns
returns c =
    let e = sym (c.in_ok-bytes.ensures ∙ size-outcome _ _) in
    let written = written _ _ c.args.picture.now c.args.file.now (none _ _ e) c.if-picture-size.false (value-is _ _ e) c.if-file-bytes.false c.put_pgm.ensures in
    record { value = written.0; file_after = written.1 }
