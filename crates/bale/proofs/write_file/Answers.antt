-- `bale::write_file` meets its contract: refused, nothing is touched; accepted, the file is put. Assumes nothing.
use mathlib.Core.Path.{refl, sym, ◌∙◌}
use Rattle.refusals.proofs.Outcomes.{accepts, none, some, value-is, passed_on}
use Rattle.bale.proofs.Answers.{writing_left, writing_kept, writing_put}
use Rattle.bale.proofs.write_file.Goals as goal

pub returns-in_err-shape : goal.returns-in_err-shape
returns-in_err-shape c =
    let said = passed_on _ _ _ c.from_residual.result _ c.from_residual.ensures.1 c.in_err-shape.ensures (λ _. refl) in
    record { value = said ∙ writing_left _ _ _ _; file_after = writing_kept _ _ _ _ (some _ _ (sym c.in_err-shape.ensures)) }

pub put_file-requires : goal.put_file-requires
put_file-requires c = let e = sym c.in_ok-shape.ensures in rw (value-is _ _ e) (none _ _ e)

pub returns-clause-value : goal.returns-clause-value
returns-clause-value c = let e = sym c.in_ok-shape.ensures in rw (c.file_length.ensures, value-is _ _ e) (accepts _ (none _ _ e)) ∙ writing_left _ _ _ _

pub returns-clause-file_after : goal.returns-clause-file_after
returns-clause-file_after c = let e = sym c.in_ok-shape.ensures in (rw (value-is _ _ e) at c.put_file.ensures) ∙ writing_put _ _ _ _ (none _ _ e)
