-- `bale::probes::ReadingTryFromCode::try_from` meets its contract: each answer is a case of `decode`. Assumes nothing.
use mathlib.Core.Path.{◌∙◌}
use native.Mathlib.Omega.{arith}
use Rattle.bale.proofs.Readings.{decode_none, decode_fault, decode_other}
use Rattle.bale.proofs.probes.ReadingTryFromCode.try_from.Goals as goal

pub returns-in-0 : goal.returns-in-0
returns-in-0 c = c.ok_or.ensures.value ∙ rw c.then_some.ensures (decode_none _ c.in-0.is)

pub returns-in-2 : goal.returns-in-2
returns-in-2 c = c.ok_or-in-2.ensures.value ∙ rw (c.then_some-in-2.ensures, c.fault_ok.ensures) (decode_fault _ c.in-2.is)

pub returns-in-3-to-255 : goal.returns-in-3-to-255
returns-in-3-to-255 c = let other = c.in-3-to-255 in decode_other _ _ (omega arith)
