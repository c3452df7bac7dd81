-- `lepsarvu::code_of` meets its contract: the kind and number of a reading that has them, else 0 and 0. Assumes nothing.
use mathlib.Core.Path.{◌≡◌, refl, ◌∙◌}
use mathlib.Core.Bool.{Bool, true, false}
use Prim.Native.Nat.{ℕ}
use Rattle.std.specs.Float.{binary32}
use Rattle.std.specs.Float.Ieee.{to_bits}
use Rattle.std.specs.Result.{result_unwrap_or}
use Rattle.refusals.specs.Definitions.Outcomes.{outcome}
use Rattle.pyramid.specs.Definitions.Refusals.{unless}
use Rattle.pyramid.specs.Definitions.Calls.{leaves}
use Rattle.bale.specs.declared.Code.{Code}
use Rattle.bale.specs.declared.Reading.{Reading}
use Rattle.bale.specs.declared.Reading.TheVariants.{NotFitted, Percentage, Fault}
use Rattle.bale.specs.Definitions.Readings.{CodeAnswer, code_where, code_in, code_of, percentage_ok, fault_ok}
use Rattle.lepsarvu.proofs.code_of.Goals as goal

-- what is taken of an answer, 0 and 0 where it is refused
abbrev taken : CodeAnswer → Code
taken answer = result_unwrap_or (outcome answer.refusal (code_in answer)) (record { kind = 0; number = 0 })

taken_where : (ok : Bool) (kind number : ℕ) → taken (code_where ok kind number) ≡ code_in (code_where ok kind number)
unfolding code_where unless leaves outcome
taken_where true kind number = refl
taken_where false kind number = refl

taken_of : (reading : Reading) → taken (code_of reading) ≡ code_in (code_of reading)
unfolding code_of
taken_of NotFitted = taken_where true 0 0
taken_of (Percentage x) = taken_where (percentage_ok (to_bits binary32 x) x) 1 (to_bits binary32 x)
taken_of (Fault code) = taken_where (fault_ok code) 2 code

pub returns : goal.returns
returns c = c.unwrap_or.ensures ∙ rw c.reading_code.ensures (taken_of c.args.reading)
