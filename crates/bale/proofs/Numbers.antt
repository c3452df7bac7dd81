-- Which numbers each call can answer: 0 or the number of one of the rules that it looks through. Assumes nothing.
use mathlib.Core.Bool.{Bool}
use mathlib.Core.List.{[], ◌∷◌}
use Prim.Native.Nat.{ℕ, zero, suc}
use lib.ListN.{length}
use Rattle.pyramid.specs.Definitions.Refusals.{unless}
use Rattle.pyramid.specs.Checks.Numbers.{Answers}
use Rattle.pyramid.proofs.Refusals.{unless_elim}
use Rattle.pyramid.proofs.Rules.{answered}
use Rattle.pyramid.proofs.Conditions.{settings_tests, settings_look}
use Rattle.bale.specs.declared.Reading.{Reading}
use Rattle.bale.specs.declared.Reading.TheVariants.{NotFitted, Percentage, Fault}
use Rattle.bale.specs.Definitions.Readings.{code_where, code_of, probe_where, decode}
use Rattle.bale.specs.Definitions.Calls.{size_answer, write_file, bale_of, check_file, read_file}
use Rattle.bale.specs.Checks.Numbers.{BaleNumbers}
use Rattle.bale.proofs.Conditions.{writing_tests, writing_looks}
use Rattle.bale.proofs.Totality.{reading_is-total}

-- ---- a reading's number

abbrev OrFour : ℕ → Type 0
OrFour n = Answers (4 ∷ []) n

four : (ok : Bool) → OrFour (unless ok 4)
four ok = unless_elim OrFour tt ok 4 tt

code_numbers : (r : Reading) → OrFour (code_of r).refusal
unfolding code_of code_where
code_numbers NotFitted = four _
code_numbers (Percentage x) = four _
code_numbers (Fault code) = four _

decoding_numbers : (kind n : ℕ) → OrFour (decode kind n).refusal
unfolding decode probe_where
decoding_numbers zero n = four _
decoding_numbers (suc zero) n = four _
decoding_numbers (suc (suc zero)) n = four _
decoding_numbers (suc (suc (suc kind))) n = four _

pub bale_numbers : BaleNumbers
unfolding size_answer write_file check_file read_file bale_of
bale_numbers = record {
  of_size = λ s. answered (settings_tests s) (settings_look s);
  of_writing = λ s note levels file. answered (writing_tests s note levels (length file)) (writing_looks s note levels (length file));
  of_checking = λ bytes. (reading_is-total bytes).checked;
  of_reading = λ bytes levels. (reading_is-total bytes).read (length levels);
  of_code = code_numbers;
  of_decoding = decoding_numbers;
}
