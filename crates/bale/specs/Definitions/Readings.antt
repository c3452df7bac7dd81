-- A probe reading, its kind and its number (document 01, "Bale file"): not fitted (0), a percentage held as a 32-bit float (1), or a fault
-- code (2). Assumes nothing.
use Rattle.std.specs.Prelude.{Bool, true, false, ◌&&◌, List, ◌∷◌, ℕ, zero, suc, ◌*◌, ◌<◌, T, leb, ltb, eqb, Float}
use Rattle.std.specs.Float.{binary32}
use Rattle.std.specs.Float.Ieee.{fits, le, to_bits, of_bits}
use Rattle.pyramid.specs.Definitions.Refusals.{unless}
use Rattle.pyramid.specs.Definitions.Calls.{leaves}
use Rattle.bale.specs.declared.Reading.{Reading}
use Rattle.bale.specs.declared.Reading.TheVariants.{NotFitted, Percentage, Fault}
use Rattle.bale.specs.declared.Note.{Note}
use Rattle.bale.specs.declared.Code.{Code}
use Rattle.bale.specs.Definitions.Words.{le32}

-- a percentage of these bits has a clear sign bit and is at most 100, whose bits are 42C80000, so it is never a NaN
unfoldable pub percentage_ok : ℕ → Float → Bool
percentage_ok bits x = ltb bits 0x8000_0000 && le x (of_bits binary32 0x42C8_0000)

-- a fault code is 1 to 255
unfoldable pub fault_ok : ℕ → Bool
fault_ok code = leb 1 code && leb code 255

-- what the types of a reading say of it: an f32 is a value of its format, and a u32 has 32 bits
abbrev pub HeldReading : Reading → Type 0
HeldReading NotFitted = Unit {0}
HeldReading (Percentage x) = T (fits binary32 x)
HeldReading (Fault code) = code < 2 * 0x8000_0000

-- refusal 4, or 0 and the values that a call then answers; beside 4 they are 0 and not fitted, and the call answers its refusal alone
pub record CodeAnswer : Type 0 where
  pub refusal : ℕ
  pub kind : ℕ
  pub number : ℕ

pub record ReadingAnswer : Type 0 where
  pub refusal : ℕ
  pub reading : Reading

abbrev pub code_in : CodeAnswer → Code
code_in answer = record { kind = answer.kind; number = answer.number }

-- ---- as it is written

-- a kind and a number where the rule holds, else 4 and zeros
unfoldable pub code_where : Bool → ℕ → ℕ → CodeAnswer
code_where ok kind number =
    let refusal = unless ok 4 in
    record { refusal = refusal; kind = leaves refusal kind 0; number = leaves refusal number 0 }

-- the kind and the number of a reading: not fitted is four zero bytes, and a percentage's bits are kept unchanged
unfoldable pub code_of : Reading → CodeAnswer
code_of NotFitted = code_where true 0 0
code_of (Percentage x) = code_where (percentage_ok (to_bits binary32 x) x) 1 (to_bits binary32 x)
code_of (Fault code) = code_where (fault_ok code) 2 code

-- its five bytes
abbrev pub reading_bytes : Reading → List ℕ
reading_bytes reading = (code_of reading).kind ∷ le32 (code_of reading).number

abbrev pub reading_ok : Reading → Bool
reading_ok reading = eqb (code_of reading).refusal 0

-- either reading may be not fitted
unfoldable pub note_ok : Note → Bool
note_ok note = reading_ok note.before_drier && reading_ok note.at_press

-- ---- as it is read

-- a reading where the rule holds, else 4 and not fitted
unfoldable pub probe_where : Bool → Reading → ReadingAnswer
probe_where ok reading =
    let refusal = unless ok 4 in
    record { refusal = refusal; reading = leaves refusal reading NotFitted }

-- the reading that a kind and a number stand for; no kind is above 2
unfoldable pub decode : ℕ → ℕ → ReadingAnswer
decode zero n = probe_where (eqb n 0) NotFitted
decode (suc zero) n = probe_where (percentage_ok n (of_bits binary32 n)) (Percentage (of_bits binary32 n))
decode (suc (suc zero)) n = probe_where (fault_ok n) (Fault n)
decode (suc (suc (suc kind))) n = probe_where false NotFitted
