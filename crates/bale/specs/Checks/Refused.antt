-- What a refusal leaves (document 01, "Who can cause which refusal"): lent memory is unchanged, and what the definitions have beside its
-- number is 0 in the numbers and not fitted in the readings. Assumes nothing.
use Rattle.std.specs.Prelude.{◌≡◌, List, ℕ, ℤ, replicate}
use Rattle.pyramid.specs.declared.Settings.{Settings}
use Rattle.pyramid.specs.Checks.Refused.{Refused}
use Rattle.bale.specs.declared.Reading.{Reading}
use Rattle.bale.specs.declared.Reading.TheVariants.{NotFitted}
use Rattle.bale.specs.declared.Note.{Note}
use Rattle.bale.specs.Definitions.Readings.{code_of, decode}
use Rattle.bale.specs.Definitions.Calls.{BaleAnswer, size_answer, write_file, check_file, read_file}

pub record HoldsNothing (bale : BaleAnswer) : Type 0 where
  pub numbers : bale.settings ≡ record { columns = 0; rows = 0; depth = 0; kernel = 0; black = 0; white = 0; bins = replicate 7 0 }
  pub readings : bale.note ≡ record { before_drier = NotFitted; at_press = NotFitted }

pub record RefusedFilesHoldNothing : Type 0 where
  pub of_size : (s : Settings) → Refused (size_answer s).refusal ((size_answer s).size ≡ 0)
  pub of_writing : (s : Settings) (note : Note) (levels : List ℤ) (file : List ℕ)
      → Refused (write_file s note levels file).answer.refusal
      (((write_file s note levels file).answer.size ≡ 0) × ((write_file s note levels file).file ≡ file))
  pub of_checking : (bytes : List ℕ) → Refused (check_file bytes).refusal (HoldsNothing (check_file bytes))
  pub of_reading : (bytes : List ℕ) (levels : List ℤ)
      → Refused (read_file bytes levels).answer.refusal (HoldsNothing (read_file bytes levels).answer × ((read_file bytes levels).levels ≡ levels))
  -- a reading's kind and number, and the reading of these
  pub of_code : (reading : Reading) → Refused (code_of reading).refusal (((code_of reading).kind ≡ 0) × ((code_of reading).number ≡ 0))
  pub of_decoding : (kind number : ℕ) → Refused (decode kind number).refusal ((decode kind number).reading ≡ NotFitted)
