-- What a refusal leaves is what `leaves` keeps. Assumes nothing.
use mathlib.Core.Path.{◌≡◌}
use mathlib.Core.Bool.{Bool}
use mathlib.Core.List.{List}
use Prim.Native.Nat.{ℕ, zero, suc}
use Rattle.pyramid.specs.Checks.Refused.{Refused}
use Rattle.pyramid.proofs.Refusals.{leaves_kept}
use Rattle.bale.specs.declared.Reading.{Reading}
use Rattle.bale.specs.declared.Reading.TheVariants.{NotFitted, Percentage, Fault}
use Rattle.bale.specs.Definitions.Readings.{code_where, code_of, probe_where, decode}
use Rattle.bale.specs.Definitions.Calls.{size_answer, write_file, no_settings, no_note, bale_of, check_file, read_file}
use Rattle.bale.specs.Checks.Refused.{HoldsNothing, RefusedFilesHoldNothing}

code_kept : (ok : Bool) (kind number : ℕ) → Refused (code_where ok kind number).refusal (((code_where ok kind number).kind ≡ 0) × ((code_where ok kind number).number ≡ 0))
unfolding code_where
code_kept ok kind number refused = (leaves_kept _ _ _ refused, leaves_kept _ _ _ refused)

probe_kept : (ok : Bool) (reading : Reading) → Refused (probe_where ok reading).refusal ((probe_where ok reading).reading ≡ NotFitted)
unfolding probe_where
probe_kept ok reading = leaves_kept _ _ _

coded_kept : (reading : Reading) → Refused (code_of reading).refusal (((code_of reading).kind ≡ 0) × ((code_of reading).number ≡ 0))
unfolding code_of
coded_kept NotFitted = code_kept _ _ _
coded_kept (Percentage x) = code_kept _ _ _
coded_kept (Fault code) = code_kept _ _ _

decoded_kept : (kind number : ℕ) → Refused (decode kind number).refusal ((decode kind number).reading ≡ NotFitted)
unfolding decode
decoded_kept zero number = probe_kept _ _
decoded_kept (suc zero) number = probe_kept _ _
decoded_kept (suc (suc zero)) number = probe_kept _ _
decoded_kept (suc (suc (suc kind))) number = probe_kept _ _

bale_kept : (bytes : List ℕ) (refusal : ℕ) → Refused refusal (HoldsNothing (bale_of bytes refusal))
unfolding bale_of no_settings no_note
bale_kept bytes refusal refused = record { numbers = leaves_kept _ _ _ refused; readings = leaves_kept _ _ _ refused }

pub refused_files_hold_nothing : RefusedFilesHoldNothing
unfolding size_answer write_file check_file read_file bale_of
refused_files_hold_nothing = record {
  of_size = λ s. leaves_kept _ _ _;
  of_writing = λ s note levels file refused. (leaves_kept _ _ _ refused, leaves_kept _ _ _ refused);
  of_checking = λ bytes. bale_kept bytes _;
  of_reading = λ bytes levels refused. (bale_kept bytes _ refused, leaves_kept _ _ _ refused);
  of_code = coded_kept;
  of_decoding = decoded_kept;
}
