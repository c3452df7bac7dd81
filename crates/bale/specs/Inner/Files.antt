-- What a result says of the bytes behind it: of a file whose shape section passed, and of the bytes that are left. Assumes nothing.
use Rattle.std.specs.Prelude.{List, ℕ, Result, Ok, Err}
use Rattle.std.specs.Borrow.{Bor}
use Rattle.refusals.specs.declared.Refusal.{Refusal}
use Rattle.bale.specs.declared.shaped.ShapedFile.{ShapedFile}

abbrev pub file_bytes : Result ShapedFile Refusal → Result (List ℕ) Refusal
file_bytes (Ok file) = Ok file.bytes.now
file_bytes (Err refusal) = Err refusal

abbrev pub bytes_left : Result (Bor (List ℕ)) Refusal → Result (List ℕ) Refusal
bytes_left (Ok left) = Ok left.now
bytes_left (Err refusal) = Err refusal
