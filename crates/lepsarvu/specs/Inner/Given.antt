-- What is left where room was lent for a part of an answer, for the contracts of functions inside this crate. Assumes nothing.
use Rattle.std.specs.Prelude.{Result, Ok, Err}
use Rattle.refusals.specs.declared.Refusal.{Refusal}

-- the part of a value; what was there where the call is refused
unfoldable pub given : {A B : Type 0} → Result A Refusal → (A → B) → B → B
given (Ok value) part old = part value
given (Err refusal) part old = old
