-- The worked files, by computation. Assumes nothing.
use mathlib.Core.Path.{◌≡◌, refl}
use mathlib.Core.List.{List}
use Prim.Native.Nat.{ℕ}
use lib.ListN.{length, drop}
use Rattle.pyramid.specs.Definitions.Settings.{side_ok, size_ok}
use Rattle.pyramid.specs.Definitions.Refusals.{unless, first}
use Rattle.pyramid.specs.Definitions.Calls.{leaves}
use Rattle.decimals.specs.Definitions.Digits.{value, digits_up_to, digits}
use Rattle.decimals.specs.Definitions.Text.{decimal, is_digit, leading_digits, number_at}
use Rattle.pgm.specs.Definitions.Header.{is_space, spaces, digits_place, number_end, number_in, number_ok, header_ok, columns_in, rows_in, pixels_place}
use Rattle.pgm.specs.Definitions.Files.{number_then, header_of, pgm_of, pgm_length}
use Rattle.pgm.specs.Definitions.Calls.{check_refusal, read_refusal, size_in, check_pgm, read_pgm, write_refusal, write_pgm}
use Rattle.pgm.specs.Checks.WorkedFiles.{our_form, wide, commented, five_digits, WorkedFiles}
use Rattle.pgm.proofs.Acceptance.{reading_is}

-- a picture of as many places as the file wants
lent_read : (bytes : List ℕ) {places : ℕ} → read_refusal bytes places ≡ 0 → (lent : List ℕ) → length lent ≡ places
    → read_pgm bytes lent ≡ record { answer = record { refusal = 0; columns = columns_in bytes; rows = rows_in bytes }; picture = drop (pixels_place bytes) bytes }
lent_read bytes none lent e = reading_is bytes lent (rw e none)

pub worked_files : WorkedFiles
unfolding side_ok size_ok unless first leaves value digits_up_to digits decimal is_digit leading_digits number_at is_space spaces digits_place number_end number_in number_ok header_ok number_then header_of pgm_of pgm_length check_refusal read_refusal size_in check_pgm read_pgm write_refusal write_pgm
worked_files = record {
  our_form_is_read = record { checked = refl; read = lent_read our_form refl };
  wide-is_read = record { checked = refl; read = lent_read wide refl };
  commented-is_read = record { checked = refl; read = lent_read commented refl };
  five_digits-is_read = record { checked = refl; read = lent_read five_digits refl };
  nothing-is_refused = record { checked = refl; read = λ lent. refl };
  other_kind_is_refused = record { checked = refl; read = λ lent. refl };
  together-is_refused = record { checked = refl; read = λ lent. refl };
  six_digits-is_refused = record { checked = refl; read = λ lent. refl };
  no_grey_is_refused = record { checked = refl; read = λ lent. refl };
  no_newline_is_refused = record { checked = refl; read = λ lent. refl };
  late_comment_is_refused = record { checked = refl; read = λ lent. refl };
  cut_short_is_refused = record { checked = refl; read = λ lent. refl };
  narrow-is_refused = record { checked = refl; read = λ lent. refl };
  darker-is_refused = record { checked = refl; read = λ lent. refl };
  too_few_is_refused = record { checked = refl; read = λ lent. refl };
  too_many_is_refused = record { checked = refl; read = λ lent. refl };
  two_spaces-is_refused = record { checked = refl; read = λ lent. refl };
  lent_too_short = refl;
  written = refl;
  written_wide = refl;
  written_again = refl;
  written_in_buffer = refl;
  no_room = refl;
  longest_header = refl;
  longest = refl;
}
