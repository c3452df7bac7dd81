-- Small files, byte by byte, put together by hand from document 02 (P2): what both readers answer to each, and what is written. Bytes by their
-- codes, with the header's text above each file. Assumes nothing.
use Rattle.std.specs.Prelude.{◌≡◌, List, [], ◌∷◌, ◌++◌, ℕ, ◌*◌, length, replicate}
use Rattle.pgm.specs.Definitions.Files.{header_of, pgm_of, pgm_length, single_form}
use Rattle.pgm.specs.Definitions.Calls.{check_pgm, read_pgm, write_pgm}

-- the bytes are read as this width, height and pixels
pub record WorkedFile (bytes : List ℕ) (columns rows : ℕ) (picture : List ℕ) : Type 0 where
  pub checked : check_pgm bytes ≡ record { refusal = 0; columns = columns; rows = rows }
  pub read : (lent : List ℕ) → length lent ≡ rows * columns
      → read_pgm bytes lent ≡ record { answer = record { refusal = 0; columns = columns; rows = rows }; picture = picture }

-- the bytes are refused with this number, whatever is lent, and what is lent keeps its contents
pub record RefusedFile (bytes : List ℕ) (number : ℕ) : Type 0 where
  pub checked : check_pgm bytes ≡ record { refusal = number; columns = 0; rows = 0 }
  pub read : (lent : List ℕ) → read_pgm bytes lent ≡ record { answer = record { refusal = number; columns = 0; rows = 0 }; picture = lent }

-- ---- accepted

-- the single form: "P5\n2 2\n255\n" and four pixels
abbrev pub our_form : List ℕ
our_form =
    80 ∷ 53 ∷ 10 ∷ 50 ∷ 32 ∷ 50 ∷ 10 ∷ 50 ∷ 53 ∷ 53 ∷ 10 ∷
    0 ∷ 1 ∷ 254 ∷ 255 ∷ []

-- width before height: "P5\n3 2\n255\n" and six pixels
abbrev pub wide : List ℕ
wide =
    80 ∷ 53 ∷ 10 ∷ 51 ∷ 32 ∷ 50 ∷ 10 ∷ 50 ∷ 53 ∷ 53 ∷ 10 ∷
    1 ∷ 2 ∷ 3 ∷ 4 ∷ 5 ∷ 6 ∷ []

-- white space of all kinds, comments, and a zero in front: "P5#a\n2\t#b\n\r2 0255 " and four pixels
abbrev pub commented : List ℕ
commented =
    80 ∷ 53 ∷ 35 ∷ 97 ∷ 10 ∷ 50 ∷ 9 ∷ 35 ∷ 98 ∷ 10 ∷ 13 ∷ 50 ∷ 32 ∷ 48 ∷ 50 ∷ 53 ∷ 53 ∷ 32 ∷
    0 ∷ 1 ∷ 254 ∷ 255 ∷ []

-- five digits each, comments next to each other, and pixels that look like a header: "P5 #9\n#\n 00003 00002 00255\r" and six pixels
abbrev pub five_digits : List ℕ
five_digits =
    80 ∷ 53 ∷ 32 ∷ 35 ∷ 57 ∷ 10 ∷ 35 ∷ 10 ∷ 32 ∷ 48 ∷ 48 ∷ 48 ∷ 48 ∷ 51 ∷ 32 ∷ 48 ∷ 48 ∷ 48 ∷ 48 ∷ 50 ∷ 32 ∷ 48 ∷ 48 ∷ 50 ∷ 53 ∷ 53 ∷ 13 ∷
    10 ∷ 35 ∷ 32 ∷ 48 ∷ 53 ∷ 10 ∷ []

-- ---- refused

-- no byte at all
abbrev pub nothing : List ℕ
nothing = []

-- "P6 2 2 255\n" and four pixels
abbrev pub other_kind : List ℕ
other_kind =
    80 ∷ 54 ∷ 32 ∷ 50 ∷ 32 ∷ 50 ∷ 32 ∷ 50 ∷ 53 ∷ 53 ∷ 10 ∷
    1 ∷ 2 ∷ 3 ∷ 4 ∷ []

-- no white space after P5: "P52 2 255\n" and four pixels
abbrev pub together : List ℕ
together =
    80 ∷ 53 ∷ 50 ∷ 32 ∷ 50 ∷ 32 ∷ 50 ∷ 53 ∷ 53 ∷ 10 ∷
    1 ∷ 2 ∷ 3 ∷ 4 ∷ []

-- a sixth digit: "P5 2 2 000255\n" and four pixels
abbrev pub six_digits : List ℕ
six_digits =
    80 ∷ 53 ∷ 32 ∷ 50 ∷ 32 ∷ 50 ∷ 32 ∷ 48 ∷ 48 ∷ 48 ∷ 50 ∷ 53 ∷ 53 ∷ 10 ∷
    1 ∷ 2 ∷ 3 ∷ 4 ∷ []

-- no digit: "P5 2 2 \n" and four pixels
abbrev pub no_grey : List ℕ
no_grey =
    80 ∷ 53 ∷ 32 ∷ 50 ∷ 32 ∷ 50 ∷ 32 ∷ 10 ∷
    200 ∷ 1 ∷ 2 ∷ 3 ∷ []

-- a comment with no newline: "P5 2 2 #255 " and four pixels
abbrev pub no_newline : List ℕ
no_newline =
    80 ∷ 53 ∷ 32 ∷ 50 ∷ 32 ∷ 50 ∷ 32 ∷ 35 ∷ 50 ∷ 53 ∷ 53 ∷ 32 ∷
    1 ∷ 2 ∷ 3 ∷ 4 ∷ []

-- a comment where the one white space byte is due: "P5 2 2 255#\n" and four pixels
abbrev pub late_comment : List ℕ
late_comment =
    80 ∷ 53 ∷ 32 ∷ 50 ∷ 32 ∷ 50 ∷ 32 ∷ 50 ∷ 53 ∷ 53 ∷ 35 ∷ 10 ∷
    1 ∷ 2 ∷ 3 ∷ 4 ∷ []

-- no white space byte before the pixels: "P5 2 2 255"
abbrev pub cut_short : List ℕ
cut_short = 80 ∷ 53 ∷ 32 ∷ 50 ∷ 32 ∷ 50 ∷ 32 ∷ 50 ∷ 53 ∷ 53 ∷ []

-- one column, and 254 as well: "P5 1 2 254\n" and two pixels
abbrev pub narrow : List ℕ
narrow =
    80 ∷ 53 ∷ 32 ∷ 49 ∷ 32 ∷ 50 ∷ 32 ∷ 50 ∷ 53 ∷ 52 ∷ 10 ∷
    1 ∷ 2 ∷ []

-- 254, and a pixel too few as well: "P5 2 2 254\n" and three pixels
abbrev pub darker : List ℕ
darker =
    80 ∷ 53 ∷ 32 ∷ 50 ∷ 32 ∷ 50 ∷ 32 ∷ 50 ∷ 53 ∷ 52 ∷ 10 ∷
    1 ∷ 2 ∷ 3 ∷ []

-- "P5 2 2 255\n" and three pixels
abbrev pub too_few : List ℕ
too_few =
    80 ∷ 53 ∷ 32 ∷ 50 ∷ 32 ∷ 50 ∷ 32 ∷ 50 ∷ 53 ∷ 53 ∷ 10 ∷
    1 ∷ 2 ∷ 3 ∷ []

-- "P5 2 2 255\n" and five pixels
abbrev pub too_many : List ℕ
too_many =
    80 ∷ 53 ∷ 32 ∷ 50 ∷ 32 ∷ 50 ∷ 32 ∷ 50 ∷ 53 ∷ 53 ∷ 10 ∷
    1 ∷ 2 ∷ 3 ∷ 4 ∷ 5 ∷ []

-- a second white space byte is a pixel: "P5 2 2 255\r\n" and four pixels
abbrev pub two_spaces : List ℕ
two_spaces =
    80 ∷ 53 ∷ 32 ∷ 50 ∷ 32 ∷ 50 ∷ 32 ∷ 50 ∷ 53 ∷ 53 ∷ 13 ∷ 10 ∷
    1 ∷ 2 ∷ 3 ∷ 4 ∷ []

pub record WorkedFiles : Type 0 where
  pub our_form_is_read : WorkedFile our_form 2 2 (0 ∷ 1 ∷ 254 ∷ 255 ∷ [])
  pub wide-is_read : WorkedFile wide 3 2 (1 ∷ 2 ∷ 3 ∷ 4 ∷ 5 ∷ 6 ∷ [])
  pub commented-is_read : WorkedFile commented 2 2 (0 ∷ 1 ∷ 254 ∷ 255 ∷ [])
  pub five_digits-is_read : WorkedFile five_digits 3 2 (10 ∷ 35 ∷ 32 ∷ 48 ∷ 53 ∷ 10 ∷ [])
  pub nothing-is_refused : RefusedFile nothing 16
  pub other_kind_is_refused : RefusedFile other_kind 16
  pub together-is_refused : RefusedFile together 16
  pub six_digits-is_refused : RefusedFile six_digits 16
  pub no_grey_is_refused : RefusedFile no_grey 16
  pub no_newline_is_refused : RefusedFile no_newline 16
  pub late_comment_is_refused : RefusedFile late_comment 16
  pub cut_short_is_refused : RefusedFile cut_short 16
  pub narrow-is_refused : RefusedFile narrow 1
  pub darker-is_refused : RefusedFile darker 17
  pub too_few_is_refused : RefusedFile too_few 18
  pub too_many_is_refused : RefusedFile too_many 18
  pub two_spaces-is_refused : RefusedFile two_spaces 18
  -- 5: a picture of another length
  pub lent_too_short : read_pgm our_form (7 ∷ 7 ∷ 7 ∷ []) ≡ record { answer = record { refusal = 5; columns = 0; rows = 0 }; picture = 7 ∷ 7 ∷ 7 ∷ [] }
  -- written: the single form, whatever the file was; later bytes are untouched; 8 where there is no room; the longest header and file
  pub written : pgm_of 2 2 (0 ∷ 1 ∷ 254 ∷ 255 ∷ []) ≡ our_form
  pub written_wide : pgm_of 3 2 (1 ∷ 2 ∷ 3 ∷ 4 ∷ 5 ∷ 6 ∷ []) ≡ wide
  pub written_again : single_form commented ≡ our_form
  pub written_in_buffer : write_pgm 2 2 (0 ∷ 1 ∷ 254 ∷ 255 ∷ []) (replicate 17 7)
      ≡ record { answer = record { refusal = 0; size = 15 }; file = our_form ++ (7 ∷ 7 ∷ []) }
  pub no_room : write_pgm 2 2 (0 ∷ 1 ∷ 254 ∷ 255 ∷ []) (replicate 14 7) ≡ record { answer = record { refusal = 8; size = 0 }; file = replicate 14 7 }
  pub longest_header : header_of 129 129 ≡ 80 ∷ 53 ∷ 10 ∷ 49 ∷ 50 ∷ 57 ∷ 32 ∷ 49 ∷ 50 ∷ 57 ∷ 10 ∷ 50 ∷ 53 ∷ 53 ∷ 10 ∷ []
  pub longest : pgm_length 129 129 ≡ 16656
