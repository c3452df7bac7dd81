-- Document 02's sentences on the header (P2), as what bytes consist of: a second side, beside the definition that looks for them from place to
-- place. Bytes by their codes: 80 is P, 53 is 5, 35 is #. Assumes nothing.
use Rattle.std.specs.Prelude.{◌≡◌, ◌≢◌, List, [], ◌∷◌, ◌++◌, map, ℕ, ◌+◌, ◌≤◌, T, length, get_or, drop}
use Rattle.decimals.specs.Definitions.Digits.{value}
use Rattle.decimals.specs.Checks.DigitLaws.{Digits}
use Rattle.pgm.specs.Definitions.Header.{header_ok, columns_in, rows_in, greatest_in, pixels_place}

-- "White space is space, tab, newline or carriage return."
pub data SpaceByte : ℕ → Type 0 where
  space : SpaceByte 32
  tab : SpaceByte 9
  newline : SpaceByte 10
  return : SpaceByte 13

-- "A comment from # up to and with the next newline counts as white space before a number": no byte between is a newline. What is read past
-- the end of the text is 0, which is none
pub data Spaces : List ℕ → Type 0 where
  none : Spaces []
  byte : {b : ℕ} {later : List ℕ} → SpaceByte b → Spaces later → Spaces (b ∷ later)
  comment : (text later : List ℕ) → ((k : ℕ) → get_or text k 0 ≢ 10) → Spaces later → Spaces (35 ∷ (text ++ (10 ∷ later)))

-- "in decimal, one to five digits each": zeros in front are digits too
pub record Number (bytes : List ℕ) (n : ℕ) : Type 0 where
  pub figures : List ℕ
  pub below : Digits figures
  pub some : 1 ≤ length figures
  pub most : length figures ≤ 5
  pub written : bytes ≡ map (λ d. 48 + d) figures
  pub counted : value figures ≡ n

-- "with white space before each"
pub record SpacedNumber (bytes : List ℕ) (n : ℕ) : Type 0 where
  pub gap : List ℕ
  pub number : List ℕ
  pub parts : bytes ≡ gap ++ number
  pub white : Spaces gap
  pub some : 1 ≤ length gap
  pub numbered : Number number n

-- "P5, then width, height and greatest grey .. and one white space byte before the pixels"
pub record IsPgm (bytes : List ℕ) (columns rows greatest : ℕ) (pixels : List ℕ) : Type 0 where
  pub width : List ℕ
  pub height : List ℕ
  pub grey : List ℕ
  pub last : ℕ
  pub parts : bytes ≡ (80 ∷ 53 ∷ []) ++ (width ++ (height ++ (grey ++ (last ∷ pixels))))
  pub columned : SpacedNumber width columns
  pub rowed : SpacedNumber height rows
  pub greyed : SpacedNumber grey greatest
  pub white : SpaceByte last

-- a header is accepted just where it is one of document 02's, and there is one way to read it
pub record ReadAs (bytes : List ℕ) (columns rows greatest : ℕ) (pixels : List ℕ) : Type 0 where
  pub ok : T (header_ok bytes)
  pub columned : columns_in bytes ≡ columns
  pub rowed : rows_in bytes ≡ rows
  pub greyed : greatest_in bytes ≡ greatest
  pub rest : drop (pixels_place bytes) bytes ≡ pixels
  pub whole : pixels_place bytes + length pixels ≡ length bytes

pub record HeaderRule : Type 0 where
  pub read : (bytes : List ℕ) → T (header_ok bytes) → IsPgm bytes (columns_in bytes) (rows_in bytes) (greatest_in bytes) (drop (pixels_place bytes) bytes)
  pub only : (bytes : List ℕ) (columns rows greatest : ℕ) (pixels : List ℕ) → IsPgm bytes columns rows greatest pixels
      → ReadAs bytes columns rows greatest pixels
