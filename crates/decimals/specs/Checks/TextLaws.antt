-- What a number's text is, byte by byte, and what is read of a text (document 02, P2: "in decimal"): a second side, beside the definitions that
-- go through a text; and texts worked by hand. Bytes by their codes: 48 is 0, 57 is 9, 32 is space. Assumes nothing.
use Rattle.std.specs.Prelude.{◌≡◌, ◌↔◌, List, [], ◌∷◌, ◌++◌, ℕ, ◌+◌, ◌≤◌, ◌<◌, min, T, length, get_or, drop}
use Rattle.decimals.specs.declared.Number.{Number}
use Rattle.decimals.specs.Definitions.Digits.{value, digits}
use Rattle.decimals.specs.Definitions.Text.{decimal, text_at, is_digit, leading_digits, number_at}
use Rattle.decimals.specs.Checks.DigitLaws.{Digits}

abbrev pub DigitByte : ℕ → Type 0
DigitByte b = (48 ≤ b) × (b ≤ 57)

-- a text begins with these digits, no more than so many: each byte is 48 and its digit, and the next byte is no digit or there are as many as
-- may be. A byte past the end is 0, which is no digit
pub record BeginsWith (text : List ℕ) (most : ℕ) (figures : List ℕ) : Type 0 where
  pub below : Digits figures
  pub long : length figures ≤ most
  pub same : (k : ℕ) → k < length figures → get_or text k 0 ≡ 48 + get_or figures k 0
  pub stop : length figures < most → ¬ (DigitByte (get_or text (length figures) 0))

-- a number that begins at a place, of no more than so many digits and never more than nine: its value, and how many digits it has
pub record NumberBegins (text : List ℕ) (at most : ℕ) (n : Number) : Type 0 where
  pub figures : List ℕ
  pub begins : BeginsWith (drop at text) (min most 9) figures
  pub valued : n.value ≡ value figures
  pub counted : n.digits ≡ length figures

pub record TextLaws : Type 0 where
  pub digit : (b : ℕ) → T (is_digit b) ↔ DigitByte b
  -- written: a byte for each digit, 48 and the digit, so that each is 48 to 57
  pub written_count : (n : ℕ) → length (decimal n) ≡ length (digits n)
  pub written_bytes_lem : (n k : ℕ) → k < length (decimal n) → get_or (decimal n) k 0 ≡ 48 + get_or (digits n) k 0
  pub written_digits : (n k : ℕ) → k < length (decimal n) → DigitByte (get_or (decimal n) k 0)
  -- read: the digits that the text begins with, and these alone
  pub leading : (most : ℕ) (text : List ℕ) → BeginsWith text most (leading_digits most text)
  pub leading_only : (most : ℕ) (text figures : List ℕ) → BeginsWith text most figures → leading_digits most text ≡ figures
  pub number : (text : List ℕ) (at most : ℕ) → NumberBegins text at most (number_at text at most)
  pub number_only : (text : List ℕ) (at most : ℕ) (n : Number) → NumberBegins text at most n → number_at text at most ≡ n
  -- written, then read: whatever stands before it, where no digit comes after it
  pub read_back : (before rest : List ℕ) (most n : ℕ) → length (decimal n) ≤ min most 9 → ¬ (DigitByte (get_or rest 0 0))
      → number_at (before ++ (decimal n ++ rest)) (length before) most ≡ record { value = n; digits = length (decimal n) }

-- "129 7"
abbrev pub two_numbers : List ℕ
two_numbers = 49 ∷ 50 ∷ 57 ∷ 32 ∷ 55 ∷ []

-- "1234567890"
abbrev pub ten_digits : List ℕ
ten_digits = 49 ∷ 50 ∷ 51 ∷ 52 ∷ 53 ∷ 54 ∷ 55 ∷ 56 ∷ 57 ∷ 48 ∷ []

pub record WorkedTexts : Type 0 where
  pub nought : decimal 0 ≡ 48 ∷ []
  pub ten : decimal 10 ≡ 49 ∷ 48 ∷ []
  pub greatest_side : decimal 129 ≡ 49 ∷ 50 ∷ 57 ∷ []
  -- bytes before it and after it keep their contents
  pub ten_in_buffer : text_at 1 (decimal 10) (7 ∷ 7 ∷ 7 ∷ 7 ∷ []) ≡ 7 ∷ 49 ∷ 48 ∷ 7 ∷ []
  pub up_to_space : number_at two_numbers 0 5 ≡ record { value = 129; digits = 3 }
  pub up_to_most : number_at two_numbers 0 2 ≡ record { value = 12; digits = 2 }
  pub up_to_end : number_at two_numbers 4 5 ≡ record { value = 7; digits = 1 }
  pub no_digit : number_at two_numbers 3 5 ≡ record { value = 0; digits = 0 }
  pub past_the_end : number_at two_numbers 9 5 ≡ record { value = 0; digits = 0 }
  -- zeros in front are digits: "007"
  pub leading_zeros : number_at (48 ∷ 48 ∷ 55 ∷ []) 0 5 ≡ record { value = 7; digits = 3 }
  -- the bytes next to 0 and 9: "/" and ":"
  pub before_nought : number_at (47 ∷ []) 0 5 ≡ record { value = 0; digits = 0 }
  pub after_nine : number_at (57 ∷ 58 ∷ []) 0 5 ≡ record { value = 9; digits = 1 }
  pub nine_at_most : number_at ten_digits 0 12 ≡ record { value = 123456789; digits = 9 }
