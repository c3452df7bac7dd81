-- What a call answers: a value where no rule is broken, else the refusal alone (document 01, "Who can cause which refusal"). Definitions
-- name the first rule that is broken by its number, and 0 where none is. Assumes nothing.
use Rattle.std.specs.Prelude.{List, [], ◌∷◌, ℕ, zero, suc, get_or, Result, Ok, Err}
use Rattle.refusals.specs.declared.Refusal.{Refusal}
use Rattle.refusals.specs.declared.Refusal.TheVariants.{Size, Kernel, Bin, Reading, PictureLength, LevelsLength, WorkLength, FileLength, FileEnds, Count, Index, BytesAfter, Depth, Columns, Rows, Header, Greatest, PixelCount, BlackWhite, Pixel, Place}
use Rattle.refusals.specs.Definitions.Numbers.{number}

-- the refusals in the order of their numbers, from 1
abbrev pub refusals : List Refusal
refusals =
    Size
    ∷ Kernel
    ∷ Bin
    ∷ Reading
    ∷ PictureLength
    ∷ LevelsLength
    ∷ WorkLength
    ∷ FileLength
    ∷ FileEnds
    ∷ Count
    ∷ Index
    ∷ BytesAfter
    ∷ Depth
    ∷ Columns
    ∷ Rows
    ∷ Header
    ∷ Greatest
    ∷ PixelCount
    ∷ BlackWhite
    ∷ Pixel
    ∷ Place
    ∷ []

-- the value where the number is 0; else the refusal that has the number
unfoldable pub outcome : {A : Type 0} → ℕ → A → Result A Refusal
outcome zero value = Ok value
outcome (suc n) value = Err (get_or refusals n Place)

-- the number alone: 0 where a call is accepted
unfoldable pub answer_number : {A : Type 0} → Result A Refusal → ℕ
answer_number (Ok value) = 0
answer_number (Err refusal) = number refusal
