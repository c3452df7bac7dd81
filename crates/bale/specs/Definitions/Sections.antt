-- A section and its count (document 01, "Bale file" and "Who can cause which refusal"). Assumes nothing.
use Rattle.std.specs.Prelude.{List, [], ◌∷◌, ◌++◌, ℕ, ◌+◌, ◌*◌, leb, eqb, length}
use Rattle.pyramid.specs.Definitions.Refusals.{unless, first}
use Rattle.bale.specs.Definitions.Words.{le16, words, u16_at}

-- a section of 16-bit numbers: its count, then the numbers
unfoldable pub numbers_section : List ℕ → List ℕ
numbers_section ns = le16 (length ns) ++ words ns

-- where the items of a section start that starts at a place, and where it ends: it has so many items of so many bytes
abbrev pub items_at : ℕ → ℕ
items_at at = at + 2

abbrev pub end_of : (at count size : ℕ) → ℕ
end_of at count size = items_at at + size * count

-- a section that is read: its count is present (9), its count is right (10), its items are all present (9)
unfoldable pub section_refusal : List ℕ → (at count size : ℕ) → ℕ
section_refusal bytes at count size =
    first (unless (leb (items_at at) (length bytes)) 9
    ∷ unless (eqb (u16_at bytes at) count) 10
    ∷ unless (leb (end_of at count size) (length bytes)) 9
    ∷ [])
