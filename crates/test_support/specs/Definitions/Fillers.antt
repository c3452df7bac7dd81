-- What a buffer holds at a place before a call, different from place to place. Assumes nothing.
use Rattle.std.specs.Prelude.{ℕ, ◌+◌, ◌%◌, ℤ, pos, negsuc}

abbrev pub byte_filler : ℕ → ℕ
byte_filler k = k % 251

-- an index that is lawful at every bin
abbrev pub lawful_index : ℕ → ℤ
lawful_index k = pos (k % 7)

-- an index that is lawful at none
abbrev pub unlawful_index : ℕ → ℤ
unlawful_index k = negsuc (k % 251 + 20000)

-- a number that no call leaves in a work buffer
abbrev pub work_filler : ℕ → ℤ
work_filler k = negsuc (k % 251 + 100000000)
