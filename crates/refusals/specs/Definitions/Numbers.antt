-- The number of each refusal (document 01, "Who can cause which refusal"; document 02, P1, P2, P5 and P6). Assumes nothing.
use Rattle.std.specs.Prelude.{ℕ}
use Rattle.refusals.specs.declared.Refusal.{Refusal}
use Rattle.refusals.specs.declared.Refusal.TheVariants.{Size, Kernel, Bin, Reading, PictureLength, LevelsLength, WorkLength, FileLength, FileEnds, Count, Index, BytesAfter, Depth, Columns, Rows, Header, Greatest, PixelCount, BlackWhite, Pixel, Place}

abbrev pub number : Refusal → ℕ
number Size = 1
number Kernel = 2
number Bin = 3
number Reading = 4
number PictureLength = 5
number LevelsLength = 6
number WorkLength = 7
number FileLength = 8
number FileEnds = 9
number Count = 10
number Index = 11
number BytesAfter = 12
number Depth = 13
number Columns = 14
number Rows = 15
number Header = 16
number Greatest = 17
number PixelCount = 18
number BlackWhite = 19
number Pixel = 20
number Place = 21
