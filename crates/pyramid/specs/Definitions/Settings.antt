-- The rules of the settings (document 01, "Settings"; document 02, P5), each a test of its own. Assumes nothing.
use Rattle.std.specs.Prelude.{Bool, cond, ◌&&◌, ℕ, ◌-◌, ◌%◌, ◌^◌, leb, ltb, eqb, get_or}
use Rattle.mathematics.specs.Definitions.Tests.{all_below}
use Rattle.pyramid.specs.declared.Settings.{Settings}

-- C columns and R rows, each 2 to 129
unfoldable pub side_ok : ℕ → Bool
side_ok side = leb 2 side && leb side 129

-- what number 1 is about: both of them
unfoldable pub size_ok : ℕ → ℕ → Bool
size_ok columns rows = side_ok columns && side_ok rows

-- N, the depth, 0 to 6
unfoldable pub depth_ok : ℕ → Bool
depth_ok depth = leb depth 6

-- 2^N divides C - 1 (R - 1)
unfoldable pub divides : ℕ → ℕ → Bool
divides depth side = eqb ((side - 1) % 2 ^ depth) 0

-- k, the kernel: 3, 4, 5 or 6
unfoldable pub kernel_ok : ℕ → Bool
kernel_ok kernel = leb 3 kernel && leb kernel 6

-- black is below white, and white is at most 255
unfoldable pub black_white_ok : ℕ → ℕ → Bool
black_white_ok black white = ltb black white && leb white 255

-- the bin of level l stands in slot l
abbrev pub bin : Settings → ℕ → ℕ
bin s l = get_or s.bins l 0

-- slots 0 to N hold 1 to 255; slots above N hold 0
unfoldable pub slot_ok : ℕ → ℕ → ℕ → Bool
slot_ok depth l n = cond (leb l depth) (leb 1 n && leb n 255) (eqb n 0)

module _ (s : Settings) where
  -- what number 3 is about: all seven slots
  unfoldable pub bins_ok : Bool
  bins_ok = all_below 7 (λ l. slot_ok s.depth l (bin s l))
