-- Lawful settings with faults put in, each in four variants. Assumes nothing.
use Rattle.std.specs.Prelude.{Bool, cond, List, ℕ, ◌+◌, ◌-◌, min, set, replicate, Option, None, Some}
use Rattle.pyramid.specs.declared.Settings.{Settings}
use Rattle.refusals.specs.declared.Refusal.{Refusal}
use Rattle.refusals.specs.declared.Refusal.TheVariants.{Size, Kernel, Bin, Depth, Columns, Rows, BlackWhite}
use Rattle.test_support.specs.declared.faults.Variant.{Variant}
use Rattle.test_support.specs.declared.faults.Variant.TheVariants.{First, Second, Third, Fourth}
use Rattle.test_support.specs.Definitions.FaultSets.{member, variant_of}

-- one more, within 16 bits
abbrev pub more : ℕ → ℕ
more n = min (n + 1) 65535

-- a side outside 2 to 129, by a small number or, from the third variant on, a large one: 2^N divides it less 1, whatever N of 0 to 7 is, or it
-- does not, whatever N of 1 to 7 is
abbrev pub outside : Bool → Variant → ℕ
outside undivided First = cond undivided 130 1
outside undivided Second = cond undivided 130 1
outside undivided Third = cond undivided 65534 257
outside undivided Fourth = cond undivided 65534 257

-- a lawful side with faults: outside, or less by one, so that 2^N does not divide it less 1, or both
abbrev pub side_with : ℕ → Option Variant → (undivided : Bool) → ℕ
side_with side (Some variant) undivided = outside undivided variant
side_with side None undivided = cond undivided (side - 1) side

-- the fault of a size is in the columns or, in every other variant, in the rows
abbrev pub in_columns : Option Variant → Option Variant
in_columns (Some First) = Some First
in_columns (Some Third) = Some Third
in_columns _ = None

abbrev pub in_rows : Option Variant → Option Variant
in_rows (Some Second) = Some Second
in_rows (Some Fourth) = Some Fourth
in_rows _ = None

module _ (s : Settings) where
  -- faults of a size, of columns and of rows
  abbrev pub with_sides : Option Variant → (columns rows : Bool) → Settings
  with_sides size columns rows =
      record {
        columns = side_with s.columns (in_columns size) columns;
        rows = side_with s.rows (in_rows size) rows;
        depth = s.depth;
        kernel = s.kernel;
        black = s.black;
        white = s.white;
        bins = s.bins;
      }

  -- the smallest depth above 6, on the size whose sides less 1 its power divides, with a bin in every slot: no other rule is broken
  abbrev pub with_depth : Settings
  with_depth = record { columns = 129; rows = 129; depth = 7; kernel = s.kernel; black = s.black; white = s.white; bins = replicate 7 1 }

  -- kernels below and above
  abbrev pub faulty_kernel : Option Variant → ℕ
  faulty_kernel (Some First) = 2
  faulty_kernel (Some Second) = 7
  faulty_kernel (Some Third) = 0
  faulty_kernel (Some Fourth) = 65535
  faulty_kernel None = s.kernel

  abbrev pub with_kernel : Option Variant → Settings
  with_kernel fault =
      record {
        columns = s.columns;
        rows = s.rows;
        depth = s.depth;
        kernel = faulty_kernel fault;
        black = s.black;
        white = s.white;
        bins = s.bins;
      }

  -- a black that is white, or above white; a white above 255
  abbrev pub faulty_black : Option Variant → ℕ
  faulty_black (Some First) = s.white
  faulty_black (Some Third) = more s.white
  faulty_black _ = s.black

  abbrev pub faulty_white : Option Variant → ℕ
  faulty_white (Some Second) = 256
  faulty_white (Some Fourth) = 65535
  faulty_white _ = s.white

  abbrev pub with_black_white : Option Variant → Settings
  with_black_white fault =
      record {
        columns = s.columns;
        rows = s.rows;
        depth = s.depth;
        kernel = s.kernel;
        black = faulty_black fault;
        white = faulty_white fault;
        bins = s.bins;
      }

  -- no bin in slot 0; too large a bin in the slot of the depth, in the slot after it, and in the last: all faults at any depth
  abbrev pub faulty_bins : Option Variant → List ℕ
  faulty_bins (Some First) = set s.bins 0 0
  faulty_bins (Some Second) = set s.bins (min s.depth 6) 256
  faulty_bins (Some Third) = set s.bins (min (more s.depth) 6) 300
  faulty_bins (Some Fourth) = set s.bins 6 65535
  faulty_bins None = s.bins

  abbrev pub with_bins : Option Variant → Settings
  with_bins fault =
      record {
        columns = s.columns;
        rows = s.rows;
        depth = s.depth;
        kernel = s.kernel;
        black = s.black;
        white = s.white;
        bins = faulty_bins fault;
      }

-- the settings with each of the faults of a depth, a bin, black and white, a kernel, a size, columns and rows that a list has
abbrev pub with_faults : Settings → List Refusal → Variant → Settings
with_faults s faults variant =
    let d = cond (member Depth faults) (with_depth s) s in
    let b = with_bins d (variant_of Bin faults variant) in
    let g = with_black_white b (variant_of BlackWhite faults variant) in
    let k = with_kernel g (variant_of Kernel faults variant) in
    with_sides k (variant_of Size faults variant) (member Columns faults) (member Rows faults)
