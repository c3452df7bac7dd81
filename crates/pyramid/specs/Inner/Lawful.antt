-- What lawful settings are, as facts (document 01, "Settings"): what functions inside this crate ask of their caller. Assumes nothing.
use Rattle.std.specs.Prelude.{◌≡◌, ℕ, ◌-◌, ◌%◌, ◌^◌, ◌≤◌, ◌<◌}
use Rattle.pyramid.specs.declared.Settings.{Settings}
use Rattle.pyramid.specs.Definitions.Settings.{bin}

-- one side of a picture that a depth suits
pub record Side (side depth : ℕ) : Type 0 where
  pub least : 2 ≤ side
  pub most : side ≤ 129
  pub whole : (side - 1) % 2 ^ depth ≡ 0

pub record Kernel (k : ℕ) : Type 0 where
  pub least : 3 ≤ k
  pub most : k ≤ 6

pub record BlackWhite (black white : ℕ) : Type 0 where
  pub below : black < white
  pub most : white ≤ 255

pub record LawfulBin (n : ℕ) : Type 0 where
  pub least : 1 ≤ n
  pub most : n ≤ 255

-- the shape: all but the bins
pub record Shaped (s : Settings) : Type 0 where
  pub deep : s.depth ≤ 6
  pub across : Side s.columns s.depth
  pub along : Side s.rows s.depth
  pub kernel : Kernel s.kernel
  pub greys : BlackWhite s.black s.white

pub record Lawful (s : Settings) : Type 0 where
  pub shaped : Shaped s
  pub binned : (l : ℕ) → l ≤ s.depth → LawfulBin (bin s l)
