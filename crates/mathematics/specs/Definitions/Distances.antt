-- How far two natural numbers lie apart. Assumes nothing.
use Rattle.std.specs.Prelude.{ℕ, ◌+◌, ◌-◌}

-- a - b or b - a, whichever is not negative; the other one is 0 in natural numbers
abbrev pub distance : ℕ → ℕ → ℕ
distance a b = (a - b) + (b - a)
