-- When a multiplication can stand for a division that rounds down. No rule of document 01 speaks of it. Assumes nothing.
use Rattle.std.specs.Prelude.{Bool, ◌&&◌, ℕ, ◌+◌, ◌*◌, ◌≤◌, ◌<◌, ℤ, pos, neg_ℤ}
use Rattle.std.specs.Int.Signed.{le_z, lt_z}

-- f is above 2^31/d, by 1 at most: a number short enough, times f, over 2^31 is then the number over d
pub record Reciprocal (d f : ℕ) : Type 0 where
  pub above : 2147483648 < f * d
  pub next : f * d ≤ 2147483648 + d

-- x is near 0: -8192 ≤ x < 8192. With half a d and 8,192 d added it is short enough, for each d of at most 255
unfoldable pub near : ℤ → Bool
near x = le_z (neg_ℤ (pos 8192)) x && lt_z x (pos 8192)
