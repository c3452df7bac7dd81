-- What the windows hold, and how few nodes they have (document 02, P6). Assumes nothing.
use Rattle.std.specs.Prelude.{◌≡◌, ℕ, suc, ◌+◌, ◌*◌, ◌%◌, ◌≤◌, ◌<◌, T}
use Rattle.pyramid.specs.declared.Settings.{Settings}
use Rattle.pyramid.specs.Definitions.Edge.{reflect}
use Rattle.pyramid.specs.Definitions.Steps.{halved}
use Rattle.pixel.specs.Definitions.Windows.{Range, above, inside, nodes_read}

-- Along one axis, of two levels, of which the upper one's last column (row) is z: every column (row) that EXPAND of a range takes, edges
-- reflected, is in the range above it. Tap t of column i is taken where i + t is even
abbrev pub EveryNodeRead : Type 0
EveryNodeRead =
    (z : ℕ) → 1 ≤ z → (r : Range) (i t : ℕ) → r.last ≤ 2 * z → T (inside r i) → t < 5 → (i + t) % 2 ≡ 0 → T (inside (above z r) (reflect z (halved i t)))

-- The nodes in the windows of levels 0 to N: one where N is 0, and else at most 1 and 9 and 16 for each further level
pub record FewNodes (s : Settings) (column row : ℕ) : Type 0 where
  pub alone : nodes_read s column row 0 ≡ 1
  pub most : (n : ℕ) → nodes_read s column row (suc n) ≤ 1 + 9 + 16 * n
