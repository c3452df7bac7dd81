-- The buffers have room for the nodes of a shape and what comes after them, and sizes of a case are numbers of 64 bits. Assumes nothing.
use Rattle.std.proofs.Common.{◌≡◌, ℕ, ◌+◌, ◌*◌, ◌≤◌, arith}
use mir.Syntax.{w64}
use mir.Val.{Fits}

module _ {nodes : ℕ} (few : nodes ≤ 22359) where
  pub places_in : nodes + 24 ≤ 22383
  places_in = omega arith

  pub places_fit : Fits w64 (nodes + 24)
  places_fit = omega arith

  pub indices_fit : Fits w64 (2 * nodes)
  indices_fit = omega arith

  pub start_fits : Fits w64 (2 * nodes + 2)
  start_fits = omega arith

-- the indices at the start of a case
pub indices_in : (nodes long : ℕ) → long ≡ 2 * nodes + 2 → 2 * nodes ≤ long
indices_in nodes long h = omega arith
