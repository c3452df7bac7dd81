-- What the loop of `pixel::axes::Axis::read_row` keeps: before turn m the first m places are written, and the window's among them are counted.
use Rattle.std.proofs.Common.{◌≡◌, ◌*ℤ◌, pos, get_or}
use Rattle.mathematics.proofs.Filling.{Filling}
use Rattle.pixel.specs.Inner.Places.{placed}
use Rattle.pixel.proofs.PlacesHeld.{held_to}
use Rattle.pixel.proofs.axes.Axis.read_row.Given as goal

abbrev pub invariant-loop-m : goal.invariant-loop-m
invariant-loop-m l =
    Filling 0 4 (placed l.self (λ i. get_or l.row i (pos 0) *ℤ pos l.bin)) l.initial.values l.values l.m × (l.read ≡ held_to l.self l.m)
