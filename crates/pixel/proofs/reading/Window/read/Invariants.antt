-- What the loop of `pixel::reading::Window::read` keeps: before turn n the first n rows are written, and their indices counted.
use Rattle.std.proofs.Common.{◌≡◌, ◌+◌, ◌*◌, ◌*ℤ◌, pos}
use Rattle.pyramid.specs.Inner.Rows.{as_level}
use Rattle.pyramid.proofs.Rendering.{Rendering}
use Rattle.pixel.specs.Inner.Places.{places, block_of}
use Rattle.pixel.proofs.PlacesHeld.{held_to}
use Rattle.pixel.proofs.reading.Window.read.Given as goal

abbrev pub invariant-loop-n : goal.invariant-loop-n
invariant-loop-n l =
    Rendering 0 4 4 (block_of l.self.columns l.self.rows (λ i j. as_level (l.self.columns.z + 1) l.level i j *ℤ pos l.bin)) l.initial.values l.values l.n
    × (l.read ≡ held_to l.self.rows l.n * places l.self.columns)
