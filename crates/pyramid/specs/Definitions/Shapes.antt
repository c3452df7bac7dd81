-- The settings of a shape that is known to be lawful, or the refusal. Assumes nothing.
use Rattle.std.specs.Prelude.{Result, Ok, Err}
use Rattle.refusals.specs.declared.Refusal.{Refusal}
use Rattle.pyramid.specs.declared.Settings.{Settings}
use Rattle.pyramid.specs.declared.shapes.Shape.{Shape}

abbrev pub shape_settings : Result Shape Refusal → Result Settings Refusal
shape_settings (Ok shape) = Ok shape.settings
shape_settings (Err refusal) = Err refusal
