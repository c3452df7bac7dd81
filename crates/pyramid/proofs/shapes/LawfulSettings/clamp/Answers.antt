-- `pyramid::shapes::LawfulSettings::clamp` meets its contract: to 0 and 255 first, and then to black and white. Assumes nothing.
use Rattle.std.proofs.Common.{◌∙◌, rules}
use Rattle.pyramid.proofs.Copies.{clamped_stored}
use Rattle.pyramid.proofs.Refusals.{accepted_settings, greys_fit}
use Rattle.pyramid.proofs.shapes.LawfulSettings.clamp.Goals as goal

pub overflow_cast-black : goal.overflow_cast-black
overflow_cast-black c = (greys_fit _ c.self.invariant).0

pub overflow_cast-white : goal.overflow_cast-white
overflow_cast-white c = (greys_fit _ c.self.invariant).1

pub returns : goal.returns
returns c =
    c.min.ensures
    ∙ rw (← c.self.view_is, c.max.ensures) (clamped_stored c.self.inside.settings (accepted_settings _ c.self.invariant).shaped.greys (search rules) (search rules) c.clamp.ensures.value)
