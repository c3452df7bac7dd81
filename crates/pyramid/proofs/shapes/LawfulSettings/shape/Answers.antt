-- `pyramid::shapes::LawfulSettings::shape` meets its contract: settings that break no rule have a shape that breaks none. Assumes nothing.
use Rattle.pyramid.proofs.Refusals.{settings_parts}
use Rattle.pyramid.proofs.shapes.LawfulSettings.shape.Goals as goal

pub invariant_of-result : goal.invariant_of-result
invariant_of-result c = record { shaped = (settings_parts _ c.self.invariant).0 }
