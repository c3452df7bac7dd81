-- `pyramid::shapes::LawfulSettings::level` meets its contract: a level of settings that break no rule. Assumes nothing.
use Rattle.std.proofs.Common.{◌≤◌, sym, ap, ◌∙◌, subst}
use Rattle.pyramid.specs.declared.Settings.{Settings}
use Rattle.pyramid.specs.Definitions.Buffers.{start}
use Rattle.pyramid.proofs.Refusals.{accepted_settings}
use Rattle.pyramid.proofs.shapes.LawfulSettings.level.Goals as goal

pub invariant_of-result : goal.invariant_of-result
invariant_of-result c =
    record {
      lawful = accepted_settings _ c.self.invariant;
      within = subst (λ (s : Settings). c.args.number ≤ s.depth) (sym c.self.view_is) c.requires;
      placed = (c.start_of-place.ensures.0 ∙ ap (λ (s : Settings). start s c.args.number) (c.shape.ensures ∙ sym c.self.view_is), c.start_of-place.ensures.1);
    }
