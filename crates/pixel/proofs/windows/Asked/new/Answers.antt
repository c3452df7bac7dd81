-- `pixel::windows::Asked::new` meets its contract: settings that break no rule are lawful. Assumes nothing.
use Rattle.std.proofs.Common.{◌<◌, sym, subst}
use Rattle.pyramid.specs.declared.Settings.{Settings}
use Rattle.pyramid.proofs.Refusals.{accepted_settings}
use Rattle.pixel.proofs.windows.Asked.new.Goals as goal

pub invariant_of-result : goal.invariant_of-result
invariant_of-result c =
    record {
      passed = c.lawful.invariant;
      lawful = accepted_settings _ c.lawful.invariant;
      inside = subst (λ (s : Settings). (c.args.column < s.columns) × (c.args.row < s.rows)) (sym c.lawful.view_is) c.requires;
    }
