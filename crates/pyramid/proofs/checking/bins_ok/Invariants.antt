-- What the loop of `pyramid::checking::bins_ok` keeps: the slots below this one hold what they may.
use Rattle.std.proofs.Common.{◌≡◌, true}
use Rattle.mathematics.specs.Definitions.Tests.{all_below}
use Rattle.pyramid.proofs.SettingsTests.{slot}
use Rattle.pyramid.proofs.checking.bins_ok.Given as goal

abbrev pub invariant-loop-level : goal.invariant-loop-level
invariant-loop-level l = all_below l.level (slot l.fn.s) ≡ true
