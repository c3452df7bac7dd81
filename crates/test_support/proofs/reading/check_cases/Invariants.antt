-- What the loop of `test_support::reading::check_cases` keeps: the cases before were read and counted.
use Rattle.std.proofs.Common.{◌≡◌, List, length}
use denote.Param.Always.{always_mut}
use Rattle.std.specs.List.{FoldsTo}
use Rattle.test_support.specs.Definitions.Cases.{CountedCase, Finds}
use Rattle.test_support.proofs.reading.check_cases.Given as goal

abbrev pub invariant-loop : goal.invariant-loop
invariant-loop g l =
    (always_mut g.T.FnMut l.initial.count → always_mut g.T.FnMut l.count)
    × (length l.start ≡ length l.initial.start)
    × ((found : List _)
    × (length found ≡ l.counter)
    × FoldsTo (CountedCase g.R.Read.remaining (Finds (λ p b r q. goal.C-post g l.check p b r q)) (length l.initial.start) l.cut (λ p found q. goal.T-step g p found tt q)) (l.initial.source, l.initial.count) found (l.source, l.count))
