-- `bale::checking::check_section` meets its contract: test by test. Assumes nothing.
use Rattle.refusals.specs.declared.Refusal.TheVariants.{FileEnds, Count}
use Rattle.refusals.proofs.Outcomes.{refuses, accepts}
use Rattle.bale.proofs.SectionTests.{count_absent, count_wrong, items_absent, items_there}
use Rattle.bale.proofs.checking.check_section.Goals as goal

pub returns-in_default : goal.returns-in_default
returns-in_default c = refuses _ FileEnds (count_absent _ _ _ c.in_default.ensures.cases)

pub returns-then-from_le_bytes-count : goal.returns-then-from_le_bytes-count
returns-then-from_le_bytes-count c =
    refuses _ Count (count_wrong _ _ _ c.in-Some.ensures.cases c.from_le_bytes.ensures c.if-from_le_bytes-count.true)

pub returns-then-items-size : goal.returns-then-items-size
returns-then-items-size c =
    refuses _ FileEnds
    (items_absent _ _ _ c.in-Some.ensures.cases c.from_le_bytes.ensures c.if-from_le_bytes-count.false c.if-items-size.true)

pub returns : goal.returns
returns c =
    accepts _ (items_there _ _ _ c.in-Some.ensures.cases c.from_le_bytes.ensures c.if-from_le_bytes-count.false c.if-items-size.false)
