-- `test_support::reading::check_cases` meets its contract: each turn of its loop reads and counts a case. Assumes nothing.
use Rattle.std.proofs.Common.{rules, of_calls, inl, inr, sym, ◌∙◌, subst, []}
use Rattle.std.specs.Io.KnownBytes.{Consumes, IsAtEnd}
use Rattle.test_support.specs.Definitions.Cases.{IsPart}
use Rattle.test_support.proofs.Cases.{no_start, cut_start, whole_case, cut_case, read_more}
use Rattle.test_support.proofs.reading.check_cases.Goals as goal
use Rattle.test_support.proofs.reading.check_cases.Goals.{in-Whole+in_ok-found-in-Whole, in-Cut, else-loop-test, then-loop-test+in_ok-read_head+in-NoCase}

pub loop-preserved : goal.loop-preserved
loop-preserved g c =
    let long = c.read_head.ensures.length ∙ c.loop.invariant.1 in (
      (λ h. let before = c.loop.invariant.0 h in search (of_calls, before)),
      long,
      read_more _ _ _ _ _ {s = c.loop.source} {found = c.match-branch-2.found} {s' = c.match-branch-2.source} c.loop.invariant.2
          (elim c.match-branch-2.branch [
            | in-Whole+in_ok-found-in-Whole w ↦ whole_case g.R.Read.remaining (λ p b r q. goal.C-post g c.args.check p b r q) _ _ c.loop.source _ long (c.in_ok-read_head.ensures.taken w.in-Whole.is) w.in_ok-found-in-Whole.ensures w.found-is w.source-is
            | in-Cut w ↦ cut_case g.R.Read.remaining (λ p b r q. goal.C-post g c.args.check p b r q) _ _ c.loop.source _ (subst (IsPart _ _) c.loop.invariant.1 (c.in_ok-read_head.ensures.part w.in-Cut.is)) (c.in_ok-read_head.ensures.end (cut_start w.in-Cut.is)) w.found-is w.source-is
          ])
          (search rules),
    )

pub returns-clause-read : goal.returns-clause-read
returns-clause-read g c =
    let (found, long, read) = c.loop.invariant.2 in
    elim c.loop-test.branch [
      | else-loop-test w ↦ record { found = found; last = _; read = read; end = inl (search rules, w.source-is) }
      | then-loop-test+in_ok-read_head+in-NoCase w ↦
          record { found = found; last = _; read = read; end = inr (subst (λ s. Consumes (g.R.Read.remaining c.loop.source) (g.R.Read.remaining s) [] × IsAtEnd (g.R.Read.remaining s)) (sym w.source-is) (w.in_ok-read_head.ensures.none w.in-NoCase.is, w.in_ok-read_head.ensures.end (no_start w.in-NoCase.is))) }
    ]
