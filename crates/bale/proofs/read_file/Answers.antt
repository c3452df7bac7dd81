-- `bale::read_file` meets its contract: refused, nothing is touched; accepted, the level buffer is filled. Assumes nothing.
use mathlib.Core.Path.{sym, ap, ◌∙◌}
use native.Mathlib.Omega.{arith}
use Rattle.refusals.specs.declared.Refusal.TheVariants.{LevelsLength}
use Rattle.refusals.proofs.Outcomes.{refuses, accepts, none, some, value-is, passed_on}
use Rattle.pyramid.specs.Definitions.Sizes.{total}
use Rattle.pyramid.proofs.Refusals.{first_stop}
use Rattle.bale.specs.Definitions.Reader.{settings_in}
use Rattle.bale.specs.Definitions.Calls.{read_refusal}
use Rattle.bale.proofs.Answers.{places_wrong, places_right, reading_left, reading_kept, reading_filled}
use Rattle.bale.proofs.read_file.Goals as goal

pub returns-in_err-shaped : goal.returns-in_err-shaped
unfolding read_refusal
returns-in_err-shaped c =
    let refused = some _ _ (sym c.in_err-shaped.ensures) in
    let same = first_stop _ _ refused in
    let said = passed_on _ _ _ c.from_residual.result _ c.from_residual.ensures.1 c.in_err-shaped.ensures (λ _. same) in
    record { value = said ∙ reading_left _ _; levels_after = reading_kept _ _ (λ e. refused (sym same ∙ e)) }

pub returns-then-levels-nodes : goal.returns-then-levels-nodes
returns-then-levels-nodes c =
    let e = sym c.in_ok-shaped.ensures in
    let nodes = c.nodes.ensures ∙ ap total (c.in_ok-shaped.shaped.read ∙ ap settings_in (value-is _ _ e)) in
    let six = places_wrong _ _ (none _ _ e) (λ long. c.if-levels-nodes.true (long ∙ sym nodes)) in
    record { value = refuses _ LevelsLength six ∙ reading_left _ _; levels_after = reading_kept _ _ (λ z. omega (arith, six, z)) }

pub returns-in_err-bale : goal.returns-in_err-bale
returns-in_err-bale c =
    let e = sym c.in_ok-shaped.ensures in
    let nodes = c.nodes.ensures ∙ ap total (c.in_ok-shaped.shaped.read ∙ ap settings_in (value-is _ _ e)) in
    let same = places_right _ _ (none _ _ e) (c.if-levels-nodes.false ∙ nodes) in
    let answered = rw (value-is _ _ e) at c.in_err-bale.ensures in
    let said = passed_on _ _ _ c.from_residual-in_err-bale.result _ c.from_residual-in_err-bale.ensures.1 answered (λ _. same) in
    record { value = said ∙ reading_left _ _; levels_after = reading_kept _ _ (λ z. some _ _ (sym answered) (sym same ∙ z)) }

pub fill-requires : goal.fill-requires
fill-requires c =
    let e = sym c.in_ok-shaped.ensures in
    let nodes = c.nodes.ensures ∙ ap total (c.in_ok-shaped.shaped.read ∙ ap settings_in (value-is _ _ e)) in
    let answered = rw (value-is _ _ e) at c.in_ok-bale.ensures in
    rw (value-is _ _ e) (places_right _ _ (none _ _ e) (c.if-levels-nodes.false ∙ nodes) ∙ none _ _ (sym answered))

pub returns : goal.returns
returns c =
    let e = sym c.in_ok-shaped.ensures in
    let nodes = c.nodes.ensures ∙ ap total (c.in_ok-shaped.shaped.read ∙ ap settings_in (value-is _ _ e)) in
    let answered = sym (rw (value-is _ _ e) at c.in_ok-bale.ensures) in
    let accepted = places_right _ _ (none _ _ e) (c.if-levels-nodes.false ∙ nodes) ∙ none _ _ answered in
    record {
      value = rw (value-is _ _ answered) (accepts _ accepted) ∙ reading_left _ _;
      levels_after = (rw (value-is _ _ e) at c.fill.ensures) ∙ reading_filled _ _ accepted;
    }
