-- `bale::shaped::ShapedFile::new` meets its contract: the section, its count again by black and white, then the shape. Assumes nothing.
use mathlib.Core.Path.{◌≡◌, sym, ap, ◌∙◌}
use mathlib.Core.List.{List}
use Prim.Native.Nat.{ℕ}
use Rattle.std.proofs.lemmas.Result.{err_from_is_err_and}
use Rattle.refusals.specs.declared.Refusal.TheVariants.{Count}
use Rattle.refusals.proofs.Outcomes.{refuses, accepts, none, some, value-is, passes}
use Rattle.pyramid.specs.declared.Settings.{Settings}
use Rattle.pyramid.proofs.Refusals.{first_stop}
use Rattle.bale.specs.Definitions.Files.{shape_count}
use Rattle.bale.specs.Definitions.Reader.{count_in, settings_in, shape_section_refusal}
use Rattle.bale.proofs.Checks.{shape_miscounted, shape_left}
use Rattle.bale.proofs.shaped.ShapedFile.new.Goals as goal

pub returns-in_err-check_section : goal.returns-in_err-check_section
unfolding shape_section_refusal
returns-in_err-check_section c =
    let (r, was, from) = err_from_is_err_and c.from_residual.result c.from_residual.ensures.1 in
    let e = sym (rw c.count_in-count.ensures at c.in_err-check_section.ensures) in
    rw (was, from, first_stop _ _ (some _ _ e)) (passes _ _ _ e)

-- both counts, that of the section and the one that goes with the settings
both_counts : (bytes : List ℕ) {count own : ℕ} {s : Settings} → count ≡ count_in bytes → own ≡ shape_count s → s ≡ settings_in bytes
    → (count ≡ own → count_in bytes ≡ shape_count (settings_in bytes)) × (count_in bytes ≡ shape_count (settings_in bytes) → count ≡ own)
both_counts bytes c o e = (λ same. sym c ∙ same ∙ o ∙ ap shape_count e, λ same. c ∙ same ∙ sym (o ∙ ap shape_count e))

pub returns-then-count-shape_count : goal.returns-then-count-shape_count
returns-then-count-shape_count c =
    let counts = both_counts c.args.bytes.now c.count_in-count.ensures c.shape_count.ensures.0 c.settings_in-settings.ensures in
    let whole = none _ _ (sym (rw c.count_in-count.ensures at c.in_ok-check_section.ensures)) in
    refuses _ Count (shape_miscounted _ whole (λ same. c.if-count-shape_count.true (counts.1 same)))

pub returns-in_err-shape : goal.returns-in_err-shape
returns-in_err-shape c =
    let section = none _ _ (sym (rw c.count_in-count.ensures at c.in_ok-check_section.ensures)) in
    let counts = both_counts c.args.bytes.now c.count_in-count.ensures c.shape_count.ensures.0 c.settings_in-settings.ensures in
    let (r, was, from) = err_from_is_err_and c.from_residual-in_err-shape.result c.from_residual-in_err-shape.ensures.1 in
    let e = sym (rw c.settings_in-settings.ensures at c.in_err-shape.ensures) in
    rw (was, from, shape_left _ section (counts.0 c.if-count-shape_count.false)) (passes _ _ _ e)

pub invariant_of-result : goal.invariant_of-result
invariant_of-result c = record { read = value-is _ _ (sym c.in_ok-shape.ensures) ∙ c.settings_in-settings.ensures }

pub returns : goal.returns
returns c =
    let section = none _ _ (sym (rw c.count_in-count.ensures at c.in_ok-check_section.ensures)) in
    let counts = both_counts c.args.bytes.now c.count_in-count.ensures c.shape_count.ensures.0 c.settings_in-settings.ensures in
    accepts _
    (shape_left _ section (counts.0 c.if-count-shape_count.false) ∙ none _ _ (sym (rw c.settings_in-settings.ensures at c.in_ok-shape.ensures)))
