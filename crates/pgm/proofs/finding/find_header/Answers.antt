-- `pgm::finding::find_header` meets its contract. Assumes nothing.
use mathlib.Core.Path.{refl, ◌∙◌}
use Rattle.pgm.proofs.Headers.{no_name, no_columns, no_rows, columns_within, no_greatest, rows_within, no_last, no_end, header_there}
use Rattle.pgm.proofs.finding.find_header.Goals as goal

pub returns-then-not-starts_with : goal.returns-then-not-starts_with
returns-then-not-starts_with c = no_name _ c.if-not-starts_with.ensures.value

pub returns-in_err-columns : goal.returns-in_err-columns
returns-in_err-columns c = c.from_residual.ensures ∙ no_columns _ c.in_err-columns.ensures

pub find_number-requires-2 : goal.find_number-requires-2
find_number-requires-2 c = columns_within _ c.in_ok-columns.ensures (c.if-not-starts_with.ensures.bound refl)

pub returns-in_err-rows : goal.returns-in_err-rows
returns-in_err-rows c = c.from_residual-in_err-rows.ensures ∙ no_rows _ c.in_ok-columns.ensures c.in_err-rows.ensures

pub find_number-requires-3 : goal.find_number-requires-3
find_number-requires-3 c =
    rows_within _ c.in_ok-columns.ensures c.in_ok-rows.ensures (columns_within _ c.in_ok-columns.ensures (c.if-not-starts_with.ensures.bound refl))

pub returns-in_err-greatest : goal.returns-in_err-greatest
returns-in_err-greatest c = c.from_residual-in_err-greatest.ensures ∙ no_greatest _ c.in_ok-columns.ensures c.in_ok-rows.ensures c.in_err-greatest.ensures

pub returns-in_err-last : goal.returns-in_err-last
returns-in_err-last c = c.from_residual-in_err-last.ensures ∙ no_end _ c.in_ok-columns.ensures c.in_ok-rows.ensures c.in_ok-greatest.ensures c.in_err-last.ensures.lookup.3

pub returns-then-not-is_space : goal.returns-then-not-is_space
returns-then-not-is_space c =
    no_last _ c.in_ok-columns.ensures c.in_ok-rows.ensures c.in_ok-greatest.ensures (rw (c.in_ok-last.ensures.lookup.3.1 0) at c.if-not-is_space.ensures)

pub returns : goal.returns
returns c =
    header_there _ c.in_ok-columns.ensures c.in_ok-rows.ensures c.in_ok-greatest.ensures c.if-not-starts_with.ensures.value
    (rw (c.in_ok-last.ensures.lookup.3.1 0) at c.if-not-is_space.ensures)
