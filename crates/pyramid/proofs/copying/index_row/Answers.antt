-- `pyramid::copying::index_row` meets its contract: what the lower crate makes of the row is stored. Assumes nothing.
use Rattle.std.proofs.Common.{◌∙◌}
use Rattle.pyramid.proofs.copying.index_row.Goals as goal

pub store_row-requires-clause-small : goal.store_row-requires-clause-small
store_row-requires-clause-small c = rw c.index_row.ensures c.requires.small

pub returns : goal.returns
returns c = c.store_row.ensures ∙ c.index_row.ensures
