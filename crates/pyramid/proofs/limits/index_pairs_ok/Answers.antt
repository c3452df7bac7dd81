-- `pyramid::limits::index_pairs_ok` meets its contract: the limit that it tests is the one of the definitions. Assumes nothing.
use Rattle.pyramid.proofs.limits.index_pairs_ok.Goals as goal

pub returns : goal.returns
returns c = c.pairs_within.ensures
