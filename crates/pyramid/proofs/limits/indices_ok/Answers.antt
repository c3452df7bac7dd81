-- `pyramid::limits::indices_ok` meets its contract: the limit that it tests is the one of the definitions. Assumes nothing.
use Rattle.pyramid.proofs.limits.indices_ok.Goals as goal

pub returns : goal.returns
returns c = c.indices_within.ensures
