-- `test_vectors::pyramid_cases::check_read` meets its contract: the buffer has as many bytes as the largest case. Assumes nothing.
use Rattle.std.proofs.Common.{refl}
use Rattle.test_vectors.proofs.pyramid_cases.check_read.Goals as goal

pub slice_bounds-read_part-end : goal.slice_bounds-read_part-end
slice_bounds-read_part-end g c = refl
