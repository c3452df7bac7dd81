-- `test_vectors::levels_cases::check_read` meets its contract: the start of a case holds the indices of its shape. Assumes nothing.
use Rattle.std.proofs.Common.{refl}
use Rattle.test_vectors.proofs.Sizes.{indices_fit, start_fits, indices_in}
use Rattle.test_vectors.proofs.levels_cases.check_read.Goals as goal

pub slice_bounds-read_part-end : goal.slice_bounds-read_part-end
slice_bounds-read_part-end g c = refl

pub overflow_mul-z : goal.overflow_mul-z
overflow_mul-z g c = indices_fit c.args.z.few_nodes

pub overflow_add-z : goal.overflow_add-z
overflow_add-z g c = start_fits c.args.z.few_nodes

pub overflow_mul-z-2 : goal.overflow_mul-z-2
overflow_mul-z-2 g c = indices_fit c.args.z.few_nodes

pub split_at-requires : goal.split_at-requires
split_at-requires g c = indices_in _ _ (rw c.in-Some.is at c.in_ok-start.ensures.taken).0

pub slice_bounds-read_part-end-2 : goal.slice_bounds-read_part-end-2
slice_bounds-read_part-end-2 g c = refl
