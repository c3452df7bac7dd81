-- `test_vectors::coding::check` meets its contract: the buffers have room for the nodes of a shape. Assumes nothing.
use Rattle.std.proofs.Common.{sym, length-take-le}
use Rattle.test_vectors.proofs.Sizes.{places_in, places_fit}
use Rattle.test_vectors.proofs.coding.check.Goals as goal

pub slice_bounds-levels-end : goal.slice_bounds-levels-end
slice_bounds-levels-end c = c.args.z.few_nodes

pub slice_bounds-check_lent-end-3 : goal.slice_bounds-check_lent-end-3
slice_bounds-check_lent-end-3 c = sym (length-take-le _ _ c.args.z.few_nodes)

pub overflow_add-work : goal.overflow_add-work
overflow_add-work c = places_fit c.args.z.few_nodes

pub slice_bounds-work-end : goal.slice_bounds-work-end
slice_bounds-work-end c = places_in c.args.z.few_nodes

pub slice_bounds-check_lent-end-4 : goal.slice_bounds-check_lent-end-4
slice_bounds-check_lent-end-4 c = sym (length-take-le _ _ (places_in c.args.z.few_nodes))
