-- `test_vectors::rebuilding::check` meets its contract: the buffers have room for the nodes and pixels of a shape. Assumes nothing.
use Rattle.std.proofs.Common.{sym, length-take-le}
use Rattle.test_vectors.proofs.Sizes.{places_in, places_fit}
use Rattle.test_vectors.proofs.rebuilding.check.Goals as goal

pub slice_bounds-levels-end : goal.slice_bounds-levels-end
slice_bounds-levels-end c = rw c.load_indices.auto.levels c.args.c.shape.few_nodes

pub slice_bounds-check_lent-end : goal.slice_bounds-check_lent-end
slice_bounds-check_lent-end c = sym (length-take-le _ _ (rw c.load_indices.auto.levels c.args.c.shape.few_nodes))

pub slice_bounds-picture-end : goal.slice_bounds-picture-end
slice_bounds-picture-end c = c.args.c.shape.few_pixels

pub slice_bounds-check_lent-end-2 : goal.slice_bounds-check_lent-end-2
slice_bounds-check_lent-end-2 c = sym (length-take-le _ _ c.args.c.shape.few_pixels)

pub overflow_add-work : goal.overflow_add-work
overflow_add-work c = places_fit c.args.c.shape.few_nodes

pub slice_bounds-work-end : goal.slice_bounds-work-end
slice_bounds-work-end c = places_in c.args.c.shape.few_nodes

pub slice_bounds-check_lent-end-3 : goal.slice_bounds-check_lent-end-3
slice_bounds-check_lent-end-3 c = sym (length-take-le _ _ (places_in c.args.c.shape.few_nodes))
