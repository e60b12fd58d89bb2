-- `comparing::take_better` meets its contract: `Choices` has what stays and what takes its place. Assumes nothing.
use mathlib.Core.Path.{sym}
use native.Mathlib.Omega.{arith}
use lib.ListN.{length, length-take}
use Rattle.plan.specs.Plan.{move_count}
use Rattle.comparing.proofs.Improving.{heads_there}
use Rattle.comparing.proofs.Choices.{bytes-by, lengths, front_checked, stays, found_room, found_taken, replaced}
use Rattle.comparing.proofs.take_better.Goals as goal

pub slice_bounds-improves-end : goal.slice_bounds-improves-end
slice_bounds-improves-end c = (lengths _ _ _ _ _ c.requires.overwritten).0

pub slice_bounds-improves-end-2 : goal.slice_bounds-improves-end-2
slice_bounds-improves-end-2 c =
    omega (arith, length-take (length c.args.kept.now) c.args.buffer.now, (lengths _ _ _ _ _ c.requires.overwritten).0)

pub improves-requires : goal.improves-requires
improves-requires c = front_checked _ _ _ _ _ c.requires.overwritten

pub returns-then-not-improves : goal.returns-then-not-improves
returns-then-not-improves c B' w = stays _ _ _ _ _ w

pub slice_bounds-copy_from_slice-end : goal.slice_bounds-copy_from_slice-end
slice_bounds-copy_from_slice-end c = (lengths _ _ _ _ _ c.requires.overwritten).0

pub slice_bounds-copy_from_slice-end-2 : goal.slice_bounds-copy_from_slice-end-2
slice_bounds-copy_from_slice-end-2 c =
    omega (arith, length-take (length c.args.kept.now) c.args.buffer.now, (lengths _ _ _ _ _ c.requires.overwritten).0)

pub copy_from_slice-requires : goal.copy_from_slice-requires
copy_from_slice-requires c =
    omega (arith, length-take (length c.args.kept.now) c.args.buffer.now, (lengths _ _ _ _ _ c.requires.overwritten).0)

pub slice_bounds-copy_from_slice-end-3 : goal.slice_bounds-copy_from_slice-end-3
slice_bounds-copy_from_slice-end-3 c =
    found_room _ _ _ _ _ c.requires.overwritten _ (bytes-by c.args.found.now (λ i. (c.type_inv.found i).fits))
    (c.improves.ensures.0 c.if-not-improves.false) c.copy_from_slice.ensures.after

pub slice_bounds-copy_from_slice-end-4 : goal.slice_bounds-copy_from_slice-end-4
slice_bounds-copy_from_slice-end-4 c =
    sym (found_taken _ _ _ _ _ c.requires.overwritten _ (bytes-by c.args.found.now (λ i. (c.type_inv.found i).fits))
    (c.improves.ensures.0 c.if-not-improves.false) c.copy_from_slice.ensures.after)

pub copy_from_slice-requires-2 : goal.copy_from_slice-requires-2
copy_from_slice-requires-2 c =
    (found_taken _ _ _ _ _ c.requires.overwritten _ (bytes-by c.args.found.now (λ i. (c.type_inv.found i).fits))
    (c.improves.ensures.0 c.if-not-improves.false) c.copy_from_slice.ensures.after)

pub count_at_head-requires : goal.count_at_head-requires
count_at_head-requires c = (heads_there c.args.order.now _ _ (c.improves.ensures.0 c.if-not-improves.false).checked).0

pub returns : goal.returns
unfolding move_count
returns c B' w =
    rw c.count_at_head.ensures
    (replaced c.args.order.now B' _ c.args.k _ w c.args.found.now (bytes-by c.args.found.now (λ i. (c.type_inv.found i).fits))
    (c.improves.ensures.0 c.if-not-improves.false) c.copy_from_slice.ensures.after c.copy_from_slice-2.ensures.after)
