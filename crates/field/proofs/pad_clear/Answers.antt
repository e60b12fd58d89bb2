-- `field::pad_clear` meets its contract. Assumes nothing.
use mathlib.Core.Path.{◌∙◌}
use Rattle.field.proofs.UnitLaws.{fitting, pad_test, pad_of_tail, tail_room}
use Rattle.field.proofs.pad_clear.Goals as goal

pub slice_bounds-pad_after-count : goal.slice_bounds-pad_after-count
slice_bounds-pad_after-count c =
    (fitting c.args.s.now c.args.q c.requires).head_there

pub slice_bounds-pad_after-start : goal.slice_bounds-pad_after-start
slice_bounds-pad_after-start c =
    (fitting c.args.s.now c.args.q c.requires).head_there

pub pad_after-requires : goal.pad_after-requires
pad_after-requires c =
    tail_room c.args.s.now c.args.q (fitting c.args.s.now c.args.q c.requires)

pub returns : goal.returns
returns c =
    pad_test c.args.s.now c.args.q _ (c.pad_after.ensures ∙ pad_of_tail c.args.s.now c.args.q)
