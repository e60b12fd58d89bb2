-- `inspection::copy_row` meets its contract: two writes, one behind the other. Assumes nothing.
use Rattle.inspection.proofs.CopyLaws.{copied_row}
use Rattle.inspection.proofs.copy_row.Goals as goal

pub returns : goal.returns
returns c =
    copied_row c.args.bytes.now c.args.count _ c.min-used.ensures c.args.at c.args.buffer.now c.requires _ _
    c.copy_from_slice.ensures.after c.copy_from_slice.ensures.len (c.fill.ensures.after (λ y e. e))
