-- `inspection::lay_out` meets its contract: four rows are copied, none over another. Assumes nothing.
use Rattle.inspection.proofs.CopyLaws.{laid_out}
use Rattle.inspection.proofs.lay_out.Goals as goal

pub returns : goal.returns
returns c =
    laid_out _ _ _ _ _ _ _ _ _ c.copy_row.ensures c.copy_row-2.ensures c.copy_row-3.ensures
    c.copy_row-4.ensures
