-- `inspection::wichteab_inspect_step` meets its contract: `PartLaws` has what is shown of a part. Assumes nothing.
use mathlib.Core.Path.{◌∙◌}
use native.Mathlib.Omega.{arith}
use Rattle.inspection.proofs.PartLaws.{byte_there, byte_none}
use Rattle.inspection.proofs.wichteab_inspect_step.Goals as goal

pub returns-then-part-at : goal.returns-then-part-at
returns-then-part-at c = byte_none _ _ c.step-part.ensures.bytes _ (omega arith)

pub returns : goal.returns
returns c = c.from.ensures ∙ byte_there _ _ c.step-part.ensures.bytes _ (omega arith)
