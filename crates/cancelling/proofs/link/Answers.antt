-- `cancelling::link` meets its contract. Assumes nothing.
use native.Mathlib.Omega.{arith}
use Rattle.cancelling.proofs.MarkLaws.{link_far, link_near}
use Rattle.cancelling.proofs.link.Goals as goal

pub returns-then-j-h-gt512 : goal.returns-then-j-h-gt512
returns-then-j-h-gt512 c = link_far _ _ _ (omega arith)

pub returns : goal.returns
returns c = link_near _ _ _ (omega arith)
