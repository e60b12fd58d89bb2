-- `cancelling::forget` meets its contract. Assumes nothing.
use native.Mathlib.Omega.{arith}
use Rattle.cancelling.proofs.LookingLaws.{begins_at_lem, forget-by}
use Rattle.cancelling.proofs.forget.Goals as goal

pub returns : goal.returns
returns c =
    forget-by c.args.ends c.args.at c.args.size c.args.list.now c.minus.result c.requires.1
    (λ i q. begins_at_lem c.args.at c.args.size i (omega arith) q) c.minus.ensures
