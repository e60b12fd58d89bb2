-- `cancelling::disjoint` meets its contract. Assumes nothing.
use borrow.Author.Tests.{eqb-true}
use Rattle.cancelling.proofs.LookingLaws.{disjoint_is}
use Rattle.cancelling.proofs.disjoint.Goals as goal

pub returns : goal.returns
returns c = λ t. disjoint_is c.args.s c.args.t (eqb-true _ _ t)
