-- `plan::spare_bits` meets its contract. Assumes nothing.
use Rattle.plan.proofs.MoveTests.{spare_named, spare_unnamed}
use Rattle.plan.proofs.spare_bits.Goals as goal

pub returns-then-named : goal.returns-then-named
returns-then-named c = spare_named c.args.named c.if-named.true

pub returns : goal.returns
returns c = spare_unnamed c.args.named c.if-named.false
