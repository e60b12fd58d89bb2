-- `plan::units` meets its contract. Assumes nothing.
use Rattle.plan.proofs.MoveTests.{units-named, units_unnamed}
use Rattle.plan.proofs.units.Goals as goal

pub returns-then-named : goal.returns-then-named
returns-then-named c =
    units-named c.args.named c.args.k c.requires c.if-named.true

pub returns : goal.returns
returns c =
    units_unnamed c.args.named c.args.k c.requires c.if-named.false
