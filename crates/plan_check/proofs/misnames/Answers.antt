-- `plan_check::misnames` meets its contract. Assumes nothing.
use Rattle.plan.proofs.MoveTests.{unnamed, named_there}
use Rattle.plan_check.proofs.misnames.Goals as goal

pub returns-then-rack-eq0 : goal.returns-then-rack-eq0
returns-then-rack-eq0 c = unnamed _ _ c.if-rack-eq0.true

pub returns : goal.returns
returns c =
    rw c.from.ensures (named_there c.args.rack c.args.there c.if-rack-eq0.false)
