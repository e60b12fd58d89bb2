-- `plan_check::move_fault` meets its contract: each test decides its part. Assumes nothing.
use Rattle.plan.proofs.MoveTests.{fault_32, fault_34, fault_35, fault_36, fault_none}
use Rattle.plan_check.proofs.move_fault.Goals as goal

pub returns-then-edge-eq0 : goal.returns-then-edge-eq0
returns-then-edge-eq0 c = fault_32 _ _ _ _ c.if-edge-eq0.true

pub returns-then-left-eq0 : goal.returns-then-left-eq0
returns-then-left-eq0 c = fault_34 _ _ _ _ c.if-edge-eq0.false c.if-left-eq0.true

pub returns-then-entered-ne0 : goal.returns-then-entered-ne0
returns-then-entered-ne0 c = fault_35 _ _ _ _ c.if-edge-eq0.false c.if-left-eq0.false c.if-entered-ne0.true

pub returns-then-another : goal.returns-then-another
returns-then-another c =
    fault_36 _ _ _ _ c.if-edge-eq0.false c.if-left-eq0.false c.if-entered-ne0.false _ c.misnames-another.ensures c.if-another.true

pub returns : goal.returns
returns c =
    fault_none _ _ _ _ c.if-edge-eq0.false c.if-left-eq0.false c.if-entered-ne0.false _ c.misnames-another.ensures c.if-another.false
