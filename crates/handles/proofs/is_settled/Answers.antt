-- `handles::is_settled` meets its contract.
-- Assumes nothing.
use Prim.Native.Nat.{ℕ, ◌≤◌, ◌<◌}
use native.Mathlib.Omega.{arith}
use Rattle.graph.proofs.Decision.{says-yes, says_no}
use Rattle.graph.specs.Rows.{row}
use Rattle.lane.proofs.StageLaws.{agreed_next}
use Rattle.handles.proofs.is_settled.Goals as goal

none : {s j : ℕ} → s ≤ j → j < s → ⊥
none a b = omega arith

pub loop-i-init : goal.loop-i-init
loop-i-init c j le l = absurd (none le l)

pub bounds-order-i : goal.bounds-order-i
bounds-order-i c = let most = c.requires.most in omega arith

pub overflow_cast-p : goal.overflow_cast-p
overflow_cast-p c =
    let below = c.requires.below c.loop-i.i c.loop-i-test.true in
    omega arith

pub bounds-racks-p : goal.bounds-racks-p
bounds-racks-p c =
    c.requires.below c.loop-i.i c.loop-i-test.true

pub bounds-goal-p : goal.bounds-goal-p
bounds-goal-p c =
    c.requires.below c.loop-i.i c.loop-i-test.true

pub returns-then-racks-p : goal.returns-then-racks-p
returns-then-racks-p c =
    says_no (λ all. c.if-racks-p.true (all c.loop-i.i (omega arith) (omega arith)))

pub loop-i-preserved : goal.loop-i-preserved
loop-i-preserved c =
    agreed_next (row c.args.order.now) (row c.args.goal.now) (row c.args.racks.now) c.args.s c.loop-i.i
    c.if-racks-p.false c.loop-i.invariant

pub returns : goal.returns
returns c = says-yes (λ j le l. c.loop-i.invariant j le (omega arith))
