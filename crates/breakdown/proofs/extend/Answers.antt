-- `breakdown::extend` meets its contract. The invariant: the first i positions are in the row, and the others are still to settle.
-- Assumes nothing.
use mathlib.Core.Path.{sym}
use mathlib.Core.Logic.{⊎_elim}
use native.Mathlib.Omega.{arith}
use Rattle.breakdown.proofs.BuildingLaws.{extended_push, settled_room}
use Rattle.graph.specs.Rows.{row}
use Rattle.breakdown.proofs.extend.Goals as goal

pub overflow_add-order : goal.overflow_add-order
overflow_add-order c =
    let small = c.requires.fresh.small c.loop-i.i (omega arith) in
    let room = settled_room c.loop-i.invariant.0.settled (row c.args.at.now c.loop-i.i) small
    (c.loop-i.invariant.1 c.loop-i.i (omega arith) (omega arith)) in
    omega arith

pub bounds-order-m : goal.bounds-order-m
bounds-order-m c =
    let small = c.requires.fresh.small c.loop-i.i (omega arith) in
    let room = settled_room c.loop-i.invariant.0.settled (row c.args.at.now c.loop-i.i) small
    (c.loop-i.invariant.1 c.loop-i.i (omega arith) (omega arith)) in
    omega arith

pub loop-i-preserved : goal.loop-i-preserved
loop-i-preserved c = (
  extended_push _ _ _ _ _ _ _ (c.requires.fresh.small c.loop-i.i (omega arith))
      (c.loop-i.invariant.1 c.loop-i.i (omega arith) (omega arith)) c.with.ensures c.loop-i.invariant.0,
  λ j h k x. ⊎_elim (λ y. c.loop-i.invariant.1 j (omega arith) k y) (λ e. c.requires.fresh.distinct c.loop-i.i j
      (omega arith) k (sym e)) ((c.with.ensures (row c.args.at.now j)).0 x),
)
