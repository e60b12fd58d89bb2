-- `decoding::join_edges` meets its contract. The loop's invariant: what is left to judge decides, and what is left to join decides the rows
-- at the end.
-- Assumes nothing.
use native.Mathlib.Omega.{arith}
use Prim.Native.Nat.{◌/◌, ◌%◌}
use mathlib.Core.Bool.{false≢true}
use lib.ListN.{replicate}
use Rattle.order.proofs.Edges.{left-first, not_right, left-next, first_is, second_is, place_below, left_none}
use Rattle.order.proofs.Tables.{join_first, join-next, join_last}
use Rattle.decoding.proofs.join_edges.Goals as goal

pub loop-j-init : goal.loop-j-init
loop-j-init c = (left-first _ _ _, join_first _ _ _)

pub returns-in_default : goal.returns-in_default
returns-in_default c = record {
  value = not_right c.args.tail.now c.args.n c.args.e c.loop-j.last c.loop-j.j c.loop-j.invariant.0 (omega arith) c.in_default.ensures;
  rows_after = λ y. absurd (false≢true y);
}

pub loop-j-preserved : goal.loop-j-preserved
loop-j-preserved c =
    let p = c.in-Some.place in
    let first = first_is c.args.tail.now c.args.n c.args.e c.loop-j.last c.loop-j.j c.loop-j.invariant.0 (omega arith) p
    c.in-Some.ensures in
    let second = second_is c.args.tail.now c.args.n c.args.e c.loop-j.last c.loop-j.j c.loop-j.invariant.0 (omega arith) p
    c.in-Some.ensures in (
      left-next c.args.tail.now c.args.n c.args.e c.loop-j.last c.loop-j.j c.loop-j.invariant.0 (omega arith) p c.in-Some.ensures,
      rw c.join.ensures (join-next c.args.tail.now c.args.e (replicate 64 0) c.loop-j.rows c.loop-j.j (p / 64) (p % 64)
          c.loop-j.invariant.1 (omega arith) first second),
    )

pub returns : goal.returns
returns c = record {
  value = left_none c.args.tail.now c.args.n c.args.e c.loop-j.last c.loop-j.j c.loop-j.invariant.0 (omega arith);
  rows_after = λ y. join_last c.args.tail.now c.args.e (replicate 64 0) c.loop-j.rows c.loop-j.j c.loop-j.invariant.1 (omega arith);
}
