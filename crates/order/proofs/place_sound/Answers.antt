-- `order::place_sound` meets its contract. The loop's invariant: what is left to judge decides, and what is left to place decides the
-- table at
-- the end. Assumes nothing.
use native.Mathlib.Omega.{arith}
use mathlib.Core.Bool.{false≢true}
use lib.ListN.{replicate}
use Rattle.order.specs.Tables.{racks_at}
use Rattle.order.proofs.Places.{left-first, not_below, not_free, left-next, left_none}
use Rattle.order.proofs.Tables.{place-first, place-next, place_last}
use Rattle.order.proofs.place_sound.Goals as goal

pub loop-i-init : goal.loop-i-init
loop-i-init c = (left-first _ _ _ _ (omega arith), place-first _ _ _ _)

pub returns-then-n-p : goal.returns-then-n-p
returns-then-n-p c = record {
  value = not_below c.args.tail.now c.args.n c.args.from c.args.m c.loop-i.table c.loop-i.i c.position_at-p.result
      c.loop-i.invariant.0 (omega arith)
      c.position_at-p.ensures.is (omega arith);
  table_after = λ y. absurd (false≢true y);
}

pub returns-then-table-p-ne0 : goal.returns-then-table-p-ne0
returns-then-table-p-ne0 c = record {
  value = not_free c.args.tail.now c.args.n c.args.from c.args.m c.loop-i.table c.loop-i.i c.position_at-p.result
      c.loop-i.invariant.0 (omega arith)
      c.position_at-p.ensures.is c.if-table-p-ne0.true;
  table_after = λ y. absurd (false≢true y);
}

pub loop-i-preserved : goal.loop-i-preserved
loop-i-preserved c = (
  left-next c.args.tail.now c.args.n c.args.from c.args.m c.loop-i.table c.loop-i.i c.position_at-p.result
      c.loop-i.invariant.0 (omega arith)
      c.position_at-p.ensures.is (omega arith) (omega arith),
  place-next c.args.tail.now c.args.from c.args.m (replicate 64 0) c.loop-i.table c.loop-i.i c.position_at-p.result c.loop-i.invariant.1
      (omega arith) c.position_at-p.ensures.is,
)

pub returns : goal.returns
returns c = record {
  value = left_none c.args.tail.now c.args.n c.args.from c.args.m c.loop-i.table c.loop-i.i c.loop-i.invariant.0 (omega arith);
  table_after = λ y. unfold racks_at in place_last c.args.tail.now c.args.from c.args.m (replicate 64 0) c.loop-i.table c.loop-i.i
      c.loop-i.invariant.1 (omega arith);
}
