-- `solving::solve` meets its contract.
-- Assumes nothing.
use Prim.Native.Nat.{ℕ}
use mathlib.Core.Path.{sym, subst}
use native.Mathlib.Omega.{arith}
use lib.ListN.{length-replicate}
use Rattle.breakdown.proofs.StageLaws.{breakdown_bi_connected}
use Rattle.graph.specs.Rows.{row}
use Rattle.base_ring.specs.declared.Circle.{Circle}
use Rattle.base_ring.specs.Circle.{place}
use Rattle.solving.specs.Shift.{TwoPositions}
use Rattle.solving.proofs.SolveLaws.{ring-apart, shifted_open, undoing, room_shift, space_settle, space_back, trip_all}
use Rattle.solving.proofs.solve.Goals as goal

pub shift_goal-shifted-requires : goal.shift_goal-shifted-requires
shift_goal-shifted-requires c =
    let two = subst (λ (x : Circle). TwoPositions c.args.n (place x 0) (place x 1)) (sym c.circle_of-circle.ensures)
    (ring-apart c.args.breakdown c.requires.breaks_down) in
    let room = room_shift c.requires.breaks_down.ring_three c.requires.breaks_down.ring_less c.requires.space _ _
    c.requires.goal_len (length-replicate {A = ℕ} 8256 0) in
    record {
      rows = c.requires.rows;
      bi_connected = breakdown_bi_connected c.requires.rows.symmetric c.requires.breaks_down;
      two_positions = two;
      table = c.requires.table_2;
      room = room;
    }

pub settle-settled-requires : goal.settle-settled-requires
settle-settled-requires c =
    let space = space_settle c.requires.breaks_down.ring_three c.requires.breaks_down.ring_less c.requires.space
    c.shift_goal-shifted.ensures.tail_unchanged in
    record {
      rows = c.requires.rows;
      breaks_down = c.requires.breaks_down;
      circle_value = c.circle_of-circle.ensures;
      table = c.requires.table;
      fact = shifted_open c.args.breakdown c.circle_of-circle.ensures c.shift_goal-shifted.ensures.shift;
      space = space;
    }

pub undo-requires : goal.undo-requires
undo-requires c =
    let small = c.requires.rows.small in
    let back = undoing _ c.requires.rows.symmetric c.shift_goal-shifted.ensures.shift c.settle-settled.ensures.same in
    let space = space_back c.requires.breaks_down.ring_three c.requires.breaks_down.ring_less c.requires.space
    c.shift_goal-shifted.ensures.tail_unchanged c.settle-settled.ensures.trip _
    c.shift_goal-shifted.ensures.shift.few in
    record {
      entries = record { ordered = omega arith; within = omega arith };
      undoable = (c.args.rows.now, _, row c.args.goal.now, back);
      space = space;
    }

pub returns : goal.returns
returns c =
    let back = c.undo.ensures c.args.rows.now _ (row c.args.goal.now) (undoing _ c.requires.rows.symmetric
    c.shift_goal-shifted.ensures.shift c.settle-settled.ensures.same) in
    record {
      trip = trip_all c.requires.breaks_down.ring_three c.requires.breaks_down.ring_less c.requires.space
          c.shift_goal-shifted.ensures.tail_unchanged c.settle-settled.ensures.trip _
          c.shift_goal-shifted.ensures.shift.few back.0;
      same = back.1;
    }
