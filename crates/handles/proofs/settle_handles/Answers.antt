-- `handles::settle_handles` meets its contract. The invariant: the record `Handling`.
--
--     on        the handle that is settled next
--     below     its places and its ends are below 64
--     ring-up   its places begin behind the ring
-- Assumes nothing.
use Prim.Native.Nat.{ℕ, ◌+◌, ◌-◌, ◌≤◌, ◌<◌}
use mathlib.Core.Path.{◌≡◌}
use native.Mathlib.Omega.{arith}
use lib.ListN.{length-replicate}
use Rattle.graph.specs.Rows.{row, Edge}
use Rattle.moving.proofs.JourneyLaws.{space_room}
use Rattle.lane.specs.Lane.{HandleOn}
use Rattle.lane.proofs.CycleLaws.{left_below, right_below}
use Rattle.handles.proofs.SettleLaws.{down_up, starts_from, starts_few, lane_of, handling_begin}
use Rattle.handles.proofs.SettleLaws.{handling_placing, handling_room, handling_next, handling_trip, handling_end}
use Rattle.handles.proofs.settle_handles.Goals.{In-loop-i}
use Rattle.handles.proofs.settle_handles.Goals as goal

on : (c : In-loop-i) → HandleOn c.args.n (Edge c.args.rows.now) (row c.args.breakdown.order) (row c.args.breakdown.start (c.loop-i.i - 1))
    (row c.args.breakdown.start (c.loop-i.i - 1 + 1)) (row c.args.breakdown.left (c.loop-i.i - 1))
    (row c.args.breakdown.right (c.loop-i.i - 1))
on c =
    let some = c.loop-i-test.true in
    let most = c.loop-i.auto.i in
    lane_of c.requires.rows.symmetric c.requires.breaks_down (c.loop-i.i - 1) (omega arith)

below : (c : In-loop-i) → (c.loop-i.i < 64) × (row c.args.breakdown.start (c.loop-i.i - 1) < 64)
    × (row c.args.breakdown.start (c.loop-i.i - 1 + 1) ≤ 64) × (row c.args.breakdown.left (c.loop-i.i - 1) < 64)
    × (row c.args.breakdown.right (c.loop-i.i - 1) < 64)
below c =
    let small = c.requires.rows.small in
    let few = starts_few c.requires.rows.symmetric c.requires.breaks_down small c.loop-i.i c.loop-i.auto.i in
    let inner = (on c).handle.inner in
    let within = (on c).within in
    let left = left_below c.requires.rows (on c) in
    let right = right_below c.requires.rows (on c) in
    (few, omega arith, omega arith, omega arith, omega arith)

ring-up : (c : In-loop-i) → c.args.breakdown.ring ≤ row c.args.breakdown.start (c.loop-i.i - 1)
ring-up c =
    let most = c.loop-i.auto.i in
    let up = starts_from c.requires.rows.symmetric c.requires.breaks_down (c.loop-i.i - 1) (omega arith) in
    omega arith

pub loop-i-init : goal.loop-i-init
loop-i-init c =
    handling_begin c.requires.breaks_down.begins c.requires.breaks_down.stops c.requires.table
    (space_room (length-replicate {A = ℕ} 8256 0) c.requires.space)

pub bounds-breakdown-i : goal.bounds-breakdown-i
bounds-breakdown-i c = let b = below (goal.at.bounds-breakdown-i c).In-loop-i in omega arith

pub overflow_cast-lane : goal.overflow_cast-lane
overflow_cast-lane c = let b = below (goal.at.overflow_cast-lane c).In-loop-i in omega arith

pub settle_handle-state-requires : goal.settle_handle-state-requires
settle_handle-state-requires c =
    let x = (goal.at.settle_handle-state-requires c).In-loop-i in
    record {
      rows = c.requires.rows;
      lane_on = on x;
      lane_placing = handling_placing c.requires.breaks_down.begins (c.loop-i.i - 1) c.loop-i.i
          (down_up c.loop-i.i c.loop-i-test.true) (ring-up x) (on x).handle.inner (on x).within c.loop-i.invariant
          c.requires.table_2 c.requires.filled;
      room = handling_room c.requires.breaks_down.begins (c.loop-i.i - 1) c.loop-i.i
          (down_up c.loop-i.i c.loop-i-test.true) (ring-up x) (on x).handle.inner (on x).within c.loop-i.invariant;
    }

pub loop-i-preserved : goal.loop-i-preserved
loop-i-preserved c =
    let x = (goal.at.loop-i-preserved c).In-loop-i in
    handling_next c.requires.breaks_down.begins (c.loop-i.i - 1) c.loop-i.i (down_up c.loop-i.i c.loop-i-test.true)
    (ring-up x) (on x).handle.inner (on x).within c.loop-i.invariant c.settle_handle-state.ensures.trip
    c.settle_handle-state.ensures.lane_settled.table c.settle_handle-state.ensures.lane_settled.agreed
    c.settle_handle-state.ensures.log_len_unchanged

pub shape_of-tail : goal.shape_of-tail
shape_of-tail c = c.loop-i.invariant.trip.tail

pub returns : goal.returns
returns c =
    let done = c.loop-i-test.false in
    let none : c.loop-i.i ≡ 0 = omega arith in
    record {
      trip = handling_trip c.requires.breaks_down.begins none c.loop-i.invariant;
      table_3 = c.loop-i.invariant.table;
      agreed = handling_end c.requires.breaks_down.begins none c.loop-i.invariant;
    }
