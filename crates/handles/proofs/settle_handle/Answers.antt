-- `handles::settle_handle` meets its contract. The invariant: the record `Settling`.
-- Assumes nothing.
use mathlib.Core.Path.{refl}
use native.Mathlib.Omega.{arith}
use Rattle.moving.proofs.JourneyLaws.{trip_none, trip_more}
use Rattle.lane.specs.Moves.{lane_moves}
use Rattle.lane.proofs.StageLaws.{handle_places}
use Rattle.handles.proofs.SettleLaws.{settling_begin, settling_room, settling_next, settling_trip, settling_end}
use Rattle.handles.proofs.SettleLaws.{settled_already}
use Rattle.handles.proofs.settle_handle.Goals as goal

pub is_settled-requires : goal.is_settled-requires
is_settled-requires c =
    handle_places c.requires.lane_on c.requires.rows.small

pub returns-then-is_settled : goal.returns-then-is_settled
returns-then-is_settled c = record {
  trip = trip_more (lane_moves c.args.lane) (omega arith) (trip_none _ _);
  lane_settled = record {
    table = c.requires.lane_placing.table;
    agreed = settled_already c.requires.lane_placing (c.is_settled.ensures.0 c.if-is_settled.true);
  };
  log_len_unchanged = refl;
}

pub beside_end-requires : goal.beside_end-requires
beside_end-requires c = record {
  rows = c.requires.rows;
  lane_on = c.requires.lane_on;
}

pub close_cycle-cycle-requires : goal.close_cycle-cycle-requires
close_cycle-cycle-requires c = record {
  rows = c.requires.rows;
  lane_on = c.requires.lane_on;
}

pub loop-k-init : goal.loop-k-init
loop-k-init c =
    settling_begin c.requires.lane_placing c.requires.room

pub overflow_sub-k-end : goal.overflow_sub-k-end
overflow_sub-k-end c =
    let inner = c.requires.lane_on.handle.inner in
    omega arith

pub place-state-requires : goal.place-state-requires
place-state-requires c = record {
  rows = c.requires.rows;
  lane_on = c.requires.lane_on;
  lane_beside = c.beside_end.ensures;
  lane_closed = c.close_cycle-cycle.ensures;
  lane_placing = c.loop-k.invariant.placing;
  k_bound = c.loop-k-test.true;
  room = settling_room c.loop-k.invariant c.loop-k-test.true;
}

pub loop-k-preserved : goal.loop-k-preserved
loop-k-preserved c =
    settling_next c.loop-k.invariant c.loop-k-test.true c.place-state.ensures.trip c.place-state.ensures.lane_placing_2
    c.place-state.ensures.log_len_unchanged

pub shape_of-tail : goal.shape_of-tail
shape_of-tail c = c.loop-k.invariant.trip.tail

pub returns : goal.returns
returns c =
    let inner = c.requires.lane_on.handle.inner in
    record {
      trip = settling_trip c.loop-k.invariant c.loop-k-test.false;
      lane_settled = record {
        table = c.loop-k.invariant.placing.table;
        agreed = settling_end c.loop-k.invariant
            (omega arith) c.loop-k-test.false;
      };
      log_len_unchanged = c.loop-k.invariant.log;
    }
