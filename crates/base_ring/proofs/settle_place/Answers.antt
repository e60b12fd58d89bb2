-- `base_ring::settle_place` meets its contract.
-- Assumes nothing.
use mathlib.Core.Path.{refl}
use native.Mathlib.Omega.{arith}
use Rattle.moving.proofs.JourneyLaws.{trip_none, trip_more}
use Rattle.moving.proofs.TableLaws.{table_went}
use Rattle.base_ring.proofs.SettleLaws.{place-goal, place_held, place_same, place-done}
use Rattle.base_ring.proofs.settle_place.Goals as goal

pub returns-then-a-b : goal.returns-then-a-b
returns-then-a-b c = record {
  trip = trip_more _ (omega arith) (trip_none _ _);
  ringing_2 = place_same c.requires.base_ring c.requires.ringing c.requires.le_i.0 c.requires.le_i.1 c.if-a-b.true;
  log_len_unchanged = refl;
}

pub exchange-requires : goal.exchange-requires
exchange-requires c =
    let goal = place-goal c.requires.base_ring c.requires.ringing c.requires.le_i.0 c.requires.le_i.1 in
    let held = place_held c.requires.base_ring c.requires.ringing c.requires.le_i.0 c.requires.le_i.1 in
    record {
      rows = c.requires.rows;
      base_ring = c.requires.base_ring;
      fact = c.requires.ringing.opened;
      two_on_ring = record { differ = c.if-a-b.false; first = goal; second = held };
      room = c.requires.room;
    }

pub returns : goal.returns
returns c =
    let table = table_went c.requires.rows.inside c.exchange.ensures.trip.went c.requires.ringing.opened.table in
    record {
      trip = c.exchange.ensures.trip;
      ringing_2 = place-done c.requires.base_ring c.requires.ringing c.requires.le_i.0 c.requires.le_i.1 table c.exchange.ensures.exchanged;
      log_len_unchanged = c.exchange.ensures.log_len_unchanged;
    }
