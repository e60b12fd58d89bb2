-- `lane::place` meets its contract.
-- Assumes nothing.
use Prim.Native.Nat.{◌-◌, ◌*◌}
use mathlib.Core.Path.{◌∙◌}
use mathlib.Core.Logic.{◌≢◌}
use native.Mathlib.Omega.{arith}
use Rattle.sets.specs.Sets.{Has}
use Rattle.graph.specs.Rows.{row}
use Rattle.moving.specs.Journey.{relogged, Fits}
use Rattle.shunting.specs.Cleared.{Bringable, RoomToBring}
use Rattle.shunting.proofs.ClearLaws.{clear_room, clear_few}
use Rattle.shunting.proofs.BringLaws.{brought_few}
use Rattle.moving.proofs.JourneyLaws.{trip_append, fits_less, fits_then}
use Rattle.moving.proofs.TableLaws.{table_went}
use Rattle.lane.specs.Lane.{next_rack}
use Rattle.lane.specs.Moves.{home_moves}
use Rattle.lane.proofs.CycleLaws.{lane_floor, left_below, stage_in}
use Rattle.lane.proofs.PlaceLaws.{rack_some, rack_there, rack_held, placing_turned, stage_robust, stage_vacancy, place-from}
use Rattle.lane.proofs.PlaceLaws.{stage_few, rest_few, place_below, place_brought, place_below_rest, place_cleared}
use Rattle.lane.proofs.PlaceLaws.{place_held, place-reaches}
use Rattle.lane.proofs.PlaceLaws.{cycle_simple, cycle-round, cycle-vacancy}
use Rattle.lane.proofs.FetchLaws.{place_open, place_room, place_fits, place_trip}
use Rattle.lane.proofs.place.Goals as goal

pub open_stage-opened-requires : goal.open_stage-opened-requires
open_stage-opened-requires c = record {
  rows = c.requires.rows;
  lane_on = c.requires.lane_on;
  lane_stacked = (_, c.requires.lane_placing);
  room = place_open c.args.lane.positions c.requires.room;
}

pub fetch-fetched-requires : goal.fetch-fetched-requires
fetch-fetched-requires c =
    let room = place_room c.args.lane.positions c.open_stage-opened.ensures.trip c.requires.room
    c.open_stage-opened.ensures.log_len_unchanged in
    record {
      rows = c.requires.rows;
      lane_on = c.requires.lane_on;
      lane_beside = c.requires.lane_beside;
      lane_placing = c.open_stage-opened.ensures.lane_kept _ c.requires.lane_placing;
      k_bound = c.requires.k_bound;
      vacancy = c.open_stage-opened.ensures.vacancy;
      room = room;
    }

pub where_is-from-requires : goal.where_is-from-requires
where_is-from-requires c = record {
  n_bound = c.requires.rows.small;
  stands = rack_there c.requires.rows c.requires.lane_on c.fetch-fetched.ensures.lane_fetched.placing c.requires.k_bound
      c.next_rack-rack.ensures;
}

pub bring-brought-requires : goal.bring-brought-requires
bring-brought-requires c =
    let rack : Bringable (Has c.part-stage.result) c.where_is-from.result c.args.lane.left _ = record {
      leaves = place-from c.requires.rows c.requires.lane_on _ c.part-stage.ensures c.fetch-fetched.ensures.lane_fetched
          ((let it : (next_rack c.args.lane (row c.args.goal.now) c.args.k) ≢ 0 = rack_some c.requires.rows
          c.requires.lane_on c.requires.lane_placing c.requires.k_bound in it)) c.where_is-from.result
          (c.where_is-from.ensures.there ∙ c.next_rack-rack.ensures);
      enters = stage_in c.requires.rows c.requires.lane_on _ c.part-stage.ensures c.args.lane.left c.requires.lane_on.handle.left;
      held = rack_held ((let it : (next_rack c.args.lane (row c.args.goal.now) c.args.k) ≢ 0 = rack_some c.requires.rows
          c.requires.lane_on c.requires.lane_placing c.requires.k_bound in it))
          (c.where_is-from.ensures.there ∙ c.next_rack-rack.ensures);
      vacancy = stage_vacancy c.requires.rows c.requires.lane_on _ c.part-stage.ensures c.fetch-fetched.ensures.lane_fetched.vacancy;
    } in
    let room : RoomToBring (Has c.part-stage.result) _ _ _ = record {
      most = c.args.lane.positions - 2;
      few = stage_few c.requires.rows c.requires.lane_on _ c.part-stage.ensures;
      fits = fits_less ((c.args.lane.positions - 2) * (c.args.lane.positions - 2)) (omega arith)
          ((let it : Fits (relogged c.fetch-fetched.result 0) c.fetch-fetched.new.log c.fetch-fetched.new.tail
          (home_moves c.args.lane.positions) = place_fits c.args.lane.positions c.open_stage-opened.ensures.trip
          c.fetch-fetched.ensures.trip c.requires.rows.small c.requires.room
          (c.fetch-fetched.ensures.log_len_unchanged ∙ c.open_stage-opened.ensures.log_len_unchanged) in it));
    } in
    record {
      rows = c.requires.rows;
      inside = place_below c.requires.rows c.requires.lane_on _ c.part-stage.ensures;
      robust = stage_robust c.requires.rows c.requires.lane_on _ c.part-stage.ensures;
      bringable = rack;
      room_to_bring = room;
    }

pub without-requires : goal.without-requires
without-requires c =
    lane_floor c.requires.rows c.requires.lane_on c.args.lane.left (left_below c.requires.rows c.requires.lane_on)

pub clear_within-cleared-requires : goal.clear_within-cleared-requires
clear_within-cleared-requires c = record {
  rows = c.requires.rows;
  inside = place_below_rest c.requires.rows c.requires.lane_on _ c.part-stage.ensures _ c.without.ensures;
  reaches = place-reaches c.requires.rows c.requires.lane_on _ c.part-stage.ensures _ c.without.ensures
      c.where_is-from.result c.bring-brought.ensures.brought (rack_held ((let it :
      (next_rack c.args.lane (row c.args.goal.now) c.args.k) ≢ 0 = rack_some c.requires.rows c.requires.lane_on
      c.requires.lane_placing c.requires.k_bound in it)) (c.where_is-from.ensures.there ∙ c.next_rack-rack.ensures));
  room_to_clear = clear_room (rest_few c.requires.rows c.requires.lane_on _ c.part-stage.ensures _ c.without.ensures)
      (fits_less (c.args.lane.positions - 3) (omega arith) (fits_then ((let it : Fits
      (relogged c.fetch-fetched.result 0) c.fetch-fetched.new.log c.fetch-fetched.new.tail
      (home_moves c.args.lane.positions) = place_fits c.args.lane.positions c.open_stage-opened.ensures.trip
      c.fetch-fetched.ensures.trip c.requires.rows.small c.requires.room
      (c.fetch-fetched.ensures.log_len_unchanged ∙ c.open_stage-opened.ensures.log_len_unchanged) in it))
      (brought_few (stage_few c.requires.rows c.requires.lane_on _ c.part-stage.ensures)
      c.bring-brought.ensures.brought_by)));
}

pub turn-requires : goal.turn-requires
turn-requires c =
    let few = stage_few c.requires.rows c.requires.lane_on _ c.part-stage.ensures in
    let rest = rest_few c.requires.rows c.requires.lane_on _ c.part-stage.ensures _ c.without.ensures in
    let room = fits_then (fits_then ((let it : Fits (relogged c.fetch-fetched.result 0) c.fetch-fetched.new.log
    c.fetch-fetched.new.tail (home_moves c.args.lane.positions) = place_fits c.args.lane.positions
    c.open_stage-opened.ensures.trip c.fetch-fetched.ensures.trip c.requires.rows.small c.requires.room
    (c.fetch-fetched.ensures.log_len_unchanged ∙ c.open_stage-opened.ensures.log_len_unchanged) in it))
    (brought_few few c.bring-brought.ensures.brought_by)) (clear_few rest c.clear_within-cleared.ensures).journey in
    record {
      simple = cycle_simple c.requires.rows c.requires.lane_on c.requires.lane_closed;
      turnable = cycle-vacancy c.requires.rows c.requires.lane_on c.requires.lane_closed c.clear_within-cleared.ensures.cleared;
      fits = fits_less _ c.requires.lane_closed.short room;
    }

pub returns : goal.returns
returns c =
    let short = c.requires.lane_closed.short in
    let last = (c.turn.ensures.turn_journey _ (cycle-round c.requires.rows c.requires.lane_on c.requires.lane_closed)).journey in
    let go = brought_few (stage_few c.requires.rows c.requires.lane_on _ c.part-stage.ensures) c.bring-brought.ensures.brought_by in
    let way = (clear_few (rest_few c.requires.rows c.requires.lane_on _ c.part-stage.ensures _ c.without.ensures)
    c.clear_within-cleared.ensures).journey in
    let table = table_went c.requires.rows.inside go.trip.went c.fetch-fetched.ensures.lane_fetched.placing.table in
    let placing = place_brought c.requires.rows c.requires.lane_on _ c.part-stage.ensures
    c.fetch-fetched.ensures.lane_fetched.placing table c.bring-brought.ensures.brought in
    let table2 = table_went c.requires.rows.inside way.trip.went table in
    let placing2 = place_cleared c.requires.rows c.requires.lane_on _ c.part-stage.ensures _ c.without.ensures placing
    table2 c.clear_within-cleared.ensures.cleared in
    let table3 = table_went c.requires.rows.inside last.trip.went table2 in
    let there = place_held c.requires.rows c.requires.lane_on _ c.part-stage.ensures _ c.without.ensures
    c.clear_within-cleared.ensures.cleared ∙ c.bring-brought.ensures.brought.there ∙
    (c.where_is-from.ensures.there ∙ c.next_rack-rack.ensures) in
    let home = trip_append go.trip (trip_append way.trip last.trip) in
    record {
      trip = place_trip c.args.lane.positions c.open_stage-opened.ensures.trip c.fetch-fetched.ensures.trip (omega arith) home;
      lane_placing_2 = placing_turned c.requires.rows c.requires.lane_on placing2 c.requires.k_bound
          c.requires.lane_closed there c.turn.ensures.turn_shown.turned table3;
      log_len_unchanged = last.log ∙ way.log ∙ go.log ∙ c.fetch-fetched.ensures.log_len_unchanged ∙
          c.open_stage-opened.ensures.log_len_unchanged;
    }
