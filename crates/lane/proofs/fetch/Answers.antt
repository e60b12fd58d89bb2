-- `lane::fetch` meets its contract.
-- Assumes nothing.
use mathlib.Core.Path.{refl, ◌∙◌}
use native.Mathlib.Omega.{arith}
use Rattle.breakdown.specs.Breakdown.{Between}
use Rattle.breakdown.proofs.PlaceLaws.{place_at}
use Rattle.graph.specs.Rows.{row}
use Rattle.shunting.specs.Cleared.{Vacancy}
use Rattle.moving.proofs.JourneyLaws.{trip_none, trip_more, trip_append, room_then}
use Rattle.moving.proofs.TableLaws.{table_went}
use Rattle.lane.specs.Lane.{LaneStage, LaneCarriable}
use Rattle.lane.proofs.PlaceLaws.{rack_there}
use Rattle.lane.proofs.FetchLaws.{fails, fetch_already, fetch_place, fetch_held, fetch_carried}
use Rattle.lane.proofs.fetch.Goals as goal

pub where_is-requires : goal.where_is-requires
where_is-requires c = record {
  n_bound = c.requires.rows.small;
  stands = rack_there c.requires.rows c.requires.lane_on c.requires.lane_placing c.requires.k_bound c.next_rack-rack.ensures;
}

pub returns-then-has : goal.returns-then-has
returns-then-has c =
    let is = c.where_is.ensures.there ∙ c.next_rack-rack.ensures in
    let there = c.has.ensures.0 c.if-has.true in
    record {
      trip = trip_more _ (omega arith) (trip_none _ _);
      lane_fetched = fetch_already c.requires.rows c.requires.lane_on _ c.part-stage.ensures c.requires.lane_placing
          c.requires.k_bound c.where_is.result is there c.requires.vacancy;
      log_len_unchanged = refl;
    }

pub where_is-at-requires : goal.where_is-at-requires
where_is-at-requires c = record {
  n_bound = c.requires.rows.small;
  stands = rack_there c.requires.rows c.requires.lane_on (c.open_end-open.ensures.lane_kept _ c.requires.lane_placing)
      c.requires.k_bound c.next_rack-rack.ensures;
}

pub returns-then-has-2 : goal.returns-then-has-2
returns-then-has-2 c =
    let there = c.has-2.ensures.0 c.if-has-2.true in
    let vacancy : Vacancy (LaneStage c.args.lane) (row c.open_end-open.result.racks) = record {
      at = c.args.lane.right;
      there = c.requires.lane_on.handle.right;
      vacant = c.open_end-open.ensures.lane_open.end;
    } in
    record {
      trip = trip_more _ (omega arith) c.open_end-open.ensures.trip;
      lane_fetched = fetch_already c.requires.rows c.requires.lane_on _ c.part-stage.ensures
          (c.open_end-open.ensures.lane_kept _ c.requires.lane_placing) c.requires.k_bound c.where_is-at.result
          (c.where_is-at.ensures.there ∙ c.next_rack-rack.ensures) there vacancy;
      log_len_unchanged = c.open_end-open.ensures.log_len_unchanged;
    }

pub carry-requires : goal.carry-requires
carry-requires c =
    let q = place_at c.place_of-q.ensures ((let it : Between (row c.args.lane.order) c.args.lane.start c.args.lane.end
    c.where_is-at.result = let away = fails c.has-2.ensures c.if-has-2.false in fetch_place c.requires.rows
    c.requires.lane_on _ c.part-stage.ensures (c.open_end-open.ensures.lane_kept _ c.requires.lane_placing)
    c.requires.k_bound c.where_is-at.result c.where_is-at.ensures.inside
    (c.where_is-at.ensures.there ∙ c.next_rack-rack.ensures) away in it)) in
    let can : LaneCarriable c.args.lane c.place_of-q.result (row c.open_end-open.result.racks) = record {
      table = (c.open_end-open.ensures.lane_kept _ c.requires.lane_placing).table;
      vacant = c.open_end-open.ensures.lane_open;
      held = fetch_held c.requires.rows c.requires.lane_on _ c.part-stage.ensures
          (c.open_end-open.ensures.lane_kept _ c.requires.lane_placing) c.requires.k_bound c.where_is-at.result _
          (c.where_is-at.ensures.there ∙ c.next_rack-rack.ensures) q.is;
    } in
    let room = room_then c.requires.room c.open_end-open.ensures.log_len_unchanged c.open_end-open.ensures.trip in
    record {
      rows = c.requires.rows;
      lane_on = c.requires.lane_on;
      lane_beside = c.requires.lane_beside;
      in_lane = record { from = q.from; before = q.before };
      lane_carriable = can;
      room = room;
    }

pub returns : goal.returns
returns c =
    let q = place_at c.place_of-q.ensures ((let it : Between (row c.args.lane.order) c.args.lane.start c.args.lane.end
    c.where_is-at.result = let away = fails c.has-2.ensures c.if-has-2.false in fetch_place c.requires.rows
    c.requires.lane_on _ c.part-stage.ensures (c.open_end-open.ensures.lane_kept _ c.requires.lane_placing)
    c.requires.k_bound c.where_is-at.result c.where_is-at.ensures.inside
    (c.where_is-at.ensures.there ∙ c.next_rack-rack.ensures) away in it)) in
    let table = table_went c.requires.rows.inside c.carry.ensures.trip.went
    (c.open_end-open.ensures.lane_kept _ c.requires.lane_placing).table in
    record {
      trip = trip_append c.open_end-open.ensures.trip c.carry.ensures.trip;
      lane_fetched = fetch_carried c.requires.rows c.requires.lane_on _ c.part-stage.ensures
          (c.open_end-open.ensures.lane_kept _ c.requires.lane_placing) c.requires.k_bound c.args.lane.beside
          c.where_is-at.result
          c.place_of-q.result c.requires.lane_beside.there c.requires.lane_beside.right
          (c.where_is-at.ensures.there ∙ c.next_rack-rack.ensures) q.is c.open_end-open.ensures.lane_open.end
          c.carry.ensures.lane_carried table;
      log_len_unchanged = c.carry.ensures.log_len_unchanged ∙ c.open_end-open.ensures.log_len_unchanged;
    }
