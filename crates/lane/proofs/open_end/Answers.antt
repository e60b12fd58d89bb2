-- `lane::open_end` meets its contract.
-- Assumes nothing.
use Prim.Native.Nat.{◌-◌}
use mathlib.Core.Path.{◌∙◌}
use mathlib.Core.Logic.{inl}
use native.Mathlib.Omega.{arith}
use Rattle.moving.proofs.JourneyLaws.{trip_append, trip_anew, fits_anew, fits_then}
use Rattle.moving.proofs.TableLaws.{table_went}
use Rattle.shunting.proofs.ClearLaws.{clear_room, clear_few}
use Rattle.lane.specs.Moves.{end_moves}
use Rattle.lane.proofs.StageLaws.{region_has, region_below, region_few, region_reaches, placing_kept}
use Rattle.lane.proofs.FetchLaws.{end_below, end_inside, end_reaches, end_few, end_beside}
use Rattle.lane.proofs.open_end.Goals as goal

pub clear_within-aside-requires : goal.clear_within-aside-requires
clear_within-aside-requires c =
    let small = c.requires.rows.small in
    record {
      rows = c.requires.rows;
      inside = λ q h. region_below c.requires.lane_on c.args.k q (((region_has c.requires.lane_on c.args.k _ _
          c.part-stage.ensures c.part.ensures) q).0 h);
      reaches = region_reaches c.requires.lane_on c.requires.lane_stacked.1 c.args.lane.beside c.requires.rows.symmetric
          (λ q x. ((region_has c.requires.lane_on c.args.k _ _ c.part-stage.ensures c.part.ensures) q).1 x)
          (inl c.requires.lane_beside.there);
      room_to_clear = clear_room (region_few c.requires.lane_on c.args.k (λ p x.
          ((region_has c.requires.lane_on c.args.k _ _ c.part-stage.ensures c.part.ensures) p).0 x))
          (fits_anew (c.args.lane.positions - 1) (omega arith) (omega arith) c.requires.room);
    }

pub clear_within-requires : goal.clear_within-requires
clear_within-requires c =
    let small = c.requires.rows.small in
    let way = (clear_few (region_few c.requires.lane_on c.args.k (λ p x. ((region_has c.requires.lane_on c.args.k _ _
    c.part-stage.ensures c.part.ensures) p).0 x)) c.clear_within-aside.ensures).journey in
    let table = table_went c.requires.rows.inside way.trip.went c.requires.lane_stacked.1.table in
    let placing = placing_kept c.requires.lane_on c.requires.lane_stacked.1
    (λ q x. ((region_has c.requires.lane_on c.args.k _ _ c.part-stage.ensures c.part.ensures) q).0 x) table
    c.clear_within-aside.ensures.cleared.outside in
    record {
      rows = c.requires.rows;
      inside = end_below c.requires.rows c.requires.lane_on _ _ _ c.requires.lane_beside
          (region_has c.requires.lane_on c.args.k _ _ c.part-stage.ensures c.part.ensures) c.without-free.ensures;
      reaches = end_reaches c.requires.rows c.requires.lane_on _ _ _ c.requires.lane_beside
          (region_has c.requires.lane_on c.args.k _ _ c.part-stage.ensures c.part.ensures) c.without-free.ensures
          placing;
      room_to_clear = clear_room (end_few c.requires.rows c.requires.lane_on _ _ _ c.requires.lane_beside
          (region_has c.requires.lane_on c.args.k _ _ c.part-stage.ensures c.part.ensures) c.without-free.ensures)
          (fits_then (fits_anew (end_moves c.args.lane.positions) (omega arith) (omega arith) c.requires.room) way);
    }

pub returns : goal.returns
returns c =
    let first = (clear_few (region_few c.requires.lane_on c.args.k (λ p x.
    ((region_has c.requires.lane_on c.args.k _ _ c.part-stage.ensures c.part.ensures) p).0 x))
    c.clear_within-aside.ensures).journey.trip in
    let second = (clear_few (end_few c.requires.rows c.requires.lane_on _ _ _ c.requires.lane_beside
    (region_has c.requires.lane_on c.args.k _ _ c.part-stage.ensures c.part.ensures) c.without-free.ensures)
    c.clear_within.ensures).journey.trip in
    record {
      trip = trip_anew (trip_append first second);
      lane_kept = λ T placing.
          let table = table_went c.requires.rows.inside first.went placing.table in
          placing_kept c.requires.lane_on (placing_kept c.requires.lane_on placing
          (λ q x. ((region_has c.requires.lane_on c.args.k _ _ c.part-stage.ensures c.part.ensures) q).0 x) table
          c.clear_within-aside.ensures.cleared.outside)
          (end_inside c.requires.rows c.requires.lane_on _ _ _ c.requires.lane_beside
          (region_has c.requires.lane_on c.args.k _ _ c.part-stage.ensures c.part.ensures) c.without-free.ensures)
          (table_went c.requires.rows.inside second.went table) c.clear_within.ensures.cleared.outside;
      lane_open = record {
        end = c.clear_within.ensures.cleared.vacant;
        beside = end_beside c.requires.rows c.requires.lane_on _ _ _ c.requires.lane_beside
            (region_has c.requires.lane_on c.args.k _ _ c.part-stage.ensures c.part.ensures) c.without-free.ensures
            c.clear_within.ensures.cleared c.clear_within-aside.ensures.cleared.vacant;
      };
      log_len_unchanged = c.clear_within.ensures.journey.journey.log ∙ c.clear_within-aside.ensures.journey.journey.log;
    }
