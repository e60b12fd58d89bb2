-- `lane::open_stage` meets its contract.
-- Assumes nothing.
use mathlib.Core.Path.{refl}
use mathlib.Core.Logic.{inl}
use native.Mathlib.Omega.{arith}
use Rattle.moving.proofs.JourneyLaws.{trip_none, trip_more, trip_anew, fits_anew}
use Rattle.moving.proofs.TableLaws.{table_went}
use Rattle.shunting.proofs.ClearLaws.{clear_room, clear_few}
use Rattle.lane.specs.Moves.{open_moves}
use Rattle.lane.proofs.StageLaws.{region_has, region_below, region_few, region_reaches, placing_kept}
use Rattle.lane.proofs.StageLaws.{stage_vacancy}
use Rattle.lane.proofs.open_stage.Goals as goal

pub returns-then-vacancies-stage-ne0 : goal.returns-then-vacancies-stage-ne0
returns-then-vacancies-stage-ne0 c = record {
  trip = trip_more (open_moves c.args.lane.positions) (omega arith) (trip_none _ _);
  lane_kept = λ T x. x;
  vacancy = stage_vacancy _ _ c.vacancies.ensures c.part-stage.ensures c.if-vacancies-stage-ne0.true;
  log_len_unchanged = refl;
}

pub clear_within-requires : goal.clear_within-requires
clear_within-requires c =
    let small = c.requires.rows.small in
    let here = inl c.requires.lane_on.handle.right in
    let has = region_has c.requires.lane_on c.args.k _ _ c.part-stage.ensures c.part.ensures in
    record {
      rows = c.requires.rows;
      inside = λ q h. region_below c.requires.lane_on c.args.k q ((has q).0 h);
      reaches = region_reaches c.requires.lane_on c.requires.lane_stacked.1 c.args.lane.right c.requires.rows.symmetric
          (λ q x. (has q).1 x) here;
      room_to_clear = clear_room (region_few c.requires.lane_on c.args.k (λ q x. (has q).0 x))
          (fits_anew (open_moves c.args.lane.positions) (omega arith) (omega arith) c.requires.room);
    }

pub returns : goal.returns
returns c =
    let has = region_has c.requires.lane_on c.args.k _ _ c.part-stage.ensures c.part.ensures in
    let trip = (clear_few (region_few c.requires.lane_on c.args.k (λ q x. (has q).0 x)) c.clear_within.ensures).journey.trip in
    record {
      trip = trip_anew trip;
      lane_kept = λ T placing.
          placing_kept c.requires.lane_on placing (λ p x. (has p).0 x)
          (table_went c.requires.rows.inside trip.went placing.table) c.clear_within.ensures.cleared.outside;
      vacancy = record { at = c.args.lane.right; there = c.requires.lane_on.handle.right; vacant = c.clear_within.ensures.cleared.vacant };
      log_len_unchanged = c.clear_within.ensures.journey.journey.log;
    }
