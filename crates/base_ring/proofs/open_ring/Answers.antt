-- `base_ring::open_ring` meets its contract.
-- Assumes nothing.
use mathlib.Core.Path.{◌∙◌}
use native.Mathlib.Omega.{arith}
use Rattle.moving.proofs.JourneyLaws.{trip_append, trip_anew, fits_then, fits_anew}
use Rattle.shunting.proofs.ClearLaws.{clear_room, clear_few}
use Rattle.moving.proofs.TableLaws.{table_went}
use Rattle.base_ring.specs.Moves.{open_moves}
use Rattle.base_ring.proofs.RingLaws.{ring_below, ring_few, ring_few_without}
use Rattle.base_ring.proofs.RingLaws.{ring-reaches, ring-reaches-without}
use Rattle.base_ring.proofs.SettleLaws.{open_rest, open_first, open_done}
use Rattle.base_ring.proofs.RingLaws.{circle-places}
use Rattle.base_ring.proofs.open_ring.Goals as goal

pub part-ring-requires : goal.part-ring-requires
part-ring-requires c = circle-places c.requires.rows c.requires.base_ring

pub clear_within-cleared-requires : goal.clear_within-cleared-requires
clear_within-cleared-requires c =
    let three = c.requires.base_ring.three in
    let small = c.requires.rows.small in
    let less = c.requires.base_ring.less in
    record {
      rows = c.requires.rows;
      inside = ring_below c.requires.rows c.requires.base_ring _ c.part-ring.ensures;
      reaches = ring-reaches c.requires.rows c.requires.base_ring _ c.part-ring.ensures c.requires.rest_settled.table
          (open_rest c.requires.rows c.requires.base_ring c.requires.rest_settled) 0 (omega arith);
      room_to_clear = clear_room (ring_few c.requires.rows c.requires.base_ring _ c.part-ring.ensures)
          (fits_anew _ (omega arith) (omega arith) c.requires.room);
    }

pub clear_within-requires : goal.clear_within-requires
clear_within-requires c =
    let three = c.requires.base_ring.three in
    let small = c.requires.rows.small in
    let less = c.requires.base_ring.less in
    let way = (clear_few (ring_few c.requires.rows c.requires.base_ring _ c.part-ring.ensures) c.clear_within-cleared.ensures).journey in
    let table = table_went c.requires.rows.inside way.trip.went c.requires.rest_settled.table in
    record {
      rows = c.requires.rows;
      inside = λ q h. ring_below c.requires.rows c.requires.base_ring _ c.part-ring.ensures q ((c.without.ensures q).0 h).0;
      reaches = ring-reaches-without c.requires.rows c.requires.base_ring _ c.part-ring.ensures table
          (open_first c.requires.rows c.requires.base_ring c.requires.rest_settled _ c.part-ring.ensures
          c.clear_within-cleared.ensures.cleared) 0 1
          (omega arith) (omega arith) (omega arith) _ c.without.ensures;
      room_to_clear = clear_room (ring_few_without c.requires.rows c.requires.base_ring _ c.part-ring.ensures 0
          (omega arith) _ c.without.ensures)
          (fits_then (fits_anew (open_moves c.args.circle.size) (omega arith) (omega arith) c.requires.room) way);
    }

pub returns : goal.returns
returns c =
    let three = c.requires.base_ring.three in
    let way = (clear_few (ring_few c.requires.rows c.requires.base_ring _ c.part-ring.ensures) c.clear_within-cleared.ensures).journey in
    let end = (clear_few (ring_few_without c.requires.rows c.requires.base_ring _ c.part-ring.ensures 0 (omega arith) _
    c.without.ensures) c.clear_within.ensures).journey in
    let one = table_went c.requires.rows.inside way.trip.went c.requires.rest_settled.table in
    let two = table_went c.requires.rows.inside end.trip.went one in
    record {
      trip = trip_anew (trip_append way.trip end.trip);
      ringing = open_done c.requires.rows c.requires.base_ring c.requires.rest_settled _ c.part-ring.ensures
          c.clear_within-cleared.ensures.cleared _ c.without.ensures c.clear_within.ensures.cleared two;
      log_len_unchanged = end.log ∙ way.log;
    }
