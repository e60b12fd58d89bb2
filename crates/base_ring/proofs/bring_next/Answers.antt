-- `base_ring::bring_next` meets its contract.
-- Assumes nothing.
use Prim.Native.Nat.{◌-◌}
use native.Mathlib.Omega.{arith}
use Rattle.sets.specs.Sets.{Has}
use Rattle.shunting.specs.Cleared.{RoomToBring}
use Rattle.moving.proofs.JourneyLaws.{journey_append, fits_less, fits_then}
use Rattle.shunting.proofs.ClearLaws.{clear_room, clear_few}
use Rattle.shunting.proofs.BringLaws.{brought_few}
use Rattle.moving.proofs.TableLaws.{table_went}
use Rattle.base_ring.proofs.RingLaws.{circle-places, held_same, ring_below, ring_robust}
use Rattle.base_ring.proofs.RingLaws.{ring_few, ring_few_without, ring_few_last, ring-reaches-without, ring-reaches_last}
use Rattle.base_ring.proofs.ExchangeLaws.{next_bringable, next_outside, next_held_still, next_outside_still, next-done}
use Rattle.base_ring.proofs.bring_next.Goals as goal

pub part-ring-requires : goal.part-ring-requires
part-ring-requires c = circle-places c.requires.rows c.requires.base_ring

pub bring-brought-requires : goal.bring-brought-requires
bring-brought-requires c =
    let room : RoomToBring (Has c.part-ring.result) _ _ _ = record {
      most = c.args.circle.size - 1;
      few = ring_few c.requires.rows c.requires.base_ring _ c.part-ring.ensures;
      fits = fits_less _ (omega arith) c.requires.fits;
    } in
    record {
      rows = c.requires.rows;
      inside = ring_below c.requires.rows c.requires.base_ring _ c.part-ring.ensures;
      robust = ring_robust c.requires.rows c.requires.base_ring _ c.part-ring.ensures;
      bringable = next_bringable c.requires.rows c.requires.base_ring _ _ c.requires.on_ring c.part-ring.ensures
          c.where_is-stands.ensures c.requires.table c.requires.rest_held;
      room_to_bring = room;
    }

pub clear_within-cleared-requires : goal.clear_within-cleared-requires
clear_within-cleared-requires c =
    let three = c.requires.base_ring.three in
    let go = brought_few (ring_few c.requires.rows c.requires.base_ring _ c.part-ring.ensures) c.bring-brought.ensures.brought_by in
    let table = table_went c.requires.rows.inside go.trip.went c.requires.table in
    let outside = next_outside c.requires.rows c.requires.base_ring _ _ c.requires.on_ring c.part-ring.ensures
    c.where_is-stands.ensures c.bring-brought.ensures.brought in
    let filled = held_same c.args.circle outside c.requires.rest_held in
    record {
      rows = c.requires.rows;
      inside = λ q h. ring_below c.requires.rows c.requires.base_ring _ c.part-ring.ensures q ((c.without-free.ensures q).0 h).0;
      reaches = ring-reaches-without c.requires.rows c.requires.base_ring _ c.part-ring.ensures table filled 1 0
          (omega arith) (omega arith) (omega arith) _ c.without-free.ensures;
      room_to_clear = clear_room (ring_few_without c.requires.rows c.requires.base_ring _ c.part-ring.ensures 1
          (omega arith) _ c.without-free.ensures)
          (fits_less _ (omega arith) (fits_then c.requires.fits go));
    }

pub clear_within-requires : goal.clear_within-requires
clear_within-requires c =
    let three = c.requires.base_ring.three in
    let go = brought_few (ring_few c.requires.rows c.requires.base_ring _ c.part-ring.ensures) c.bring-brought.ensures.brought_by in
    let way = (clear_few (ring_few_without c.requires.rows c.requires.base_ring _ c.part-ring.ensures 1 (omega arith) _
    c.without-free.ensures) c.clear_within-cleared.ensures).journey in
    let one = table_went c.requires.rows.inside go.trip.went c.requires.table in
    let two = table_went c.requires.rows.inside way.trip.went one in
    let outside = next_outside_still c.requires.rows c.requires.base_ring _ _ c.requires.on_ring c.part-ring.ensures
    c.where_is-stands.ensures c.bring-brought.ensures.brought _ c.without-free.ensures
    c.clear_within-cleared.ensures.cleared in
    let there = next_held_still c.requires.rows c.requires.base_ring _ _ c.requires.on_ring c.part-ring.ensures
    c.where_is-stands.ensures c.bring-brought.ensures.brought _ c.without-free.ensures
    c.clear_within-cleared.ensures.cleared in
    record {
      rows = c.requires.rows;
      inside = λ q h. ring_below c.requires.rows c.requires.base_ring _ c.part-ring.ensures q
          ((c.without-free.ensures q).0 ((c.without.ensures q).0 h).0).0;
      reaches = ring-reaches_last c.requires.rows c.requires.base_ring _ c.part-ring.ensures two
          (held_same c.args.circle outside c.requires.rest_held) there _ _ c.without-free.ensures c.without.ensures;
      room_to_clear = clear_room (ring_few_last c.requires.rows c.requires.base_ring _ c.part-ring.ensures _ _
          c.without-free.ensures c.without.ensures) (fits_then (fits_then c.requires.fits go) way);
    }

pub returns : goal.returns
returns c =
    let three = c.requires.base_ring.three in
    let go = brought_few (ring_few c.requires.rows c.requires.base_ring _ c.part-ring.ensures) c.bring-brought.ensures.brought_by in
    let way = (clear_few (ring_few_without c.requires.rows c.requires.base_ring _ c.part-ring.ensures 1 (omega arith) _
    c.without-free.ensures) c.clear_within-cleared.ensures).journey in
    let end = (clear_few (ring_few_last c.requires.rows c.requires.base_ring _ c.part-ring.ensures _ _
    c.without-free.ensures c.without.ensures) c.clear_within.ensures).journey in
    record {
      journey = journey_append go (journey_append way end);
      ready = next-done c.requires.rows c.requires.base_ring _ _ c.requires.on_ring c.part-ring.ensures
          c.where_is-stands.ensures c.bring-brought.ensures.brought _ c.without-free.ensures
          c.clear_within-cleared.ensures.cleared _ c.without.ensures c.clear_within.ensures.cleared;
    }
