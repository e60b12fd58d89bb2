-- `base_ring::bring_aside` meets its contract.
-- Assumes nothing.
use Prim.Native.Nat.{◌-◌}
use native.Mathlib.Omega.{arith}
use Rattle.sets.specs.Sets.{Has}
use Rattle.shunting.specs.Cleared.{RoomToBring}
use Rattle.shunting.proofs.BringLaws.{brought_few}
use Rattle.moving.proofs.JourneyLaws.{journey_append, fits_less, fits_then}
use Rattle.moving.proofs.TableLaws.{table_went}
use Rattle.base_ring.proofs.RingLaws.{circle_below, ring_below, ring_robust, ring_few}
use Rattle.base_ring.proofs.ExchangeLaws.{aside_on, aside_bringable, aside_again, aside-done}
use Rattle.base_ring.proofs.RingLaws.{circle-places}
use Rattle.base_ring.proofs.bring_aside.Goals as goal

pub part-ring-requires : goal.part-ring-requires
part-ring-requires c = circle-places c.requires.rows c.requires.base_ring

pub where_is-stands-requires : goal.where_is-stands-requires
where_is-stands-requires c =
    let on = aside_on c.requires.rows c.requires.base_ring c.requires.fact c.requires.on_ring c.make_move-stepped.ensures.passed in
    record {
      n_bound = c.requires.rows.small;
      stands = (on.at, record { inside = circle_below c.requires.base_ring on.at on.on; there = on.there });
    }

pub bring-brought-requires : goal.bring-brought-requires
bring-brought-requires c =
    let room : RoomToBring (Has c.part-ring.result) _ _ _ = record {
      most = c.args.circle.size - 1;
      few = ring_few c.requires.rows c.requires.base_ring _ c.part-ring.ensures;
      fits = fits_less _ (omega arith) (fits_then c.requires.fits (c.make_move-stepped.ensures.journey_on _
          (c.requires.rows.symmetric _ _ c.requires.base_ring.beside)));
    } in
    record {
      rows = c.requires.rows;
      inside = ring_below c.requires.rows c.requires.base_ring _ c.part-ring.ensures;
      robust = ring_robust c.requires.rows c.requires.base_ring _ c.part-ring.ensures;
      bringable = aside_bringable c.requires.rows c.requires.base_ring c.requires.fact c.requires.on_ring
          c.make_move-stepped.ensures.passed _ _ c.part-ring.ensures (table_went c.requires.rows.inside
          (c.make_move-stepped.ensures.journey_on _ (c.requires.rows.symmetric _ _
          c.requires.base_ring.beside)).trip.went c.requires.fact.table) c.where_is-stands.ensures;
      room_to_bring = room;
    }

pub make_move-requires : goal.make_move-requires
make_move-requires c = record {
  movable = aside_again c.requires.rows c.requires.base_ring c.requires.fact c.requires.on_ring
      c.make_move-stepped.ensures.passed _ _ c.part-ring.ensures (table_went c.requires.rows.inside
      (c.make_move-stepped.ensures.journey_on _ (c.requires.rows.symmetric _ _ c.requires.base_ring.beside)).trip.went
      c.requires.fact.table) c.where_is-stands.ensures c.bring-brought.ensures.brought;
  fits = fits_then (fits_then c.requires.fits (c.make_move-stepped.ensures.journey_on _
      (c.requires.rows.symmetric _ _ c.requires.base_ring.beside))) (brought_few
      (ring_few c.requires.rows c.requires.base_ring _ c.part-ring.ensures) c.bring-brought.ensures.brought_by);
}

pub returns : goal.returns
returns c = record {
  journey = journey_append (c.make_move-stepped.ensures.journey_on _ (c.requires.rows.symmetric _ _
      c.requires.base_ring.beside)) (journey_append (brought_few (ring_few c.requires.rows c.requires.base_ring _
      c.part-ring.ensures) c.bring-brought.ensures.brought_by) (c.make_move.ensures.journey_on _
      c.requires.base_ring.beside));
  aside = aside-done c.requires.rows c.requires.base_ring c.requires.fact c.requires.on_ring
      c.make_move-stepped.ensures.passed _ _ c.part-ring.ensures (table_went c.requires.rows.inside
      (c.make_move-stepped.ensures.journey_on _ (c.requires.rows.symmetric _ _ c.requires.base_ring.beside)).trip.went
      c.requires.fact.table) c.where_is-stands.ensures c.bring-brought.ensures.brought c.make_move.ensures.passed;
}
