-- `solving::shift_goal` meets its contract.
-- Assumes nothing.
use Prim.Native.Nat.{◌-◌}
use native.Mathlib.Omega.{arith}
use Rattle.moving.proofs.JourneyLaws.{fits_anew, fits_then}
use Rattle.moving.proofs.TableLaws.{table_went}
use Rattle.shunting.proofs.ClearLaws.{clear_room, clear_few}
use Rattle.solving.specs.Moves.{shift_moves}
use Rattle.solving.proofs.ShiftLaws.{reaches-first, reaches-second, few_all, few_rest, shifted}
use Rattle.solving.proofs.shift_goal.Goals as goal

pub clear_within-cleared-requires : goal.clear_within-cleared-requires
clear_within-cleared-requires c =
    let small = c.requires.rows.small in
    record {
      rows = c.requires.rows;
      inside = λ q h. (c.below-all.ensures q).0 h;
      reaches = reaches-first c.args.rows.now c.requires.rows.symmetric c.requires.bi_connected c.requires.two_positions
          _ c.below-all.ensures c.requires.table;
      room_to_clear = clear_room (few_all _ c.below-all.ensures) (fits_anew (c.args.n - 1) (omega arith) (omega arith) c.requires.room);
    }

pub without-requires : goal.without-requires
without-requires c =
    let x = c.requires.two_positions.first in
    let small = c.requires.rows.small in
    omega arith

pub clear_within-requires : goal.clear_within-requires
clear_within-requires c =
    let small = c.requires.rows.small in
    let m = (clear_few (few_all _ c.below-all.ensures) c.clear_within-cleared.ensures).journey in
    let table = table_went c.requires.rows.inside m.trip.went c.requires.table in
    record {
      rows = c.requires.rows;
      inside = λ q h. (c.below-all.ensures q).0 ((c.without.ensures q).0 h).0;
      reaches = reaches-second c.args.rows.now c.requires.rows.symmetric c.requires.bi_connected
          c.requires.two_positions _ c.below-all.ensures _ c.without.ensures table;
      room_to_clear = clear_room (few_rest _ c.below-all.ensures c.requires.two_positions.first _ c.without.ensures)
          (fits_then (fits_anew (shift_moves c.args.n) (omega arith) (omega arith) c.requires.room) m);
    }

pub returns : goal.returns
returns c =
    let first = (clear_few (few_all _ c.below-all.ensures) c.clear_within-cleared.ensures).journey in
    let second = (clear_few (few_rest _ c.below-all.ensures c.requires.two_positions.first _ c.without.ensures)
    c.clear_within.ensures).journey in
    let all = shifted c.requires.rows c.args.x c.args.next _ _ c.without.ensures c.args.goal.now c.requires.table
    c.requires.room.log first c.clear_within-cleared.ensures.cleared second c.clear_within.ensures.cleared in
    record {
      shift = all.0;
      tail_unchanged = all.1;
    }
