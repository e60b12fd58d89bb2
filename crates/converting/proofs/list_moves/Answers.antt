-- `converting::list_moves` meets its contract. The loop's invariant: the moves listed so far, and those of what is left, are the plan's.
-- Assumes nothing.
use mathlib.Core.Path.{refl, sym, ◌∙◌}
use native.Mathlib.Omega.{arith}
use Rattle.field.proofs.ListedLaws.{room_at}
use Rattle.converting.proofs.ListingLaws.{listing_first, listing_next, listing_last, next_rack_lem, next_room}
use Rattle.converting.proofs.list_moves.Goals as goal

pub loop-j-init : goal.loop-j-init
loop-j-init c =
    (listing_first _ _ _ _ _ c.requires.held, refl)

pub move_at-step-requires : goal.move_at-step-requires
move_at-step-requires c =
    room_at c.args.named c.loop-j.j c.args.k _ c.loop-j-test.true c.requires.k_bound.1

pub bounds-racks-a : goal.bounds-racks-a
bounds-racks-a c = omega (arith, c.move_at-step.ensures.first_below)

pub put_listed-requires : goal.put_listed-requires
put_listed-requires c =
    let rack = next_rack_lem c.args.tail.now c.args.named c.args.k c.args.racks.now c.args.room.now c.requires.k_in_bounds c.loop-j.racks
    c.loop-j.room c.loop-j.j c.loop-j.invariant.0 c.loop-j-test.true _ _ c.move_at-step.ensures in
    let room = next_room c.args.tail.now c.args.named c.args.k c.args.racks.now c.args.room.now c.requires.k_in_bounds c.loop-j.racks
    c.loop-j.room c.loop-j.j c.loop-j.invariant.0 c.loop-j-test.true _ _ c.move_at-step.ensures in
    record {
      a_bound = (
        c.move_at-step.ensures.first_below,
        c.move_at-step.ensures.second_below,
        λ e. rw c.from.ensures
            (rack (sym c.loop-j.invariant.1 ∙ e)),
      );
      j_in_bounds = rw c.loop-j.invariant.1 room;
    }

pub bounds-racks-a-in-loop-j : goal.bounds-racks-a-in-loop-j
bounds-racks-a-in-loop-j c =
    omega (arith, c.move_at-step.ensures.first_below)

pub bounds-racks-b : goal.bounds-racks-b
bounds-racks-b c =
    omega (arith, c.move_at-step.ensures.second_below)

pub loop-j-preserved : goal.loop-j-preserved
loop-j-preserved c =
    let next = listing_next c.args.tail.now c.args.named c.args.k c.args.racks.now c.args.room.now c.requires.k_in_bounds c.loop-j.racks
    c.loop-j.room c.loop-j.j c.loop-j.invariant.0 c.loop-j-test.true _ _ c.move_at-step.ensures _ c.loop-j.invariant.1
    c.from.result c.from.ensures _ c.put_listed.ensures in
    (next, c.loop-j.invariant.1)

pub returns : goal.returns
returns c =
    listing_last c.args.tail.now c.args.named c.args.k c.args.racks.now c.args.room.now c.loop-j.racks c.loop-j.room c.loop-j.j
    c.loop-j.invariant.0 (omega arith)

pub shape_of-room : goal.shape_of-room
shape_of-room c = c.loop-j.invariant.0.long
