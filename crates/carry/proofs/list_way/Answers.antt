-- `carry::list_way` meets its contract. The invariant is the record `Listing`.
-- Assumes nothing.
use native.Mathlib.Omega.{arith}
use Prim.Native.Nat.{◌+◌}
use Rattle.carry.proofs.ListingLaws.{listing_first, listing_next, listing_last, next_room}
use Rattle.carry.proofs.list_way.Goals as goal

pub loop-j-init : goal.loop-j-init
loop-j-init c = listing_first _ _ _

pub put_listed-requires : goal.put_listed-requires
put_listed-requires c = record {
  a_bound = (
    rw c.from.ensures (c.requires.k_bound.1 c.loop-j.j (omega arith)),
    rw c.from-in-loop-j.ensures (c.requires.k_bound.1 (c.loop-j.j + 1) (omega arith)),
    λ e. (omega arith, omega arith),
  );
  j_in_bounds = next_room _ _ _ c.requires.k_in_bounds _ _ c.loop-j.invariant c.loop-j-test.true;
}

pub loop-j-preserved : goal.loop-j-preserved
loop-j-preserved c =
    listing_next _ _ _ c.requires.k_in_bounds _ _ c.loop-j.invariant c.loop-j-test.true _ _ c.from.ensures
    c.from-in-loop-j.ensures _ c.put_listed.ensures

pub shape_of-room : goal.shape_of-room
shape_of-room c = c.loop-j.invariant.long

pub returns : goal.returns
returns c = listing_last _ _ _ _ _ c.loop-j.invariant (omega arith)
