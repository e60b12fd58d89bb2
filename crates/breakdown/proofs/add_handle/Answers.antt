-- `breakdown::add_handle` meets its contract. What the way makes is in `LayLaws` and `BuildingLaws`.
-- Assumes nothing.
use Prim.Native.Nat.{◌-◌}
use mathlib.Core.Path.{refl}
use mathlib.Core.List.{[]}
use native.Mathlib.Omega.{arith}
use Rattle.graph.proofs.NearestLaws.{nearest_short}
use Rattle.breakdown.proofs.BuildingLaws.{fresh_front, extended_front, settled_most, building_add}
use Rattle.breakdown.proofs.LayLaws.{handle_found, handle_fresh}
use Rattle.breakdown.proofs.add_handle.Goals as goal

pub way_round-requires : goal.way_round-requires
way_round-requires c = record {
  rows = c.requires.rows;
  x_lt_n = c.requires.rows.inside _ _ (c.requires.handle_choice.pair c.requires.size_nonzero).edge;
}

pub shared_ref_as_front-extend : goal.shared_ref_as_front-extend
shared_ref_as_front-extend c =
    let small = c.requires.rows.small in
    let short = nearest_short c.in-Some.ensures.1 c.args.n (λ p e. e.there) in
    omega arith

pub extend-requires : goal.extend-requires
extend-requires c =
    let small = c.requires.rows.small in
    let short = nearest_short c.in-Some.ensures.1 c.args.n (λ p e. e.there) in
    record {
      settled = c.requires.building_of.settled;
      fresh = fresh_front c.in-Some.route.at (c.in-Some.route.size - 1) (omega arith) _
          (handle_fresh c.args.settled.now c.args.pair.from c.args.pair.to
          c.args.pair.size c.in-Some.route.size c.in-Some.route.at c.requires.rows c.requires.size_nonzero
          c.requires.handle_choice c.in-Some.ensures.1);
    }

pub overflow_cast-start : goal.overflow_cast-start
overflow_cast-start c = let m = settled_most c.extend.ensures.settled in omega arith

pub overflow_cast-left : goal.overflow_cast-left
overflow_cast-left c =
    let m = c.requires.rows.small in
    let e = (c.requires.rows.inside _ _ (c.requires.handle_choice.pair c.requires.size_nonzero).edge).0 in
    omega arith

pub bounds-route-inner : goal.bounds-route-inner
bounds-route-inner c =
    let r = c.requires.building_of.room in
    let t = c.requires.building_of.ring_three in
    let m = settled_most c.extend.ensures.settled in
    omega arith

pub returns : goal.returns
returns c =
    let small = c.requires.rows.small in
    let short = nearest_short c.in-Some.ensures.1 c.args.n (λ p e. e.there) in
    let pair = c.requires.handle_choice.pair c.requires.size_nonzero in
    let some = handle_found c.args.settled.now c.args.pair.from c.args.pair.to c.args.pair.size
    c.in-Some.route.size c.in-Some.route.at c.requires.rows c.requires.size_nonzero
    c.requires.handle_choice c.in-Some.ensures.1 in
    let next = building_add c.requires.building_of c.args.pair.from c.args.pair.to c.in-Some.route.size
    c.in-Some.route.at _ _ (c.requires.rows.inside _ _ pair.edge).0 pair c.in-Some.ensures.1 some
    (extended_front _ _ (omega arith) _ _ _ _ c.extend.ensures) in
    record {
      building_of_2 = next.0;
      ring_value = refl;
      handles_bound = next.1;
    }

pub unreachable-requires : goal.unreachable-requires
unreachable-requires c =
    let found = handle_found c.args.settled.now c.args.pair.from c.args.pair.to c.args.pair.size 0 [] c.requires.rows
    c.requires.size_nonzero c.requires.handle_choice
    c.in_default.ensures in
    omega arith
