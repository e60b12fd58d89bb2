-- `breakdown::lay_ring` meets its contract. What the way round and its last position make is in `LayLaws`.
-- Assumes nothing.
use mathlib.Core.Path.{refl}
use native.Mathlib.Omega.{arith}
use Rattle.graph.proofs.NearestLaws.{nearest_short}
use Rattle.breakdown.proofs.BuildingLaws.{fresh_front, extended_front, settled_none}
use Rattle.breakdown.proofs.LayLaws.{nearest_fresh, ring_found, ring_last, ring_laid}
use Rattle.breakdown.proofs.lay_ring.Goals as goal

pub shared_ref_as_front-extend : goal.shared_ref_as_front-extend
shared_ref_as_front-extend c =
    let small = c.requires.rows.small in
    let short = nearest_short c.in-Some.ensures.1 c.args.n (λ p e. e.there) in
    omega arith

pub extend-requires : goal.extend-requires
extend-requires c =
    let some = ring_found c.args.pair.from c.args.pair.to c.args.pair.size c.in-Some.route.size
    c.in-Some.route.at c.requires.rows c.requires.size_nonzero c.requires.ring_choice c.in-Some.ensures.1 in
    let small = c.requires.rows.small in
    let short = nearest_short c.in-Some.ensures.1 c.args.n (λ p e. e.there) in
    let none = settled_none _ _ refl c.requires.settled_value in
    record {
      settled = none;
      fresh = fresh_front c.in-Some.route.at c.in-Some.route.size (omega arith) _
          (nearest_fresh c.args.pair.from c.args.pair.to _ _ _ _ c.requires.rows.small c.in-Some.ensures.1 some
          (omega arith) (λ i l h. let a = (none.among _ h).before in omega arith));
    }

pub extend-requires-2 : goal.extend-requires-2
extend-requires-2 c =
    let small = c.requires.rows.small in
    let short = nearest_short c.in-Some.ensures.1 c.args.n (λ p e. e.there) in
    let all = ring_last c.args.pair.from c.args.pair.to c.args.pair.size c.in-Some.route.size c.in-Some.route.at
    c.requires.rows c.requires.size_nonzero c.requires.ring_choice c.in-Some.ensures.1 _ _ _ _
    (extended_front _ _ (omega arith) _ _ _ _ c.extend.ensures) refl in
    record {
      settled = all.0;
      fresh = all.1;
    }

pub returns : goal.returns
returns c =
    let small = c.requires.rows.small in
    let short = nearest_short c.in-Some.ensures.1 c.args.n (λ p e. e.there) in
    let all = ring_laid c.args.pair.from c.args.pair.to c.args.pair.size c.in-Some.route.size c.in-Some.route.at
    c.requires.rows c.requires.size_nonzero c.requires.ring_choice c.in-Some.ensures.1 _ _ _ _
    (extended_front _ _ (omega arith) _ _ _ _ c.extend.ensures) refl _ _ _ _ _ c.extend-2.ensures refl refl refl refl in
    record {
      building_of = all.0;
      ring_value = all.1;
    }
