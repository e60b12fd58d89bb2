-- `floor::same_round` meets its contract: `RoundTables` has each part. Assumes nothing.
use native.Mathlib.Omega.{arith}
use Rattle.graph.specs.Rows.{row}
use Rattle.ring.specs.Standing.{StandAt}
use Rattle.ring.proofs.StandingLaws.{standing_of, stand_at}
use Rattle.graph.proofs.Decision.{says_same}
use Rattle.floor.proofs.RoundTables.{rows, starts_on, goals_on, ring-says}
use Rattle.floor.proofs.same_round.Goals as goal

pub circle-circle-requires : goal.circle-circle-requires
circle-circle-requires c = record {
  rows = rows c.requires.1;
  ring = c.requires.1.rings;
}

pub places-from-requires : goal.places-from-requires
places-from-requires c =
    let few = (rows c.requires.1).small in
    let less = c.requires.1.less in
    standing_of (starts_on c.requires.1 c.circle-circle.result c.circle-circle.ensures.circle
    c.circle-circle.ensures.by_index) (omega arith) few
    (omega arith) c.circle-circle.ensures.circle.inside

pub places-to-requires : goal.places-to-requires
places-to-requires c =
    let few = (rows c.requires.1).small in
    let less = c.requires.1.less in
    standing_of (goals_on c.requires.1 c.circle-circle.result c.circle-circle.ensures.circle
    c.circle-circle.ensures.by_index) (omega arith) few
    (omega arith) c.circle-circle.ensures.circle.inside

pub same_order-requires : goal.same_order-requires
same_order-requires c = record {
  n_bound = ((rows c.requires.1).small, c.requires.1.less);
  places = ((let it : StandAt c.args.n c.args.m (row c.circle-circle.result) (row c.args.starts.now)
      (row c.places-from.result) = stand_at (starts_on c.requires.1 c.circle-circle.result
      c.circle-circle.ensures.circle c.circle-circle.ensures.by_index) (row c.places-from.result)
      c.places-from.ensures.by_index in it)).places;
  places_2 = ((let it : StandAt c.args.n c.args.m (row c.circle-circle.result) (row c.args.goals.now)
      (row c.places-to.result) = stand_at (goals_on c.requires.1 c.circle-circle.result c.circle-circle.ensures.circle
      c.circle-circle.ensures.by_index) (row c.places-to.result) c.places-to.ensures.by_index in it)).places;
}

pub returns : goal.returns
returns c =
    λ o t.
    let says = ring-says t c.circle-circle.result c.circle-circle.ensures.circle c.circle-circle.ensures.by_index
    (row c.places-from.result) (row c.places-to.result) ((let it : StandAt c.args.n c.args.m
    (row c.circle-circle.result) (row c.args.starts.now) (row c.places-from.result) = stand_at
    (starts_on c.requires.1 c.circle-circle.result c.circle-circle.ensures.circle c.circle-circle.ensures.by_index)
    (row c.places-from.result) c.places-from.ensures.by_index in it))
    ((let it : StandAt c.args.n c.args.m (row c.circle-circle.result) (row c.args.goals.now)
    (row c.places-to.result) = stand_at (goals_on c.requires.1 c.circle-circle.result c.circle-circle.ensures.circle
    c.circle-circle.ensures.by_index) (row c.places-to.result) c.places-to.ensures.by_index in it)) in
    says_same says.0 says.1 c.same_order.ensures
