-- `circling::solve` meets its contract: `SolveLaws` has each part. Assumes nothing.
use Prim.Native.Nat.{ℕ, ◌+◌, ◌*◌, ◌≤◌, ◌<◌}
use mathlib.Core.Path.{sym, subst}
use native.Mathlib.Omega.{arith}
use Rattle.graph.specs.Rows.{row, Edge}
use Rattle.ring.specs.Circle.{Circle}
use Rattle.ring.specs.Order.{SameOrder}
use Rattle.ring.specs.Standing.{StandAt, OnCircle}
use Rattle.ring.proofs.CircleLaws.{circle-same}
use Rattle.ring.proofs.StandingLaws.{stand_at}
use Rattle.moving.proofs.JourneyLaws.{trip_more, trip_append, space_less, space_then}
use Rattle.circling.specs.Lands.{Lands, total}
use Rattle.circling.specs.Drive.{Driveable}
use Rattle.circling.specs.Needs.{round_moves}
use Rattle.circling.proofs.SolveLaws.{mirror-circle, on_driveable, back_driveable, settled, few_moves}
use Rattle.circling.proofs.solve.Goals as goal
use Rattle.circling.proofs.solve.Goals.{After-places-g, After-needs-back}

stand : (c : After-places-g) → StandAt c.args.n c.args.state.real (row c.args.circle.now) (row c.args.state.racks) (row c.places-p.result)
stand c = stand_at c.requires.on_circle (row c.places-p.result) c.places-p.ensures.by_index

stand_goal : (c : After-places-g) → StandAt c.args.n c.args.state.real (row c.args.circle.now) (row c.args.goal.now) (row c.places-g.result)
stand_goal c = stand_at c.requires.on_circle_2 (row c.places-g.result) c.places-g.ensures.by_index

alike : (c : After-places-g) → SameOrder c.args.state.real (row c.places-p.result) (row c.places-g.result)
alike c = c.requires.round_alike (row c.places-p.result) (row c.places-g.result) (stand c) (stand_goal c)

from_lands : (c : After-places-g) → Lands c.args.n (row c.places-p.result 1 + 2 * c.args.n) (row c.places-p.result 1)
from_lands c = record { laps = 2; is = omega arith }

from_few : (c : After-places-g) → row c.places-p.result 1 + 2 * c.args.n < 3 * c.args.n
from_few c = omega (arith, c.places-p.ensures.by_index_2 1)

pub aim-to-requires-clause-places : goal.aim-to-requires-clause-places
aim-to-requires-clause-places c = (stand (goal.at.aim-to-requires-clause-places c).After-places-g).places

pub aim-to-requires-clause-places_2 : goal.aim-to-requires-clause-places_2
aim-to-requires-clause-places_2 c = (stand_goal (goal.at.aim-to-requires-clause-places_2 c).After-places-g).places

pub needs-on-requires-clause-places : goal.needs-on-requires-clause-places
needs-on-requires-clause-places c = (stand (goal.at.needs-on-requires-clause-places c).After-places-g).places

pub needs-on-requires-clause-places_2 : goal.needs-on-requires-clause-places_2
needs-on-requires-clause-places_2 c = (stand_goal (goal.at.needs-on-requires-clause-places_2 c).After-places-g).places

pub needs-back-requires-clause-places : goal.needs-back-requires-clause-places
needs-back-requires-clause-places c = (stand_goal (goal.at.needs-back-requires-clause-places c).After-places-g).places

pub needs-back-requires-clause-places_2 : goal.needs-back-requires-clause-places_2
needs-back-requires-clause-places_2 c = (stand (goal.at.needs-back-requires-clause-places_2 c).After-places-g).places

few : (c : After-needs-back) → total c.needs-on.result + total c.needs-back.result ≤ round_moves c.args.n
few c =
    few_moves c.args.n c.args.state.real c.needs-on.result c.needs-back.result c.requires.real_lt_n c.needs-on.ensures.few
    c.needs-back.ensures.few

pub drive-requires-clause-driveable : goal.drive-requires-clause-driveable
drive-requires-clause-driveable c =
    let p = (goal.at.drive-requires-clause-driveable c).After-places-g in
    on_driveable c.requires.le_n.0 c.requires.le_n.1 c.requires.real_lt_n c.requires.on_circle c.requires.on_circle_2
    (stand p) (stand_goal p) (alike p) (from_lands p) c.aim-to.ensures.lands (from_few p) c.aim-to.ensures.there.near
    c.needs-on.ensures.none c.needs-on.ensures.each

pub drive-requires-2-clause-circled : goal.drive-requires-2-clause-circled
drive-requires-2-clause-circled c = (
  c.requires.circled.0,
  circle-same c.requires.le_n.0 (λ i l. sym (c.reversed-other.ensures i l))
      (mirror-circle c.requires.le_n.0 c.requires.circled.1 c.requires.circled.2.symmetric),
  c.requires.circled.2,
)

pub drive-requires-2-clause-driveable : goal.drive-requires-2-clause-driveable
drive-requires-2-clause-driveable c =
    let p = (goal.at.drive-requires-2-clause-driveable c).After-places-g in
    let reals = (c.drive.ensures.trip_round c.requires.circled.0 c.requires.circled.1).reals in
    subst (λ (m : ℕ). Driveable c.args.n m (row c.reversed-other.result) (row c.needs-back.result) (row c.drive.new.state.racks))
    (sym reals)
    (back_driveable c.requires.le_n.0 c.requires.le_n.1 c.requires.real_lt_n c.requires.on_circle c.requires.on_circle_2
    (stand p) (stand_goal p) (alike p) (from_lands p) c.aim-to.ensures.lands (from_few p) c.aim-to.ensures.there.near
    c.needs-on.ensures.none c.needs-on.ensures.each c.drive.ensures.on_circle c.drive.ensures.driven
    c.reversed-other.ensures c.needs-back.ensures.none c.needs-back.ensures.each)

pub drive-requires-2-clause-space : goal.drive-requires-2-clause-space
drive-requires-2-clause-space c =
    space_then {c = total c.needs-on.result}
    (space_less (total c.needs-on.result + total c.needs-back.result)
    (few (goal.at.drive-requires-2-clause-space c).After-needs-back) c.requires.space)
    (c.drive.ensures.trip_round c.requires.circled.0 c.requires.circled.1)

pub returns-clause-trip_on_ring : goal.returns-clause-trip_on_ring
returns-clause-trip_on_ring c =
    λ g rows circle.
    let other : Circle c.args.n (Edge g) (row c.reversed-other.result) =
    circle-same c.requires.le_n.0 (λ i l. sym (c.reversed-other.ensures i l))
    (mirror-circle c.requires.le_n.0 circle rows.symmetric)
    in
    trip_more (round_moves c.args.n) (few (goal.at.returns-clause-trip_on_ring c).After-needs-back)
    (trip_append (c.drive.ensures.trip_round g circle) (c.drive-2.ensures.trip_round g other))

pub returns-clause-by_index : goal.returns-clause-by_index
returns-clause-by_index c =
    let p = (goal.at.returns-clause-by_index c).After-places-g in
    let reals = (c.drive.ensures.trip_round c.requires.circled.0 c.requires.circled.1).reals in
    settled c.requires.le_n.0 c.requires.le_n.1 c.requires.real_lt_n c.requires.on_circle c.requires.on_circle_2
    (stand p) (stand_goal p) (alike p) (from_lands p) c.aim-to.ensures.lands (from_few p) c.aim-to.ensures.there.near
    c.needs-on.ensures.none c.needs-on.ensures.each c.drive.ensures.on_circle c.drive.ensures.driven
    c.reversed-other.ensures c.needs-back.ensures.none c.needs-back.ensures.each
    (subst (λ (m : ℕ). OnCircle c.args.n m (row c.reversed-other.result) (row c.drive-2.new.state.racks)) reals c.drive-2.ensures.on_circle)
    c.drive-2.ensures.driven
