-- `handles::beside_end` meets its contract.
-- Assumes nothing.
use native.Mathlib.Omega.{arith}
use Rattle.lane.proofs.CycleLaws.{lane_floor, lane-places, left_below, right_below, beside_some, beside_is}
use Rattle.handles.proofs.beside_end.Goals as goal

pub part-stage-requires : goal.part-stage-requires
part-stage-requires c =
    lane-places c.requires.rows c.requires.lane_on

pub offset_bounds-rows-lane : goal.offset_bounds-rows-lane
offset_bounds-rows-lane c =
    let small = lane_floor c.requires.rows c.requires.lane_on c.args.lane.right (right_below c.requires.rows c.requires.lane_on) in
    omega arith

pub bounds-rows-lane : goal.bounds-rows-lane
bounds-rows-lane c =
    lane_floor c.requires.rows c.requires.lane_on c.args.lane.right (right_below c.requires.rows c.requires.lane_on)

pub without-requires : goal.without-requires
without-requires c =
    lane_floor c.requires.rows c.requires.lane_on c.args.lane.left (left_below c.requires.rows c.requires.lane_on)

pub lowest-requires : goal.lowest-requires
lowest-requires c =
    beside_some c.requires.rows c.requires.lane_on _ c.part-stage.ensures _ c.without.ensures

pub returns : goal.returns
returns c =
    beside_is c.requires.rows c.requires.lane_on _ c.part-stage.ensures _ c.without.ensures c.lowest.result
    c.lowest.ensures.has
