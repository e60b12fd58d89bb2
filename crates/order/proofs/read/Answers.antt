-- `order::read` meets its contract: a refusal of the edge reader is passed up, and `Layers` has the answers above its acceptance.
-- Assumes nothing.
use native.Mathlib.Omega.{arith}
use Rattle.order.proofs.Layers.{edges_gave, edges_down, tail_there, tail_room, racks_wrong, racks_right}
use Rattle.order.proofs.read.Goals as goal

pub returns-in_err-counts : goal.returns-in_err-counts
returns-in_err-counts c =
    edges_down c.args.order.now c.from_residual.result _ c.from_residual.ensures.1 c.in_err-counts.ensures

pub slice_bounds-racks_sound-count : goal.slice_bounds-racks_sound-count
slice_bounds-racks_sound-count c = tail_there (edges_gave c.in_ok-counts.ensures).head

pub slice_bounds-racks_sound-start : goal.slice_bounds-racks_sound-start
slice_bounds-racks_sound-start c = tail_there (edges_gave c.in_ok-counts.ensures).head

pub racks_sound-requires : goal.racks_sound-requires
racks_sound-requires c =
    let g = (edges_gave c.in_ok-counts.ensures).head in
    record {
      n_bound = omega arith;
      m_bound = omega arith;
      m_bound_2 = tail_room g;
    }

pub returns-then-not-racks_sound : goal.returns-then-not-racks_sound
returns-then-not-racks_sound c =
    racks_wrong (edges_gave c.in_ok-counts.ensures) c.racks_sound.ensures c.if-not-racks_sound.true

pub returns : goal.returns
returns c =
    racks_right (edges_gave c.in_ok-counts.ensures) c.racks_sound.ensures c.if-not-racks_sound.false
