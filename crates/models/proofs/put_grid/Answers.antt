-- `models::put_grid` meets its contract. The loop's invariant: what is left to write decides the bytes at the end. Assumes nothing.
use native.Mathlib.Omega.{arith}
use borrow.Author.Tests.{ltb-true}
use Rattle.models.specs.Grid.{to_right, to_below}
use Rattle.models.proofs.PutLaws.{grid-first, right_inside, right_room, below_room, grid-next, grid_last}
use Rattle.models.proofs.put_grid.Goals as goal

pub loop-p-init : goal.loop-p-init
loop-p-init c = grid-first c.args.rows c.args.columns

pub put_edge-j-requires : goal.put_edge-j-requires
unfolding to_right
put_edge-j-requires c =
    let inside = right_inside c.args.rows c.args.columns c.loop-p.p c.loop-p-test.true in
    record {
      below = λ e. let i = inside (ltb-true _ _ e) in (omega arith, omega arith);
      room = right_room c.args.rows c.args.columns c.loop-p.p c.loop-p-test.true c.loop-p.invariant c.requires.room;
    }

pub put_edge-j-requires-in-loop-p : goal.put_edge-j-requires-in-loop-p
unfolding to_right to_below
put_edge-j-requires-in-loop-p c = record {
  below = λ e. let i = ltb-true _ _ e in (omega arith, omega arith);
  room = below_room c.args.rows c.args.columns c.loop-p.p c.loop-p-test.true c.loop-p.invariant c.requires.room c.put_edge-j.ensures;
}

pub loop-p-preserved : goal.loop-p-preserved
unfolding to_right to_below
loop-p-preserved c =
    grid-next c.args.rows c.args.columns c.loop-p.p c.loop-p-test.true c.loop-p.invariant c.requires.room c.put_edge-j.ensures
    c.put_edge-j-in-loop-p.ensures

pub shape_of-tail : goal.shape_of-tail
shape_of-tail c = c.loop-p.invariant.length_same

pub returns : goal.returns
returns c = grid_last c.args.rows c.args.columns c.loop-p.p (omega arith) c.loop-p.invariant
