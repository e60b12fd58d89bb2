-- `scheduling::write_window` meets its contract. The loop's invariant: the steps of the rows passed are written. Assumes nothing.
use native.Mathlib.Omega.{arith}
use Rattle.scheduling.proofs.Windowing.{rows-first, rows-length, rows_room, rows_more, rows_all}
use Rattle.scheduling.proofs.write_window.Goals as goal

pub loop-row-init : goal.loop-row-init
loop-row-init c =
    rows-first c.args.window.now c.args.buffer.now c.args.n c.args.at

pub write_step-next-requires : goal.write_step-next-requires
write_step-next-requires c = record {
  row_bound = (
    omega arith,
    rows_room _ _ _ _ c.requires.n_bound.1 c.loop-row.buffer c.loop-row.next c.loop-row.row
        c.loop-row.invariant (omega arith),
  );
  entries_fit = c.requires.entries_fit;
}

pub loop-row-preserved : goal.loop-row-preserved
loop-row-preserved c =
    rows_more c.args.window.now c.args.buffer.now c.args.n c.args.at c.requires.n_bound.1 c.loop-row.buffer
    c.loop-row.next c.loop-row.row c.loop-row.invariant (omega arith) c.write_step-next.result _ c.write_step-next.ensures

pub shape_of-buffer : goal.shape_of-buffer
shape_of-buffer c =
    rows-length c.args.window.now c.args.buffer.now c.args.n c.args.at c.requires.n_bound.1 c.loop-row.buffer c.loop-row.next c.loop-row.row
    c.loop-row.invariant (omega arith)

pub returns : goal.returns
returns c =
    rows_all c.args.window.now c.args.buffer.now c.args.n c.args.at c.requires.n_bound.1 c.loop-row.buffer c.loop-row.next c.loop-row.row
    c.loop-row.invariant (omega arith) (omega arith)
