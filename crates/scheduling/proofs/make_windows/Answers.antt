-- `scheduling::make_windows` meets its contract. The loop's invariant: the steps of the windows passed are written, and the book and the
-- due steps tell where the next ones are found. Assumes nothing.
use mathlib.Core.Path.{sym, ◌∙◌}
use native.Mathlib.Omega.{arith}
use Rattle.field.specs.PlanMoves.{all_moves}
use Rattle.field.proofs.ListedLaws.{length-moves}
use Rattle.window.proofs.FillingLaws.{latest_few}
use Rattle.scheduling.proofs.Windowing.{counted-first, counted-later, counted_on, counted_last, windows_none}
use Rattle.scheduling.proofs.Windowing.{windows-length, windows_room, windows_more, windows-all}
use Rattle.scheduling.proofs.make_windows.Goals as goal

pub loop-done-init : goal.loop-done-init
loop-done-init c = (
  omega arith,
  counted-first (all_moves c.args.moves.now) c.args.due.now c.requires.due_nonzero.1,
  windows_none (all_moves c.args.moves.now) c.args.buffer.now,
  c.requires.due_nonzero.2,
)

pub overflow_mul-done : goal.overflow_mul-done
overflow_mul-done c =
    let many = length-moves c.args.moves.now.named c.args.moves.now.tail.now 0 c.args.moves.now.count in
    omega (arith, c.loop-done.invariant.0, latest_few (all_moves c.args.moves.now), many)

pub make_window-done-requires : goal.make_window-done-requires
make_window-done-requires c =
    let ms = all_moves c.args.moves.now in
    let many = length-moves c.args.moves.now.named c.args.moves.now.tail.now 0 c.args.moves.now.count in
    let on = counted_on ms c.loop-done.due c.loop-done.done.steps c.loop-done.done.windows c.loop-done.invariant.1 c.loop-done-test.true in
    record {
      k_nonzero = (omega arith, omega (arith, on, latest_few ms, many));
      due_nonzero = (omega (arith, c.loop-done.invariant.3.stretches), rw c.loop-done.invariant.3.stretches c.loop-done.invariant.3);
      counted = (
        c.loop-done.invariant.1,
        windows_room ms c.args.buffer.now c.requires.k_nonzero.1 c.loop-done.buffer c.loop-done.done.next c.loop-done.done.windows
            c.loop-done.invariant.2 on,
      );
    }

pub loop-done-smaller : goal.loop-done-smaller
loop-done-smaller c =
    omega (
      arith,
      c.make_window-done.ensures.windows_value.0,
      counted_on (all_moves c.args.moves.now) c.loop-done.due c.loop-done.done.steps c.loop-done.done.windows c.loop-done.invariant.1
          c.loop-done-test.true,
    )

pub loop-done-preserved : goal.loop-done-preserved
loop-done-preserved c =
    let ms = all_moves c.args.moves.now in
    let on = counted_on ms c.loop-done.due c.loop-done.done.steps c.loop-done.done.windows c.loop-done.invariant.1 c.loop-done-test.true in
    rw c.make_window-done.ensures.windows_value.0 (
      on,
      counted-later ms _ c.make_window-done.result.steps c.loop-done.done.windows c.make_window-done.ensures.windows_value.1,
      windows_more ms c.args.buffer.now c.requires.k_nonzero.1 c.loop-done.buffer c.loop-done.done.next c.loop-done.done.windows
          c.loop-done.invariant.2 on c.make_window-done.result.next _ c.make_window-done.ensures.wrote,
      rw (c.loop-done.invariant.3.stretches, c.make_window-done.ensures.windows_value.0) at c.make_window-done.ensures.windows_value.2,
    )

pub shape_of-book : goal.shape_of-book
shape_of-book c = c.loop-done.invariant.3.rows ∙ sym c.requires.due_nonzero.2.rows

pub shape_of-due : goal.shape_of-due
shape_of-due c = c.loop-done.invariant.3.stretches

pub shape_of-buffer : goal.shape_of-buffer
shape_of-buffer c =
    windows-length (all_moves c.args.moves.now) c.args.buffer.now c.requires.k_nonzero.1 c.loop-done.buffer c.loop-done.done.next
    c.loop-done.done.windows c.loop-done.invariant.2 c.loop-done.invariant.0

pub returns : goal.returns
returns c =
    let ms = all_moves c.args.moves.now in
    let all = counted_last ms c.loop-done.due c.loop-done.done.steps c.loop-done.done.windows c.loop-done.invariant.1
    c.loop-done-test.false in (
      all,
      windows-all ms c.args.buffer.now c.requires.k_nonzero.1 c.loop-done.buffer c.loop-done.done.next c.loop-done.done.windows
          c.loop-done.invariant.2 c.loop-done.invariant.0 (omega (arith, all, c.loop-done-test.false)),
    )
