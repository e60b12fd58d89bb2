-- `scheduling::make_windows` meets its contract. The loop's invariant: the steps of the windows passed are written, and the book and the
-- due steps tell where the next ones are found. Assumes nothing.
use Prim.Native.Nat.{◌≤◌, ◌-◌, ◌+◌, ◌*◌, ◌/◌}
use lib.ListN.{length}
use Rattle.field.specs.PlanMoves.{all_moves}
use Rattle.window.specs.Filling.{latest}
use Rattle.passing.specs.Stretches.{Kept}
use Rattle.scheduling.specs.Windows.{Counted}
use Rattle.scheduling.proofs.Windowing.{WroteWindows}
use Rattle.scheduling.proofs.make_windows.Given as goal

abbrev pub invariant-loop-done : goal.invariant-loop-done
invariant-loop-done l =
    let ms = all_moves l.moves in
    (l.done.windows ≤ latest ms / 4096 + 1) × Counted ms l.due l.done.steps l.done.windows
    × WroteWindows ms l.initial.buffer l.buffer l.done.next l.done.windows × Kept l.moves.named l.moves.tail.now l.moves.count
    (length l.initial.due) (4096 * l.done.windows) l.book l.due

abbrev pub decreases-loop-done : goal.decreases-loop-done
decreases-loop-done l = latest (all_moves l.moves) / 4096 + 1 - l.done.windows
