-- `passing::pass_plan` meets its contract. The loop's invariant: the first i stretches are passed or left out. Assumes nothing.
use lib.ListN.{length}
use Rattle.window.specs.Rows.{KeepsLeft}
use Rattle.passing.proofs.Stretching.{Through}
use Rattle.passing.proofs.pass_plan.Given as goal

abbrev pub invariant-loop-i : goal.invariant-loop-i
invariant-loop-i l =
    Through l.moves.named l.moves.tail.now l.moves.count (length l.initial.due) l.first l.initial.due l.i l.from l.book l.due l.window
    l.greatest × KeepsLeft l.initial.window l.initial.leaving l.window l.leaving
