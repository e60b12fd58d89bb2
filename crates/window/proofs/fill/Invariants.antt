-- `window::fill` meets its contract. The loop's invariant: what is left to pass decides the pass at the end. Assumes nothing.
use Rattle.window.specs.Rows.{KeepsLeft}
use Rattle.window.proofs.Passing.{ToPass}
use Rattle.window.proofs.fill.Given as goal

abbrev pub invariant-loop-j : goal.invariant-loop-j
invariant-loop-j l =
    ToPass l.moves.tail.now l.moves.named l.from l.end l.first l.initial.row l.initial.window l.row l.window l.greatest
    l.due l.j × KeepsLeft l.initial.window l.initial.leaving l.window l.leaving
