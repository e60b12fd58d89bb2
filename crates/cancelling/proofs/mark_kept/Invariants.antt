-- `cancelling::mark_kept` meets its contract. The loop's invariant: the pass has come to the next move. Assumes nothing.
use Rattle.cancelling.specs.Looking.{listing, Going}
use Rattle.cancelling.proofs.mark_kept.Given as goal

abbrev pub invariant-loop-j : goal.invariant-loop-j
invariant-loop-j l = Going (listing l.moves) l.j l.marks l.blocks l.groups l.bounds l.lefts l.enters
