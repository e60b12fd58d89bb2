-- `plan_check::replay` meets its contract. The loop's invariant: what is left to replay decides. Assumes nothing.
use Rattle.plan_check.proofs.Turns.{MovesLeft}
use Rattle.plan_check.proofs.replay.Given as goal

abbrev pub invariant-loop-j : goal.invariant-loop-j
invariant-loop-j l = MovesLeft l.tail l.named l.k l.matrix l.initial.racks l.racks l.j
