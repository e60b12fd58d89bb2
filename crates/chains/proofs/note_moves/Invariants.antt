-- `chains::note_moves` meets its contract. The loop's invariant: what is left to judge and to note decides. Assumes nothing.
use Prim.Native.Nat.{◌≤◌}
use Rattle.chains.proofs.Noting.{Noting}
use Rattle.chains.proofs.note_moves.Given as goal

abbrev pub invariant-loop-x : goal.invariant-loop-x
invariant-loop-x l = (l.lowest ≤ 64) × Noting l.matrix l.racks l.step l.initial.target l.lowest l.entered l.target l.x-index
