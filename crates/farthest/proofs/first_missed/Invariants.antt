-- `farthest::first_missed` meets its contract. The loop's invariant: the balls of the positions before it are full.
-- Assumes nothing.
use Prim.Native.Nat.{ℕ, ◌<◌}
use lib.ListN.{get_or}
use Rattle.sets.specs.Sets.{Has}
use Rattle.farthest.proofs.first_missed.Given as goal

abbrev pub invariant-loop-start : goal.invariant-loop-start
invariant-loop-start l = (x v : ℕ) → x < l.start → v < l.n → Has (get_or l.balls x 0) v
