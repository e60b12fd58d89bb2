-- `season::report` meets its contract. The loop's invariant, `Left`: what is left is answered as the season is. Assumes nothing.
use Prim.Native.Nat.{◌-◌}
use lib.ListN.{length}
use Rattle.season.proofs.SeasonLaws.{Left}
use Rattle.season.proofs.report.Given as goal

abbrev pub invariant-loop-at : goal.invariant-loop-at
invariant-loop-at l = Left l.bytes l.totals l.pairs l.at

abbrev pub decreases-loop-at : goal.decreases-loop-at
decreases-loop-at l = length l.bytes - l.at
