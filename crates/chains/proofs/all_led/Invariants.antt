-- `chains::all_led` meets its contract. The loop's invariant: what is left to judge decides, and the marks are lengths of trains. Assumes
-- nothing.
use Rattle.chains.proofs.Following.{Leading}
use Rattle.chains.proofs.all_led.Given as goal

abbrev pub invariant-loop-x : goal.invariant-loop-x
invariant-loop-x l = Leading l.step l.target l.racks l.marks l.x-index
