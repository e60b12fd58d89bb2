-- `stepping::all_known` meets its contract. The loop's invariant: whether the moves left name known positions decides. Assumes nothing.
use Rattle.stepping.proofs.Knowing.{Knowing}
use Rattle.stepping.proofs.all_known.Given as goal

abbrev pub invariant-loop-x : goal.invariant-loop-x
invariant-loop-x l = Knowing l.n l.step l.x-index
