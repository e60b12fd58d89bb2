-- `breakdown::choose_ring_at` meets its contract. The invariant: of the pairs that begin at a, those that go on to none of `rest` are done,
-- and `rest` has positions beside a alone.
-- Assumes nothing.
use Prim.Native.Nat.{ℕ}
use lib.Count.{ones}
use Rattle.sets.specs.Sets.{Has}
use Rattle.graph.specs.Rows.{Edge}
use Rattle.breakdown.proofs.ChoiceFacts.{Upto}
use Rattle.breakdown.specs.Choice.{Chosen, RingChoice}
use Rattle.breakdown.proofs.choose_ring_at.Given as goal

abbrev pub invariant-loop-rest : goal.invariant-loop-rest
invariant-loop-rest l =
    Chosen (RingChoice l.n l.rows (Upto l.a l.rest)) l.best × ((y : ℕ) → Has l.rest y → Edge l.rows l.a y)

abbrev pub decreases-loop-rest : goal.decreases-loop-rest
decreases-loop-rest l = ones l.rest
