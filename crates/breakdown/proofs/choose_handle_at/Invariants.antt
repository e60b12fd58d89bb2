-- `breakdown::choose_handle_at` meets its contract. The invariant: of the pairs that begin at u, those that go on to none of `rest` are
-- done, and to `rest` edges leave the settled positions from u.
-- Assumes nothing.
use Prim.Native.Nat.{ℕ}
use lib.Count.{ones}
use Rattle.sets.specs.Sets.{Has}
use Rattle.graph.specs.Rows.{Edge}
use Rattle.breakdown.specs.Choice.{Leaves, Chosen, HandleChoice}
use Rattle.breakdown.proofs.ChoiceFacts.{Upto}
use Rattle.breakdown.proofs.choose_handle_at.Given as goal

abbrev pub invariant-loop-rest : goal.invariant-loop-rest
invariant-loop-rest l =
    Chosen (HandleChoice l.n l.rows l.settled (Upto l.u l.rest)) l.best ×
    ((y : ℕ) → Has l.rest y → Leaves (Edge l.rows) l.settled l.u y)

abbrev pub decreases-loop-rest : goal.decreases-loop-rest
decreases-loop-rest l = ones l.rest
