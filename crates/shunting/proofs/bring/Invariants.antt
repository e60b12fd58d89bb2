-- `shunting::bring` meets its contract. The invariant: the way that the search found, and the records `Bringing` and `BringingBy`.
-- Assumes nothing.
use Rattle.sets.specs.Sets.{Has}
use Rattle.graph.specs.Rows.{row}
use Rattle.shunting.proofs.BringLaws.{Bringing, BringingBy, Sought}
use Rattle.shunting.proofs.bring.Given as goal

abbrev pub invariant-loop-k : goal.invariant-loop-k
invariant-loop-k l =
    Sought l.n l.rows (row l.initial.state.racks) (row l.at) l.region l.from l.to l.size
    × Bringing (Has l.region) (row l.at) l.from l.size (row l.initial.state.racks) (row l.state.racks) l.k
    × BringingBy (Has l.region) l.rows (row l.at) l.from l.k l.initial.state l.initial.log l.initial.tail l.state l.log l.tail
