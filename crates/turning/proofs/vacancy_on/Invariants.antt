-- `turning::vacancy_on` meets its contract. The invariant: what is left of the search finds what the whole of it finds.
-- Assumes nothing.
use mathlib.Core.Path.{◌≡◌}
use Rattle.breakdown.specs.Part.{place_of}
use Rattle.graph.specs.Rows.{row}
use Rattle.turning.proofs.vacancy_on.Given as goal

abbrev pub invariant-loop-i : goal.invariant-loop-i
invariant-loop-i l =
    place_of (λ j. row l.racks (row l.cycle j)) l.i l.size 0 ≡ place_of (λ j. row l.racks (row l.cycle j)) 0 l.size 0
