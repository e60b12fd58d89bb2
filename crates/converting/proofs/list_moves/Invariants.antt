-- `converting::list_moves` meets its contract. The loop's invariant: the moves listed so far, and those of what is left, are the plan's.
-- Assumes nothing.
use mathlib.Core.Bool.{not}
use mathlib.Core.Path.{◌≡◌}
use Rattle.converting.proofs.ListingLaws.{Listing}
use Rattle.converting.proofs.list_moves.Given as goal

abbrev pub invariant-loop-j : goal.invariant-loop-j
invariant-loop-j l =
    Listing l.tail l.named l.k l.initial.racks l.initial.room l.racks l.room l.j × (l.other ≡ not l.named)
