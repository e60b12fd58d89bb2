-- `cancelling::look_back` meets its contract. The loop's invariant: from the index that is reached on no kept move touches a position of
-- `ends`, and the sets still cover what is kept. Assumes nothing.
use Prim.Native.Nat.{◌≤◌}
use mathlib.Core.Path.{◌≡◌}
use lib.ListN.{length}
use Rattle.cancelling.specs.Looking.{listing, ClearFrom, Looked}
use Rattle.cancelling.proofs.look_back.Given as goal

abbrev pub invariant-loop-at : goal.invariant-loop-at
invariant-loop-at l =
    (l.at ≤ l.from) × Looked (listing l.moves) l.marks l.blocks l.groups × ClearFrom (listing l.moves) l.marks l.ends l.at
    × (length l.blocks ≡ length l.initial.blocks) × (length l.groups ≡ length l.initial.groups)

abbrev pub decreases-loop-at : goal.decreases-loop-at
decreases-loop-at l = l.at
