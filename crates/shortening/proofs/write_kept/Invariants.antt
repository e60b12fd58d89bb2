-- `shortening::write_kept` meets its contract. The loop's invariant: the kept ones of the moves passed are written. Assumes nothing.
use Prim.Native.Nat.{◌-◌, ◌≤◌}
use mathlib.Core.List.{[]}
use mathlib.Core.Path.{◌≡◌}
use lib.ListN.{length}
use Rattle.cancelling.specs.Stack.{laid}
use Rattle.cancelling.specs.Looking.{listing, stack_of, Packed}
use Rattle.shortening.proofs.write_kept.Given as goal

abbrev pub invariant-loop-i : goal.invariant-loop-i
invariant-loop-i l =
    (l.i ≤ l.moves.count) × (length l.room ≡ length l.initial.room) × Packed l.moves.named l.initial.room
    (laid (stack_of (listing l.moves) l.marks l.i) []) l.count l.room

abbrev pub decreases-loop-i : goal.decreases-loop-i
decreases-loop-i l = l.moves.count - l.i
