-- `cancelling::mark_kept` meets its contract. Assumes nothing.
use Prim.Native.Nat.{ℕ, ◌+◌}
use mathlib.Core.Path.{sym, ap}
use Rattle.cancelling.specs.Looking.{listing}
use Rattle.cancelling.proofs.MarkLaws.{going_first, going_looked, going_at}
use Rattle.cancelling.proofs.mark_kept.Goals as goal

pub loop-j-init : goal.loop-j-init
loop-j-init c = going_first (listing c.args.moves.now) c.args.marks.now _ _ c.requires.room.1

pub loop-j-preserved : goal.loop-j-preserved
loop-j-preserved c =
    going_at (ap (λ (i : ℕ). i + 1) c.meet-next.ensures.index_value.0)
    (c.take_move.ensures _ c.meet-next.ensures.met
    (going_at (sym c.meet-next.ensures.index_value.0) (going_looked c.meet-next.ensures.looked_2 c.loop-j.invariant)))
