-- `text::put_moves` meets its contract. The loop's invariant: the moves from move j on are left to write. Assumes nothing.
use Prim.Native.Nat.{◌-◌, ◌*◌}
use Rattle.field.specs.Bits.{pairs}
use Rattle.text.specs.Text.{moves_text}
use Rattle.field.proofs.WritingLaws.{Left}
use Rattle.text.proofs.put_moves.Given as goal

abbrev pub invariant-loop-j : goal.invariant-loop-j
invariant-loop-j l =
    Left l.initial.out l.at (moves_text (pairs l.moves 0 l.count)) l.out l.next
    (moves_text (pairs l.moves (12 * l.j) (l.count - l.j)))
