-- `text::put_moves` meets its contract. The loop's invariant: the moves from move j on are left to write. Assumes nothing.
use Prim.Native.Nat.{◌-◌, ◌+◌, ◌*◌}
use native.Mathlib.Omega.{arith}
use Rattle.field.specs.Bits.{pairs}
use Rattle.text.specs.Text.{move_text, moves_text}
use Rattle.writers.proofs.Parts.{next_fits, next-left, all_wrote}
use Rattle.text.proofs.Loops.{moves-first, moves_next, moves_none}
use Rattle.text.proofs.put_moves.Goals as goal

pub loop-j-init : goal.loop-j-init
loop-j-init c = moves-first c.args.moves.now c.args.count

pub put_move-next-requires : goal.put_move-next-requires
put_move-next-requires c =
    next_fits (move_text (c.pair_at-pair.result.first, c.pair_at-pair.result.second))
    (moves_text (pairs c.args.moves.now (12 * (c.loop-j.j + 1)) (c.args.count - (c.loop-j.j + 1))))
    (moves_next c.args.moves.now c.loop-j.j c.args.count c.pair_at-pair.ensures (omega arith)) c.requires.1
    c.loop-j.invariant

pub loop-j-preserved : goal.loop-j-preserved
loop-j-preserved c =
    next-left (move_text (c.pair_at-pair.result.first, c.pair_at-pair.result.second))
    (moves_text (pairs c.args.moves.now (12 * (c.loop-j.j + 1)) (c.args.count - (c.loop-j.j + 1))))
    (moves_next c.args.moves.now c.loop-j.j c.args.count c.pair_at-pair.ensures (omega arith))
    c.requires.1 c.loop-j.invariant c.put_move-next.ensures

pub shape_of-out : goal.shape_of-out
shape_of-out c = c.loop-j.invariant.length_same

pub returns : goal.returns
returns c =
    all_wrote (moves_none c.args.moves.now c.loop-j.j c.args.count (omega arith)) c.loop-j.invariant
