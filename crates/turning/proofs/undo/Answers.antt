-- `turning::undo` meets its contract. The invariant is the record `Taking`.
-- Assumes nothing.
use native.Mathlib.Omega.{arith}
use Rattle.turning.proofs.UndoLaws.{taking_begin, taking_skip, taking_move, taking_space, taking_end}
use Rattle.turning.proofs.undo.Goals as goal

pub loop-i-init : goal.loop-i-init
loop-i-init c = taking_begin _ _ _ _ _ c.requires.entries.ordered

pub move_rack-requires-clause-space : goal.move_rack-requires-clause-space
move_rack-requires-clause-space c = taking_space c.loop-i.invariant (omega arith) c.requires.undoable c.requires.space

pub loop-i-preserved-then-state-b-ne0 : goal.loop-i-preserved-then-state-b-ne0
loop-i-preserved-then-state-b-ne0 c =
    taking_move c.loop-i.invariant (omega arith) c.first_of-a.ensures c.second_of-b.ensures (λ z. omega arith)
    c.requires.undoable c.requires.space (omega arith) (omega arith) c.move_rack.ensures.moved

pub loop-i-preserved : goal.loop-i-preserved
loop-i-preserved c = taking_skip c.loop-i.invariant (omega arith) c.first_of-a.ensures c.second_of-b.ensures (omega arith)

pub returns : goal.returns
returns c = taking_end c.loop-i.invariant (omega arith)
