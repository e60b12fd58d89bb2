-- `chains::note_moves` meets its contract. The loop's invariant: what is left to judge and to note decides. Assumes nothing.
use native.Mathlib.Omega.{arith}
use Rattle.chains.proofs.Moves.{moves_at}
use Rattle.chains.proofs.Noting.{noting_first, MoveTold, move-told, noting_last}
use Rattle.chains.proofs.note_moves.Goals as goal
use Rattle.chains.proofs.note_moves.Goals.{After-second_of-b}

-- what the tests of this turn tell
told : (c : After-second_of-b)
    → MoveTold c.args.matrix.now c.args.racks.now c.args.step.now c.args.target.now c.loop-x.lowest c.loop-x.entered c.loop-x.target
    c.loop-x.x-index
    c.first_of-a.result c.second_of-b.result
told c =
    move-told c.args.matrix.now c.args.racks.now c.args.step.now c.args.target.now c.loop-x.lowest c.loop-x.entered c.loop-x.target
    c.loop-x.x-index _ _ c.loop-x.invariant.1
    (moves_at c.args.step.now c.loop-x.x-index _ _ (omega arith) c.first_of-a.ensures c.second_of-b.ensures)

pub loop-x-init : goal.loop-x-init
loop-x-init c = (omega arith, noting_first c.args.matrix.now c.args.racks.now c.args.step.now c.args.target.now)

pub returns-then-a-lowest : goal.returns-then-a-lowest
returns-then-a-lowest c =
    let all = (told (goal.at.returns-then-a-lowest c).After-second_of-b).not_ascending (omega arith) in
    record { sound = all.0; all = all.1 }

pub returns-then-matrix-a-eq0 : goal.returns-then-matrix-a-eq0
returns-then-matrix-a-eq0 c =
    let all = (told (goal.at.returns-then-matrix-a-eq0 c).After-second_of-b).no_edge c.if-matrix-a-eq0.true in
    record { sound = all.0; all = all.1 }

pub returns-then-racks-a-eq0 : goal.returns-then-racks-a-eq0
returns-then-racks-a-eq0 c =
    let all = (told (goal.at.returns-then-racks-a-eq0 c).After-second_of-b).no_rack c.if-racks-a-eq0.true in
    record { sound = all.0; all = all.1 }

pub returns-then-entered-b-ne0 : goal.returns-then-entered-b-ne0
returns-then-entered-b-ne0 c =
    let all = (told (goal.at.returns-then-entered-b-ne0 c).After-second_of-b).entered_twice c.if-entered-b-ne0.true in
    record { sound = all.0; all = all.1 }

pub loop-x-preserved : goal.loop-x-preserved
loop-x-preserved c =
    let next = (told (goal.at.loop-x-preserved c).After-second_of-b).sound (omega arith) c.if-matrix-a-eq0.false c.if-racks-a-eq0.false
    c.if-entered-b-ne0.false in
    (omega arith, next)

pub returns : goal.returns
returns c =
    let all = noting_last c.args.matrix.now c.args.racks.now c.args.step.now c.args.target.now c.loop-x.lowest c.loop-x.entered
    c.loop-x.target c.loop-x.x-index
    c.loop-x.invariant.1 (omega arith) in
    record { sound = all.0; all = all.1 }
