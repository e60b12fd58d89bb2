-- `chains::all_led` meets its contract. The loop's invariant: what is left to judge decides, and the marks are lengths of trains. Assumes
-- nothing.
use native.Mathlib.Omega.{arith}
use Rattle.chains.proofs.Moves.{moves_at}
use Rattle.chains.proofs.Following.{leading_first, leading_chain, not_led, too_long, leading_next, leading_last}
use Rattle.chains.proofs.all_led.Goals as goal

pub loop-x-init : goal.loop-x-init
loop-x-init c = leading_first c.args.step.now c.args.target.now c.args.racks.now _ c.mark_leaders.ensures c.requires.each

pub train_length-requires-clause-chain : goal.train_length-requires-clause-chain
train_length-requires-clause-chain c =
    leading_chain c.args.step.now c.args.target.now c.args.racks.now c.requires.few c.requires.targets c.loop-x.marks c.loop-x.x-index _
    c.loop-x.invariant

pub returns-in_default : goal.returns-in_default
returns-in_default c =
    not_led c.args.step.now c.args.target.now c.args.racks.now c.requires.few c.requires.targets c.loop-x.marks c.loop-x.x-index _ _
    c.loop-x.invariant
    (moves_at c.args.step.now c.loop-x.x-index _ _ (omega arith) c.first_of-a.ensures c.second_of-b.ensures) c.in_default.ensures

pub returns-then-moves-gt-LONGEST : goal.returns-then-moves-gt-LONGEST
returns-then-moves-gt-LONGEST c =
    too_long c.args.step.now c.args.target.now c.args.racks.now c.requires.few c.requires.targets c.loop-x.marks c.loop-x.x-index _ _
    c.loop-x.invariant
    (moves_at c.args.step.now c.loop-x.x-index _ _ (omega arith) c.first_of-a.ensures c.second_of-b.ensures) _ _ c.in-Some.ensures
    c.if-moves-gt-LONGEST.true

pub loop-x-preserved : goal.loop-x-preserved
loop-x-preserved c =
    leading_next c.args.step.now c.args.target.now c.args.racks.now c.requires.few c.requires.targets c.loop-x.marks c.loop-x.x-index _ _
    c.loop-x.invariant
    (moves_at c.args.step.now c.loop-x.x-index _ _ (omega arith) c.first_of-a.ensures c.second_of-b.ensures) _ _ c.in-Some.ensures
    c.if-moves-gt-LONGEST.false (omega arith)

pub returns : goal.returns
returns c = leading_last c.args.step.now c.args.target.now c.args.racks.now c.loop-x.marks c.loop-x.x-index c.loop-x.invariant (omega arith)
