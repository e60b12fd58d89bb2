-- `window::fill` meets its contract. The loop's invariant: what is left to pass decides the pass at the end. Assumes nothing.
use native.Mathlib.Omega.{arith}
use Rattle.window.proofs.Passing.{pass-next, pass_last, turn_few}
use Rattle.window.proofs.fill.Goals as goal

pub overflow_cast-row-in-loop-j-2 : goal.overflow_cast-row-in-loop-j-2
overflow_cast-row-in-loop-j-2 c =
    let few = turn_few _ _ _ _ _ _ _ c.loop-j.invariant.0 c.at-step.result.first c.at-step.result.second
    (omega arith) in
    omega (arith, few, c.max-turn.ensures)

pub overflow_cast-row-in-loop-j-3 : goal.overflow_cast-row-in-loop-j-3
overflow_cast-row-in-loop-j-3 c =
    let few = turn_few _ _ _ _ _ _ _ c.loop-j.invariant.0 c.at-step.result.first c.at-step.result.second
    (omega arith) in
    omega (arith, few, c.max-turn.ensures)

pub loop-j-preserved : goal.loop-j-preserved
loop-j-preserved c = (
  pass-next c.args.moves.now.tail.now c.args.moves.now.named c.args.from c.args.end c.args.first c.args.row.now c.args.window.now
      c.loop-j.row c.loop-j.window c.loop-j.greatest
      c.loop-j.due c.loop-j.j c.loop-j.invariant.0 (omega arith) c.at-step.result.first
      c.at-step.result.second c.at-step.ensures.first_is
      c.at-step.ensures.second_is (omega arith) (omega arith) c.max-turn.result
      (omega (arith, c.max-turn.ensures)) _ c.enter-due.ensures.window_after.0
      c.max-greatest.result (omega (arith, c.max-greatest.ensures)) c.enter-due.result c.enter-due.ensures.window_after.1
      c.enter-due.ensures.window_after.2,
  λ left. c.enter-due.ensures.keeps_left (c.loop-j.invariant.1 left),
)

pub returns-clause-pass_made : goal.returns-clause-pass_made
returns-clause-pass_made c = pass_last c.args.moves.now.tail.now c.args.moves.now.named c.args.from c.args.end c.args.first c.args.row.now
    c.args.window.now c.loop-j.row c.loop-j.window c.loop-j.greatest
    c.loop-j.due c.loop-j.j c.loop-j.invariant.0 (omega arith)
