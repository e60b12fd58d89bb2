-- `passing::pass_plan` meets its contract. The loop's invariant: the first i stretches are passed or left out. Assumes nothing.
use native.Mathlib.Omega.{arith}
use native.Mathlib.Nat.{div-le_self}
use lib.ListN.{length}
use Rattle.passing.proofs.StretchLaws.{end_few}
use Rattle.passing.proofs.Stretching.{through_first, through_skip, through_early, through_pass, through_last}
use Rattle.passing.proofs.pass_plan.Goals as goal
use Rattle.passing.proofs.pass_plan.Goals.{then-due-i, else-due-i}

pub loop-i-init : goal.loop-i-init
loop-i-init c = (
  rw c.requires.window_value
      (through_first c.args.moves.now.named c.args.moves.now.tail.now c.args.moves.now.count
      (length c.args.due.now) c.args.first c.args.due.now c.args.book.now
      c.requires.due_nonzero.1),
  λ left. left,
)

pub overflow_add-from : goal.overflow_add-from
overflow_add-from c =
    omega (
      arith,
      c.loop-i.invariant.0.from_is,
      end_few c.args.moves.now.count (length c.args.due.now) c.loop-i.i,
      div-le_self c.args.moves.now.count (length c.args.due.now),
    )

pub fill-found-requires-clause-from_le_end : goal.fill-found-requires-clause-from_le_end
fill-found-requires-clause-from_le_end c = (
  omega (arith, c.loop-i.invariant.0.from_is, end_few c.args.moves.now.count (length c.args.due.now) c.loop-i.i),
  omega arith,
  omega arith,
)

pub fill-found-requires-clause-early : goal.fill-found-requires-clause-early
fill-found-requires-clause-early c =
    through_early c.args.moves.now.named c.args.moves.now.tail.now c.args.moves.now.count
    (length c.args.due.now) c.args.first c.args.due.now
    c.loop-i.i c.loop-i.from c.loop-i.book c.loop-i.due c.loop-i.window c.loop-i.greatest c.loop-i.invariant.0 (omega arith)

pub loop-i-preserved : goal.loop-i-preserved
loop-i-preserved c = elim c.if-due-i.branch [
  | then-due-i w ↦
      rw (w.book-is, w.due-is, w.window-is, w.leaving-is, w.greatest-is, w.max-greatest.ensures) (
        through_pass c.args.moves.now.named c.args.moves.now.tail.now c.args.moves.now.count
            (length c.args.due.now) c.args.first c.args.due.now
            c.loop-i.i c.loop-i.from c.loop-i.book c.loop-i.due c.loop-i.window c.loop-i.greatest c.loop-i.invariant.0 (omega arith)
            c.min-end.result w.fill-found.result.greatest w.fill-found.result.due w.fill-found.new.row w.fill-found.new.window
            c.min-end.ensures w.fill-found.ensures.pass_made,
        λ left. w.fill-found.ensures.keeps_left (c.loop-i.invariant.1 left),
      )
  | else-due-i w ↦
      rw (w.book-is, w.due-is, w.window-is, w.leaving-is, w.greatest-is, c.min-end.ensures) (
        through_skip c.args.moves.now.named c.args.moves.now.tail.now c.args.moves.now.count
            (length c.args.due.now) c.args.first c.args.due.now
            c.loop-i.i c.loop-i.from c.loop-i.book c.loop-i.due c.loop-i.window c.loop-i.greatest c.loop-i.invariant.0 (omega arith)
            w.if-due-i.false,
        c.loop-i.invariant.1,
      )
]

pub returns-clause-plan_passed : goal.returns-clause-plan_passed
returns-clause-plan_passed c = through_last c.args.moves.now.named c.args.moves.now.tail.now c.args.moves.now.count
    (length c.args.due.now) c.args.first c.args.due.now
    c.loop-i.i c.loop-i.from c.loop-i.book c.loop-i.due
    c.loop-i.window c.loop-i.greatest c.loop-i.invariant.0 (omega arith) (omega arith)
