-- `choosing::make_beside` meets its contract: the proved method's answer stays, or `take_better` is handed what stands in the buffer and
-- what stood there. Assumes nothing.
use native.Mathlib.Omega.{arith}
use Rattle.planner.proofs.PlannerLaws.{moves_few}
use Rattle.comparing.proofs.Improving.{heads_there}
use Rattle.comparing.proofs.Choices.{standing}
use Rattle.choosing.proofs.make_beside.Goals as goal

pub overflow_mul-length : goal.overflow_mul-length
overflow_mul-length c = omega (arith, moves_few c.in_ok-k.ensures)

pub overflow_add-length : goal.overflow_add-length
overflow_add-length c = omega (arith, moves_few c.in_ok-k.ensures)

pub overflow_add-length-2 : goal.overflow_add-length-2
overflow_add-length-2 c = omega (arith, moves_few c.in_ok-k.ensures)

pub counts_of-n-requires : goal.counts_of-n-requires
counts_of-n-requires c =
    let there = standing c.in_ok-k.ensures in
    (heads_there c.args.order.now there.plan _ there.checked).1
