-- `plan_program::plan_program` meets its contract: what the planner answers and leaves is what is printed. Assumes nothing.
use native.Mathlib.Omega.{arith}
use Rattle.writers.proofs.LineLaws.{refusal_fits}
use Rattle.planner.proofs.PlannerLaws.{moves_few}
use Rattle.plan_program.proofs.PrintedLaws.{made_printed, refused_printed}
use Rattle.plan_program.proofs.plan_program.Goals as goal

pub overflow_mul-result : goal.overflow_mul-result
overflow_mul-result c = let few = moves_few c.in-Ok.ensures in
    omega arith

pub overflow_add-result : goal.overflow_add-result
overflow_add-result c = let few = moves_few c.in-Ok.ensures in
    omega arith

pub overflow_add-result-in-Ok : goal.overflow_add-result-in-Ok
overflow_add-result-in-Ok c = let few = moves_few c.in-Ok.ensures in
    omega arith

pub put_refusal-requires : goal.put_refusal-requires
put_refusal-requires c = refusal_fits _ _ (omega arith) (omega arith) _ (omega arith)

pub returns-in-Ok : goal.returns-in-Ok
returns-in-Ok c = made_printed (omega arith) c.in-Ok.ensures (omega arith)

pub returns-in-Err : goal.returns-in-Err
returns-in-Err c = refused_printed (omega arith) c.in-Err.ensures (rw c.number.ensures at c.put_refusal.ensures) (omega arith)
