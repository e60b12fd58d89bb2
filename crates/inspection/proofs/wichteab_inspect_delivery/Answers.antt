-- `inspection::wichteab_inspect_delivery` meets its contract: the value of the call that is asked for. Assumes nothing.
use native.Mathlib.Omega.{arith}
use Rattle.inspection.proofs.ToldLaws.{told_planner, told_maker, told_checker}
use Rattle.inspection.proofs.wichteab_inspect_delivery.Goals as goal

pub returns-in-0 : goal.returns-in-0
returns-in-0 c = told_planner c.deliver-all.ensures.called c.in-0.is c.call_value.ensures

pub returns-in-1 : goal.returns-in-1
returns-in-1 c = told_maker c.deliver-all.ensures.called (λ z. omega arith) c.in-1.is c.call_value-in-1.ensures

pub returns-in_default : goal.returns-in_default
returns-in_default c =
    told_checker c.deliver-all.ensures.called (λ z. omega arith) (λ z. omega arith) c.call_value-in_default.ensures
