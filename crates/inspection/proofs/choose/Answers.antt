-- `inspection::choose` meets its contract. Assumes nothing.
use native.Mathlib.Omega.{arith}
use Rattle.inspection.proofs.ToldLaws.{chosen-first, chosen-second, chosen_third}
use Rattle.inspection.proofs.choose.Goals as goal

pub returns-in-0 : goal.returns-in-0
returns-in-0 c = chosen-first _ _ _ _ c.in-0.is

pub returns-in-1 : goal.returns-in-1
returns-in-1 c = chosen-second _ _ _ _ (λ z. omega arith) c.in-1.is

pub returns-in_default : goal.returns-in_default
returns-in_default c = chosen_third _ _ _ _ (λ z. omega arith) (λ z. omega arith)
