-- `shunting::vacancies` meets its contract.
-- Assumes nothing.
use native.Mathlib.Omega.{arith}
use Rattle.shunting.proofs.ClearLaws.{vacant_none, vacant-all}
use Rattle.shunting.proofs.vacancies.Goals as goal

pub loop-p-init : goal.loop-p-init
loop-p-init c = vacant_none _

pub returns : goal.returns
returns c = vacant-all _ c.loop-p.p _ _ (omega arith) c.loop-p.invariant
