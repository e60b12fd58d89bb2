-- `turning::pass_on` meets its contract.
-- Assumes nothing.
use native.Mathlib.Omega.{arith}
use Rattle.moving.proofs.JourneyLaws.{journey_none, journey_more}
use Rattle.turning.proofs.pass_on.Goals as goal

pub returns-else-state-a-ne0-clause-journey_on : goal.returns-else-state-a-ne0-clause-journey_on
returns-else-state-a-ne0-clause-journey_on c = λ g e. journey_more 1 (omega arith) (journey_none _ _ _)
