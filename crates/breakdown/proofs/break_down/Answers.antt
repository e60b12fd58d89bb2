-- `breakdown::break_down` meets its contract. On a bi-connected floor there is a ring to choose (`ExistLaws`), and one through every
-- position is the whole floor (`RingLaws`).
-- Assumes nothing.
use mathlib.Core.Path.{refl}
use native.Mathlib.Omega.{arith}
use Rattle.breakdown.proofs.AnswerLaws.{answer_of, answer_none}
use Rattle.breakdown.proofs.RingLaws.{ring-counts}
use Rattle.breakdown.proofs.ExistLaws.{ring_exists}
use Rattle.breakdown.proofs.break_down.Goals as goal

pub returns-in_err-pair : goal.returns-in_err-pair
returns-in_err-pair c =
    rw c.from_residual.ensures (answer_none refl (λ bi ring. ring_exists c.requires bi 0 0 0 c.in_err-pair.ensures refl))

pub returns-then-n-b : goal.returns-then-n-b
returns-then-n-b c =
    answer_none refl (λ bi ring. ring (record {
      bi_connected = bi;
      count = ring-counts _ _ _ _ _ _ c.requires c.lay_ring-b.ensures.building_of c.in_ok-pair.ensures.1
          c.lay_ring-b.ensures.ring_value (omega arith);
    }))

pub returns : goal.returns
returns c = answer_of c.requires c.add_handles.result c.add_handles.ensures
