-- `parity::is_contrary` meets its contract.
-- Assumes nothing.
use Rattle.parity.proofs.ContraryLaws.{contrary_on}
use Rattle.parity.proofs.is_contrary.Goals as goal

pub colour-requires : goal.colour-requires
colour-requires c = rw c.from.ensures (c.homes-left.ensures.small 0)

pub colour-requires-2 : goal.colour-requires-2
colour-requires-2 c = rw c.from-2.ensures (c.homes-reached.ensures.small 0)

pub returns : goal.returns
returns c =
    contrary_on _ _ _ _ _ c.change-sent.result _ _ _ _ c.homes-left.ensures c.homes-reached.ensures c.change-sent.ensures
    c.inversions.ensures.value (rw c.from.ensures at c.colour.ensures.value) (rw c.from-2.ensures at c.colour-2.ensures.value)
