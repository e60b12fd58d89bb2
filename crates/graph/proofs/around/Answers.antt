-- `graph::around` meets its contract. The invariant is the record `Around`; each turn takes one position from the rest.
-- Assumes nothing.
use Rattle.sets.proofs.CountLaws.{ones-without}
use Rattle.graph.proofs.LevelLaws.{around_begin, around-next, around_end}
use Rattle.graph.proofs.around.Goals as goal

pub loop-rest-init : goal.loop-rest-init
loop-rest-init c = around_begin _ c.requires _

pub loop-rest-smaller : goal.loop-rest-smaller
loop-rest-smaller c = ones-without _ _ _ c.lowest-w.ensures.has c.without-rest.ensures

pub loop-rest-preserved : goal.loop-rest-preserved
loop-rest-preserved c =
    around-next _ c.requires _ _ _ _ _ c.lowest-w.ensures.has c.without-rest.ensures c.loop-rest.invariant

pub returns : goal.returns
returns c = around_end _ c.requires _ _ _ c.loop-rest-test.false c.loop-rest.invariant
