-- `order::racks_sound` meets its contract: the starts and the goals, judged one after the other. Assumes nothing.
use Rattle.order.proofs.Layers.{starts_refused, goals-judged}
use Rattle.order.proofs.racks_sound.Goals as goal

pub returns : goal.returns
returns c =
    goals-judged c.args.tail.now c.args.n c.args.e c.args.m _ _ c.place_sound.result c.place_sound.ensures.value
    c.if-not-place_sound.false c.place_sound.ensures.table_after
    c.place_sound-2.result c.place_sound-2.ensures.value c.place_sound-2.ensures.table_after
