-- `cancelling::take_move` meets its contract: `MarkLaws` has what a move that cancels and a move that is kept make of the pass.
-- Assumes nothing.
use Rattle.cancelling.proofs.MarkLaws.{going_off, going_on}
use Rattle.cancelling.proofs.take_move.Goals as goal

pub returns-in-Some : goal.returns-in-Some
returns-in-Some c f met going =
    let undone = rw c.in-Some.is at met.undone in
    rw c.take_off.ensures.bounds_after
    (going_off _ _ _ met.both f c.args.next.index _ _ _ _ _ _ going met.is c.args.next.found met.found
    (c.requires.1.first_below, c.requires.1.second_below) c.in-Some.gone undone.0 undone.1 _ c.take_off.ensures.unmarks)

pub returns-in-None : goal.returns-in-None
returns-in-None c f met going =
    let undone = rw c.in-None.is at met.undone in
    rw (c.put_links.ensures.bounds_after, c.put_links.ensures.lefts_after.0, c.put_links.ensures.lefts_after.1)
    (going_on _ _ _ met.both f c.args.next.index _ _ _ _ _ _ going met.is c.args.next.found met.found
    (c.requires.1.first_below, c.requires.1.second_below) undone _ _ _ c.put_on.ensures.marks
    c.put_on.ensures.takes_in.0 c.put_on.ensures.takes_in.1)
