-- `cancelling::meet` meets its contract: where the search begins, no kept move touches a position of the move that is read.
-- Assumes nothing.
use Rattle.cancelling.specs.Looking.{listing}
use Rattle.cancelling.proofs.LookingLaws.{move_is, found_later}
use Rattle.cancelling.proofs.MarkLaws.{ends_are, from_low}
use Rattle.cancelling.proofs.meet.Goals as goal

pub returns-clause-met : goal.returns-clause-met
returns-clause-met c =
    let both = ends_are _ _ c.only.result _ c.only.ensures c.with-ends.ensures in
    record {
      is = move_is _ _ _ _ _ c.at-step.ensures;
      ends = c.with-ends.result;
      both = both;
      found =
          found_later _ _ _
          (from_low _ _ _ both (listing c.args.moves.now) c.args.j _ _ c.requires.looked.1 c.max-from.result
          c.max-from.ensures)
          c.look_back-at.ensures.found;
      undone = c.undone.ensures;
    }
