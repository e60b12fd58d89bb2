-- `shortening::shorten_in` meets its contract: its tables have room for the moves, and mark none at first. Assumes nothing.
use Rattle.cancelling.proofs.MarkLaws.{none_kept, room_for}
use Rattle.shortening.proofs.shorten_in.Goals as goal

pub mark_kept-requires : goal.mark_kept-requires
mark_kept-requires g c = record {
  room = (
    room_for g.row.WORDS g.row.BLOCKS g.row.GROUPS c.requires.tables.0 c.requires.tables.1 c.requires.tables.2,
    none_kept g.row.WORDS,
  );
}
