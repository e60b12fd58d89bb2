-- `choosing::list` meets its contract: the room keeps its length.
-- Assumes nothing.
use borrow.Author.Rules.{rules}
use Rattle.field.specs.Listed.{move_size}
use Rattle.choosing.proofs.list.Goals as goal

pub put_listed-requires : goal.put_listed-requires
unfolding move_size
put_listed-requires c = search rules
