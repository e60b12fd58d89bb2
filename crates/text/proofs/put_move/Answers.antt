-- `text::put_move` meets its contract: its parts stand one behind another. Assumes nothing.
use Rattle.text.proofs.TextLaws.{gap_fits, left_fits, arrow_fits, entered_fits, move_wrote}
use borrow.Author.Rules.{rules}
use Rattle.text.proofs.put_move.Goals as goal

pub put_byte-at-requires : goal.put_byte-at-requires
put_byte-at-requires c = search (gap_fits, rules)

pub put_decimal-at-requires : goal.put_decimal-at-requires
put_decimal-at-requires c = search (left_fits, rules)

pub put_byte-at-requires-2 : goal.put_byte-at-requires-2
put_byte-at-requires-2 c = search (arrow_fits, rules)

pub put_decimal-requires : goal.put_decimal-requires
put_decimal-requires c = search (entered_fits, rules)

pub returns : goal.returns
returns c = search (move_wrote, rules)
