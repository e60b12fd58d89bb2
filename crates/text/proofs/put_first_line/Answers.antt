-- `text::put_first_line` meets its contract: its parts stand one behind another. Assumes nothing.
use Rattle.text.proofs.TextLaws.{steps_fit, step_count_fits, word_fits, move-count_fits, end_fits, first_wrote}
use borrow.Author.Rules.{rules}
use Rattle.text.proofs.put_first_line.Goals as goal

pub put_bytes-at-requires : goal.put_bytes-at-requires
put_bytes-at-requires c = search (steps_fit, rules)

pub put_decimal-at-requires : goal.put_decimal-at-requires
put_decimal-at-requires c = search (step_count_fits, rules)

pub put_bytes-at-requires-2 : goal.put_bytes-at-requires-2
put_bytes-at-requires-2 c = search (word_fits, rules)

pub put_decimal-at-requires-2 : goal.put_decimal-at-requires-2
put_decimal-at-requires-2 c = search (move-count_fits, rules)

pub put_byte-requires : goal.put_byte-requires
put_byte-requires c = search (end_fits, rules)

pub returns : goal.returns
returns c =
    first_wrote _ _ c.requires c.put_bytes-at.ensures c.put_decimal-at.ensures c.put_bytes-at-2.ensures
    c.put_decimal-at-2.ensures c.put_byte.ensures
