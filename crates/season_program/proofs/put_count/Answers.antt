-- `season_program::put_count` meets its contract: its parts stand one behind another. Assumes nothing.
use Rattle.season_program.proofs.PrintedLaws.{word_fits, number_fits, end_fits, line_wrote}
use borrow.Author.Rules.{rules}
use Rattle.season_program.proofs.put_count.Goals as goal

pub put_bytes-at-requires : goal.put_bytes-at-requires
put_bytes-at-requires c = search (word_fits, rules)

pub put_decimal-at-requires : goal.put_decimal-at-requires
put_decimal-at-requires c = search (number_fits, rules)

pub put_byte-requires : goal.put_byte-requires
put_byte-requires c = search (end_fits, rules)

pub returns : goal.returns
returns c = search (line_wrote, rules)
