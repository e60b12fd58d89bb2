-- `season_program::put_parallelism` meets its contract: its parts stand one behind another. Assumes nothing.
use Rattle.season_program.proofs.PrintedLaws.{label_fits, quotient_fits, newline_fits, parallelism_wrote}
use borrow.Author.Rules.{rules}
use Rattle.season_program.proofs.put_parallelism.Goals as goal

pub put_bytes-at-requires : goal.put_bytes-at-requires
put_bytes-at-requires c = search (label_fits, rules)

pub put_quotient-at-requires : goal.put_quotient-at-requires
put_quotient-at-requires c = search (quotient_fits, rules)

pub put_byte-requires : goal.put_byte-requires
put_byte-requires c = search (newline_fits, rules)

pub returns : goal.returns
returns c = search (parallelism_wrote, rules)
