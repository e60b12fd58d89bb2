-- `season_program::put_counts` meets its contract: its lines stand one behind another. Assumes nothing.
use Rattle.season_program.proofs.PrintedLaws.{accepted_fits, refused_fits, steps_fits, moves_fits, counts_wrote}
use borrow.Author.Rules.{rules}
use Rattle.season_program.proofs.put_counts.Goals as goal

pub put_count-at-requires : goal.put_count-at-requires
put_count-at-requires c = search (accepted_fits, rules)

pub put_count-at-requires-2 : goal.put_count-at-requires-2
put_count-at-requires-2 c = search (refused_fits, rules)

pub put_count-at-requires-3 : goal.put_count-at-requires-3
put_count-at-requires-3 c = search (steps_fits, rules)

pub put_count-requires : goal.put_count-requires
put_count-requires c = search (moves_fits, rules)

pub returns : goal.returns
returns c = search (counts_wrote, rules)
