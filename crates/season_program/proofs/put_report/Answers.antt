-- `season_program::put_report` meets its contract: its lines stand one behind another. Assumes nothing.
use Rattle.season_program.proofs.PrintedLaws.{counts_fit, last_fits, report_wrote}
use borrow.Author.Rules.{rules}
use Rattle.season_program.proofs.put_report.Goals as goal

pub put_counts-at-requires : goal.put_counts-at-requires
put_counts-at-requires c = search (counts_fit, rules)

pub put_parallelism-requires : goal.put_parallelism-requires
put_parallelism-requires c = search (last_fits, rules)

pub returns : goal.returns
returns c = search (report_wrote, rules)
