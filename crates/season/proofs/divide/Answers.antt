-- `season::divide` meets its contract. Assumes nothing.
use borrow.Author.Rules.{rules}
use Rattle.season.specs.Season.{parallelism}
use Rattle.season.proofs.SeasonLaws.{parallelism_of}
use Rattle.season.proofs.divide.Goals as goal

pub returns-then-steps-eq0 : goal.returns-then-steps-eq0
unfolding parallelism
returns-then-steps-eq0 c = search rules

pub returns : goal.returns
returns c = parallelism_of c.args.steps c.args.moves (search rules)
