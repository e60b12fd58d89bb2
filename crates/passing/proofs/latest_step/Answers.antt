-- `passing::latest_step` meets its contract: the pass begins with empty tables. Assumes nothing.
use lib.ListN.{replicate}
use Rattle.window.specs.Filling.{empty_window}
use Rattle.window.proofs.FillingLaws.{early_begun, first-pass}
use Rattle.passing.proofs.latest_step.Goals as goal

pub fill-found-requires-clause-early : goal.fill-found-requires-clause-early
fill-found-requires-clause-early c = early_begun (replicate 262144 0)

pub returns : goal.returns
unfolding empty_window
returns c =
    first-pass c.args.moves.now.named c.args.moves.now.tail.now c.args.moves.now.count c.fill-found.result.greatest c.fill-found.result.due
    c.fill-found.new.row c.fill-found.new.window c.fill-found.ensures.pass_made
