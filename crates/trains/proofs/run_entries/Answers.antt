-- `trains::run_entries` meets its contract: judged, then made. Assumes nothing.
use mathlib.Core.Path.{sym, ◌∙◌}
use Rattle.chains.specs.StepOn.{moves_of}
use Rattle.trains.proofs.Running.{stays, ran}
use Rattle.trains.proofs.run_entries.Goals as goal

pub returns-then-not-judge_entries : goal.returns-then-not-judge_entries
returns-then-not-judge_entries c =
    let no = c.if-not-judge_entries.true in
    let is = sym no ∙ c.judge_entries.ensures in
    record {
      judged = is;
      made = stays c.args.matrix.now c.args.racks.now (moves_of c.args.step.now) (sym is);
    }

pub returns : goal.returns
returns c =
    let yes = c.if-not-judge_entries.false in
    let is = sym yes ∙ c.judge_entries.ensures in
    record {
      judged = is;
      made = ran c.args.matrix.now c.args.racks.now (moves_of c.args.step.now) _ (sym is) c.make_step.ensures;
    }
