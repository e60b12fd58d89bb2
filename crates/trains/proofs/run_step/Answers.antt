-- `trains::run_step` meets its contract: read, then judged and made. Assumes nothing.
use mathlib.Core.Path.{sym, ◌∙◌, ap}
use borrow.Author.Tests.{leb-false}
use Rattle.field.specs.Bits.{pairs}
use Rattle.chains.specs.StepOn.{legal_step_on, ran_on}
use Rattle.trains.proofs.Running.{not_read, stays}
use Rattle.trains.proofs.run_step.Goals as goal

pub returns-then-not-read_moves : goal.returns-then-not-read_moves
returns-then-not-read_moves c =
    let many = leb-false c.args.c 64 (sym c.read_moves.ensures.few ∙ c.if-not-read_moves.true) in
    let is = not_read c.args.matrix.now c.args.racks.now c.args.moves.now c.args.c many in
    record {
      judged = is;
      made = stays c.args.matrix.now c.args.racks.now (pairs c.args.moves.now 0 c.args.c) (sym is);
    }

pub returns : goal.returns
returns c =
    let same = c.read_moves.ensures.all c.if-not-read_moves.false in
    record {
      judged = c.run_entries.ensures.judged ∙ ap (legal_step_on c.args.matrix.now c.args.racks.now) same;
      made = c.run_entries.ensures.made ∙ ap (ran_on c.args.matrix.now c.args.racks.now) same;
    }
