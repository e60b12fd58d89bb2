-- `timetable_check::run_part` meets its contract: the moves are read from the part that begins at the step's second byte. Assumes nothing.
use mathlib.Core.Path.{ap, ◌∙◌}
use native.Mathlib.Omega.{arith}
use lib.ListN.{get_or}
use Rattle.chains.specs.StepOn.{legal_step_on, ran_on}
use Rattle.timetable.proofs.StepLaws.{step_length-some}
use Rattle.timetable_check.proofs.Turns.{run_room, run_is}
use Rattle.timetable_check.proofs.run_part.Goals as goal

pub slice_bounds-run_step-count : goal.slice_bounds-run_step-count
slice_bounds-run_step-count c = omega (arith, step_length-some (get_or c.args.step.now 0 0))

pub slice_bounds-run_step-start : goal.slice_bounds-run_step-start
slice_bounds-run_step-start c = omega (arith, step_length-some (get_or c.args.step.now 0 0))

pub bounds-step-0 : goal.bounds-step-0
bounds-step-0 c = omega (arith, step_length-some (get_or c.args.step.now 0 0))

pub run_step-requires : goal.run_step-requires
run_step-requires c =
    run_room c.args.step.now c.from.result c.from.ensures c.requires

pub returns : goal.returns
returns c =
    let moves = run_is c.args.step.now c.from.result c.from.ensures in
    record {
      judged = c.run_step.ensures.judged ∙ ap (legal_step_on c.args.matrix.now c.args.racks.now) moves;
      made = c.run_step.ensures.made ∙ ap (ran_on c.args.matrix.now c.args.racks.now) moves;
    }
