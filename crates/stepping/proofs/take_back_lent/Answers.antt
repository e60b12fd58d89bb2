-- `stepping::take_back_lent` meets its contract: the lent step is read, turned round, judged and made. Assumes nothing.
use mathlib.Core.Path.{◌∙◌, ap, sym, subst}
use Rattle.order.specs.Order.{floor_of}
use Rattle.motion.specs.StepTests.{EnteredOnce}
use Rattle.motion.specs.TurnedStep.{turned_step}
use Rattle.stepping.specs.Judging.{legal_on, ran_here}
use Rattle.stepping.proofs.Steps.{lent_leads, lent_once}
use Rattle.stepping.proofs.Lending.{lent_readable}
use Rattle.stepping.proofs.take_back_lent.Goals as goal

pub read_lent-step-requires : goal.read_lent-step-requires
read_lent-step-requires c = lent_readable c.args.order.now c.args.timetable.now c.args.number c.requires

pub turn_round-back-requires : goal.turn_round-back-requires
turn_round-back-requires c =
    subst EnteredOnce (sym c.read_lent-step.ensures) (lent_once c.args.order.now c.args.timetable.now c.args.number c.requires)

pub run_moves-requires : goal.run_moves-requires
run_moves-requires c = (lent_leads c.args.order.now c.args.timetable.now c.args.number c.requires).order_right

pub returns : goal.returns
returns c =
    let moves = c.turn_round-back.ensures ∙ ap turned_step c.read_lent-step.ensures in
    record {
      judged = c.run_moves.ensures.judged ∙ ap (legal_on (floor_of c.args.order.now) c.args.n c.args.racks.now) moves;
      made = c.run_moves.ensures.made ∙ ap (ran_here (floor_of c.args.order.now) c.args.n c.args.racks.now) moves;
    }
