-- `stepping::run_lent` meets its contract: the lent step is read, judged and made. Assumes nothing.
use Rattle.stepping.proofs.Steps.{lent_leads}
use Rattle.stepping.proofs.Lending.{lent_readable}
use Rattle.stepping.proofs.run_lent.Goals as goal

pub read_lent-step-requires : goal.read_lent-step-requires
read_lent-step-requires c = lent_readable c.args.order.now c.args.timetable.now c.args.number c.requires

pub run_moves-requires : goal.run_moves-requires
run_moves-requires c = (lent_leads c.args.order.now c.args.timetable.now c.args.number c.requires).order_right
