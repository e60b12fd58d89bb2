-- `controller::wichteab_floor_run` meets its contract, with the role that the number names. Assumes nothing.
use Rattle.live.specs.Roles.{running}
use Rattle.controller.proofs.LiveCalls.{floor_called}
use Rattle.controller.proofs.wichteab_floor_run.Goals as goal

pub returns : goal.returns
returns c = floor_called running _ _ _ c.from.ensures (c.run.ensures.answer, c.run.ensures.picture) c.floor_counted.ensures
