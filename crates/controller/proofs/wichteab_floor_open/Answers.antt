-- `controller::wichteab_floor_open` meets its contract, with the role that the number names. Assumes nothing.
use Rattle.live.specs.Roles.{opening}
use Rattle.controller.proofs.LiveCalls.{floor_called}
use Rattle.controller.proofs.wichteab_floor_open.Goals as goal

pub returns : goal.returns
returns c = floor_called opening _ _ _ c.from.ensures (c.open.ensures.answer, c.open.ensures.picture) c.floor_counted.ensures
