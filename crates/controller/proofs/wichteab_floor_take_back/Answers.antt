-- `controller::wichteab_floor_take_back` meets its contract, with the role that the number names. Assumes nothing.
use Rattle.live.specs.Roles.{taking_back}
use Rattle.controller.proofs.LiveCalls.{floor_called}
use Rattle.controller.proofs.wichteab_floor_take_back.Goals as goal

pub returns : goal.returns
returns c = floor_called taking_back _ _ _ c.from.ensures (c.take_back.ensures.answer, c.take_back.ensures.picture) c.floor_counted.ensures
