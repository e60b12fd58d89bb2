-- `controller::wichteab_floor_read` meets its contract: a picture read, with the role that the number names. Assumes nothing.
use mathlib.Core.Path.{ap, ◌∙◌}
use Rattle.live.specs.Roles.{reading}
use Rattle.live.specs.Calls.{call_answer, by_answer}
use Rattle.live.specs.declared.Role.{Role}
use Rattle.controller.proofs.LiveCalls.{call-told}
use Rattle.controller.proofs.wichteab_floor_read.Goals as goal

pub returns : goal.returns
returns c = (
  call-told reading _ _ _ c.from.ensures c.read.ensures.answer c.floor_counted.ensures,
  c.read.ensures.racks
      ∙ ap (λ (r : Role). by_answer (call_answer reading r c.args.floor.now c.args.order.now c.args.timetable.now)
      c.args.floor.now.racks c.args.racks.now) c.from.ensures,
)
