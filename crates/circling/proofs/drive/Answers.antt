-- `circling::drive` meets its contract. The invariant is the record `Driving`; each move leaves less to go. Assumes nothing.
use mathlib.Core.Path.{ap}
use Rattle.graph.specs.Rows.{row}
use Rattle.moving.proofs.JourneyLaws.{space_less}
use Rattle.circling.proofs.DriveLaws.{moved_to, driving_first, driving_space, driving_more, driving_next, driving_less, driving_last}
use Rattle.circling.proofs.drive.Goals as goal

pub loop-i-init : goal.loop-i-init
loop-i-init c = driving_first c.requires.need_len c.requires.driveable

pub move_rack-requires-clause-space : goal.move_rack-requires-clause-space
move_rack-requires-clause-space c =
    space_less 1 (driving_more c.loop-i.invariant c.requires.circled _ c.in-Some.ensures.0 c.in-Some.ensures.1)
    (driving_space c.loop-i.invariant c.requires.circled c.requires.space)

pub loop-i-smaller : goal.loop-i-smaller
loop-i-smaller c = driving_less c.loop-i.invariant c.requires.circled _ c.in-Some.ensures.0 c.in-Some.ensures.1

pub loop-i-preserved : goal.loop-i-preserved
loop-i-preserved c =
    driving_next c.loop-i.invariant c.requires.circled _ c.in-Some.ensures.0 c.in-Some.ensures.1 c.requires.space
    (moved_to (ap (row c.args.circle.now) c.next.ensures) c.move_rack.ensures.moved)

pub returns-clause-driven : goal.returns-clause-driven
returns-clause-driven c = (driving_last c.loop-i.invariant c.requires.circled c.in_default.ensures).1.0
