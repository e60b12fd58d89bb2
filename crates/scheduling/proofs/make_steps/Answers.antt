-- `scheduling::make_steps` meets its contract. Assumes nothing.
use Prim.Native.Nat.{◌≤◌}
use mathlib.Core.Path.{refl}
use native.Mathlib.Omega.{arith}
use lib.Dec.{lit<}
use Rattle.field.specs.PlanMoves.{all_moves}
use Rattle.field.proofs.ListedLaws.{length-moves}
use Rattle.window.specs.Filling.{latest}
use Rattle.window.proofs.FillingLaws.{latest_few}
use Rattle.scheduling.proofs.Windowing.{windows_none, windows-all}
use Rattle.scheduling.proofs.make_steps.Goals as goal

pub returns-then-moves-eq0 : goal.returns-then-moves-eq0
returns-then-moves-eq0 c =
    let ms = all_moves c.args.moves.now in
    let many = length-moves c.args.moves.now.named c.args.moves.now.tail.now 0 c.args.moves.now.count in
    let none : latest ms ≤ 0 = omega (arith, latest_few ms, many, c.if-moves-eq0.true) in (
      omega arith,
      windows-all ms c.args.buffer.now c.requires c.args.buffer.now 3 0 (windows_none ms c.args.buffer.now) (omega arith) none,
    )

pub make_steps_in-requires : goal.make_steps_in-requires
make_steps_in-requires c = record { k_nonzero = (omega arith, c.requires); rows = (refl, lit< tt, omega arith) }

pub make_steps_in-requires-2 : goal.make_steps_in-requires-2
make_steps_in-requires-2 c = record { k_nonzero = (omega arith, c.requires); rows = (refl, lit< tt, omega arith) }
