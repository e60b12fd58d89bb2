-- `stepping::read_lent` meets its contract: the part that the step reader gives back is the step, and its moves are few. Assumes nothing.
use Prim.Native.Nat.{◌-◌, ◌≤◌}
use mathlib.Core.Path.{◌≡◌, ap, ◌∙◌}
use native.Mathlib.Omega.{arith}
use lib.ListN.{length, get_or, take, drop}
use lib.Seq.{length-take-le}
use Rattle.field.specs.Bits.{pairs}
use Rattle.timetable.proofs.StepLaws.{step_length-some}
use Rattle.timetable_check.proofs.Turns.{run_room, run_is}
use Rattle.stepping.proofs.Lending.{part_sized, part-moves, part_few}
use Rattle.stepping.proofs.read_lent.Goals as goal
use Rattle.stepping.proofs.read_lent.Goals.{After-step-part, After-from-c}

some_bytes : (c : After-step-part) → 1 ≤ length c.step-part.result.now
some_bytes c =
    omega (
      arith,
      part_sized c.args.timetable.now c.args.number c.requires c.step-part.result.now c.step-part.ensures.bytes,
      step_length-some (get_or c.step-part.result.now 0 0),
    )

few : (c : After-from-c) → c.from-c.result ≤ 64
few c = omega (arith, part_few c.args.timetable.now c.args.number c.requires c.step-part.result.now c.step-part.ensures.bytes)

-- the buffer has room for the step
room : (c : After-from-c) → length (take c.from-c.result c.args.buffer.now) ≡ c.from-c.result
room c = length-take-le c.from-c.result c.args.buffer.now (omega (arith, few c))

pub bounds-part-0 : goal.bounds-part-0
bounds-part-0 c = some_bytes (goal.at.bounds-part-0 c).After-step-part

pub slice_bounds-step-end : goal.slice_bounds-step-end
slice_bounds-step-end c = few (goal.at.slice_bounds-step-end c).After-from-c

pub slice_bounds-fill_step-count : goal.slice_bounds-fill_step-count
slice_bounds-fill_step-count c = some_bytes (goal.at.slice_bounds-fill_step-count c).After-step-part

pub slice_bounds-fill_step-start : goal.slice_bounds-fill_step-start
slice_bounds-fill_step-start c = some_bytes (goal.at.slice_bounds-fill_step-start c).After-step-part

pub fill_step-requires : goal.fill_step-requires
fill_step-requires c =
    rw (room (goal.at.fill_step-requires c).After-from-c)
    (run_room c.step-part.result.now c.from-c.result c.from-c.ensures
    (part_sized c.args.timetable.now c.args.number c.requires c.step-part.result.now c.step-part.ensures.bytes))

pub returns : goal.returns
returns c =
    c.fill_step.ensures
    ∙ ap (pairs (take (length c.step-part.result.now - 1) (drop 1 c.step-part.result.now)) 0) (room (goal.at.returns c).After-from-c)
    ∙ run_is c.step-part.result.now c.from-c.result c.from-c.ensures
    ∙ part-moves c.args.timetable.now c.args.number c.requires c.step-part.result.now c.step-part.ensures.bytes
