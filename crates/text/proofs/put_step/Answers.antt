-- `text::put_step` meets its contract: its parts stand one behind another. Assumes nothing.
use native.Mathlib.Omega.{arith}
use lib.ListN.{get_or}
use Rattle.timetable.proofs.StepLaws.{step_length-some}
use Rattle.text.specs.Text.{step_line}
use Rattle.writers.proofs.LineLaws.{newline_is}
use Rattle.field.proofs.WritingLaws.{fits_front, fits_next, fits_as, wrote_then, wrote_as}
use Rattle.text.proofs.Loops.{part_room, part-moves}
use Rattle.text.proofs.put_step.Goals as goal

pub put_decimal-at-requires : goal.put_decimal-at-requires
unfolding step_line
put_decimal-at-requires c = fits_front _ _ (fits_front _ _ c.requires.1)

pub slice_bounds-put_moves-count : goal.slice_bounds-put_moves-count
slice_bounds-put_moves-count c =
    omega (arith, step_length-some (get_or c.args.step.now 0 0))

pub slice_bounds-put_moves-start : goal.slice_bounds-put_moves-start
slice_bounds-put_moves-start c =
    omega (arith, step_length-some (get_or c.args.step.now 0 0))

pub bounds-step-0 : goal.bounds-step-0
bounds-step-0 c =
    omega (arith, step_length-some (get_or c.args.step.now 0 0))

pub put_moves-at-requires : goal.put_moves-at-requires
unfolding step_line
put_moves-at-requires c = (
  part_room c.args.step.now c.from.result c.from.ensures c.requires.0,
  fits_as (part-moves c.args.step.now c.from.result c.from.ensures)
      (fits_next _ _ c.put_decimal-at.ensures (fits_front _ _ c.requires.1)),
)

pub put_byte-requires : goal.put_byte-requires
unfolding step_line
put_byte-requires c =
    fits_as newline_is
    (fits_next _ _
    (wrote_then _ _ (fits_front _ _ c.requires.1) c.put_decimal-at.ensures
    (wrote_as (part-moves c.args.step.now c.from.result c.from.ensures) c.put_moves-at.ensures))
    c.requires.1)

pub returns : goal.returns
unfolding step_line
returns c =
    wrote_then _ _ c.requires.1
    (wrote_then _ _ (fits_front _ _ c.requires.1) c.put_decimal-at.ensures
    (wrote_as (part-moves c.args.step.now c.from.result c.from.ensures) c.put_moves-at.ensures))
    (wrote_as newline_is c.put_byte.ensures)
