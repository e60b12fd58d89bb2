-- `text::put_timetable` meets its contract: the reading gives the counts, and the lines follow. Assumes nothing.
use Rattle.text.specs.Text.{timetable_text}
use Rattle.field.proofs.WritingLaws.{fits_front, fits_next, fits_as, wrote_then, wrote_as}
use Rattle.text.proofs.Counts.{not_refused, steps_are, line_is}
use Rattle.text.proofs.put_timetable.Goals as goal

pub unreachable-requires : goal.unreachable-requires
unreachable-requires c = not_refused c.args.timetable.now c.requires.0 _ _ c.in_default.ensures

pub put_first_line-at-requires : goal.put_first_line-at-requires
unfolding timetable_text
put_first_line-at-requires c =
    fits_as
    (line_is c.args.timetable.now c.requires.0 c.in-Ok.counts.steps c.in-Ok.counts.moves
    c.in-Ok.ensures)
    (fits_front _ _ c.requires.1)

pub put_steps-requires : goal.put_steps-requires
unfolding timetable_text
put_steps-requires c = (
  c.requires.0.length_right,
  steps_are c.args.timetable.now c.requires.0 c.in-Ok.counts.steps c.in-Ok.counts.moves
      c.in-Ok.ensures,
  fits_next _ _
      (wrote_as
      (line_is c.args.timetable.now c.requires.0 c.in-Ok.counts.steps c.in-Ok.counts.moves
      c.in-Ok.ensures)
      c.put_first_line-at.ensures)
      c.requires.1,
)

pub returns : goal.returns
unfolding timetable_text
returns c =
    wrote_then _ _ c.requires.1
    (wrote_as
    (line_is c.args.timetable.now c.requires.0 c.in-Ok.counts.steps c.in-Ok.counts.moves
    c.in-Ok.ensures)
    c.put_first_line-at.ensures)
    c.put_steps.ensures
