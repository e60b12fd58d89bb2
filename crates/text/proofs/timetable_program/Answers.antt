-- `text::timetable_program` meets its contract: what the maker answers and leaves is what is printed. Assumes nothing.
use native.Mathlib.Omega.{arith}
use mathlib.Core.Path.{sym}
use lib.Seq.{length-take-le}
use Rattle.field.proofs.WritingLaws.{wrote_as}
use Rattle.writers.proofs.LineLaws.{refusal_fits}
use Rattle.text.proofs.Program.{end_within, refusal_text, part_there, part-within, part-packed, part_fits, part_text}
use Rattle.text.proofs.timetable_program.Goals as goal

pub slice_bounds-make-end : goal.slice_bounds-make-end
slice_bounds-make-end c =
    sym
    (length-take-le c.order_end-end.result c.args.input.now
    (end_within c.args.input.now c.order_end-end.result c.order_end-end.ensures))

pub slice_bounds-make-count : goal.slice_bounds-make-count
slice_bounds-make-count c =
    end_within c.args.input.now c.order_end-end.result c.order_end-end.ensures

pub slice_bounds-make-start : goal.slice_bounds-make-start
slice_bounds-make-start c =
    end_within c.args.input.now c.order_end-end.result c.order_end-end.ensures

pub unreachable-requires : goal.unreachable-requires
unreachable-requires c =
    part_there c.args.input.now c.order_end-end.ensures c.make.ensures.result_value c.in-Ok.is c.make.ensures.buffer_after
    c.in_default.ensures

pub slice_bounds-buffer-end : goal.slice_bounds-buffer-end
slice_bounds-buffer-end c =
    part-within c.args.input.now c.order_end-end.ensures c.make.ensures.result_value c.in-Ok.is
    c.make.ensures.buffer_after c.in-Some.ensures

pub slice_bounds-put_timetable-end : goal.slice_bounds-put_timetable-end
slice_bounds-put_timetable-end c =
    sym
    (length-take-le _ _
    (part-within c.args.input.now c.order_end-end.ensures c.make.ensures.result_value c.in-Ok.is
    c.make.ensures.buffer_after c.in-Some.ensures))

pub put_timetable-requires : goal.put_timetable-requires
put_timetable-requires c = (
  part-packed c.args.input.now c.order_end-end.ensures c.make.ensures.result_value c.in-Ok.is
      c.make.ensures.buffer_after c.in-Some.ensures,
  part_fits c.args.input.now c.order_end-end.ensures c.make.ensures.result_value c.in-Ok.is
      c.make.ensures.buffer_after c.in-Some.ensures c.args.out.now (omega arith),
)

pub put_refusal-requires : goal.put_refusal-requires
put_refusal-requires c = refusal_fits _ _ (omega arith) (omega arith) _ (omega arith)

pub returns-in-Err : goal.returns-in-Err
returns-in-Err c =
    wrote_as (refusal_text c.args.input.now c.order_end-end.ensures c.make.ensures.result_value c.in-Err.is)
    (rw c.number.ensures at c.put_refusal.ensures)

pub returns-in-Some : goal.returns-in-Some
returns-in-Some c =
    wrote_as
    (part_text c.args.input.now c.order_end-end.ensures c.make.ensures.result_value c.in-Ok.is
    c.make.ensures.buffer_after c.in-Some.ensures)
    c.put_timetable.ensures
