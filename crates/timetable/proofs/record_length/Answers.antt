-- `timetable::record_length` meets its contract. The loop's invariant: what is left of the timetable begins at `end`. Assumes nothing.
use mathlib.Core.Path.{sym, ap, ◌∙◌}
use native.Mathlib.Omega.{arith}
use borrow.Author.Tests.{ltb-true, ltb-false}
use Rattle.std.proofs.lemmas.List.{get_or_read}
use Rattle.timetable.specs.Timetable.{step_length}
use Rattle.timetable.proofs.Passing.{no_head, passing_first, past_end, runs_past, passing_next, passing_last}
use Rattle.timetable.proofs.record_length.Goals as goal

pub returns-then-bytes-lt3 : goal.returns-then-bytes-lt3
returns-then-bytes-lt3 c = no_head _ (omega arith)

pub loop-init : goal.loop-init
loop-init c = (omega arith, passing_first _ _ c.count_at_head-count.ensures)

pub returns-in_err-get : goal.returns-in_err-get
returns-in_err-get c =
    c.from_residual.ensures
    ∙ past_end _ _ _ _ c.loop.invariant.1 (omega arith) (ltb-false _ _ (sym c.in_err-get.ensures.lookup.0))

pub returns-then-bytes-end : goal.returns-then-bytes-end
returns-then-bytes-end c =
    let within = ltb-true _ _ (sym c.in_ok-get.ensures.lookup.0) in
    let byte = get_or_read _ _ _ within c.in_ok-get.ensures.lookup.1 0 in
    runs_past _ _ _ _ c.loop.invariant.1 (omega arith) _ (c.step_length-size.ensures.size_is ∙ ap step_length byte) (omega arith)

pub loop-preserved : goal.loop-preserved
loop-preserved c =
    let within = ltb-true _ _ (sym c.in_ok-get.ensures.lookup.0) in
    let byte = get_or_read _ _ _ within c.in_ok-get.ensures.lookup.1 0 in
    (omega arith, passing_next _ _ _ _ c.loop.invariant.1 (omega arith) _ (c.step_length-size.ensures.size_is ∙ ap step_length byte))

pub returns : goal.returns
returns c = passing_last _ _ _ _ c.loop.invariant.1 (omega arith) c.loop.invariant.0
