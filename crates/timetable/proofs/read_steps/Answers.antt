-- `timetable::read_steps` meets its contract. The loop's invariant: what is left to judge decides, given the moves and the pads so far. A
-- step is at least as long as it has moves, so the moves are at most the bytes. Assumes nothing.
use mathlib.Core.Path.{◌≡◌, sym, ap, ◌∙◌}
use mathlib.Core.Bool.{Bool, ◌||◌}
use native.Mathlib.Omega.{arith}
use borrow.Author.Tests.{ltb-true, ltb-false}
use Rattle.std.proofs.lemmas.List.{get_or_read}
use Rattle.timetable.specs.Timetable.{step_length}
use Rattle.timetable.proofs.Reading.{remembered, kept, past, runs_past, part_length, left-next, left_over}
use Rattle.timetable.proofs.Reading.{pads_set, left_none}
use Rattle.timetable.proofs.read_steps.Goals as goal
use Rattle.timetable.proofs.read_steps.Goals.{then-pad_set, else-pad_set}

pub returns-in_default : goal.returns-in_default
returns-in_default c =
    past c.args.timetable.now c.args.count c.loop.at c.loop.moves c.loop.pad_seen c.loop.counter
    c.loop.invariant.2 (omega arith) (ltb-false _ _ (sym c.in_default.ensures.lookup.0))

pub returns-then-timetable-at : goal.returns-then-timetable-at
returns-then-timetable-at c =
    let within = ltb-true _ _ (sym c.in-Some.ensures.lookup.0) in
    let byte = get_or_read _ _ _ within c.in-Some.ensures.lookup.1 0 in
    runs_past c.args.timetable.now c.args.count c.loop.at c.loop.moves c.loop.pad_seen c.loop.counter
    c.loop.invariant.2 (omega arith) _ c.step_length-size.result byte c.step_length-size.ensures.size_is within (omega arith)

pub pad_set-requires : goal.pad_set-requires
pad_set-requires c =
    let within = ltb-true _ _ (sym c.in-Some.ensures.lookup.0) in
    let byte = get_or_read _ _ _ within c.in-Some.ensures.lookup.1 0 in
    part_length c.args.timetable.now c.args.count c.loop.at c.loop.moves c.loop.pad_seen c.loop.counter
    c.loop.invariant.2 (omega arith) _ c.step_length-size.result byte c.step_length-size.ensures.size_is within (omega arith)

pub loop-preserved : goal.loop-preserved
loop-preserved c =
    let seen : c.if-pad_set.pad_seen ≡ (c.loop.pad_seen || c.pad_set.result) =
    elim c.if-pad_set.branch [
      | then-pad_set w ↦ remembered _ c.loop.pad_seen c.pad_set.result w.pad_seen-is w.if-pad_set.true
      | else-pad_set w ↦ kept _ c.loop.pad_seen c.pad_set.result w.pad_seen-is w.if-pad_set.false
    ]
    in
    let within = ltb-true _ _ (sym c.in-Some.ensures.lookup.0) in
    let byte = get_or_read _ _ _ within c.in-Some.ensures.lookup.1 0 in (
      omega arith,
      omega arith,
      left-next c.args.timetable.now c.args.count c.loop.at c.loop.moves c.loop.pad_seen c.loop.counter
          c.loop.invariant.2 (omega arith) c.from-moves.result c.step_length-size.result (c.from-moves.ensures ∙ byte)
          (c.step_length-size.ensures.size_is ∙ ap step_length (sym c.from-moves.ensures)) within (omega arith)
          c.if-pad_set.pad_seen (seen ∙ ap (λ (b : Bool). c.loop.pad_seen || b) c.pad_set.ensures),
    )

pub returns-then-at-timetable : goal.returns-then-at-timetable
returns-then-at-timetable c =
    left_over c.args.timetable.now c.args.count c.loop.at c.loop.moves c.loop.pad_seen c.loop.counter
    c.loop.invariant.2 (omega arith) (omega arith)

pub returns-then-pad_seen : goal.returns-then-pad_seen
returns-then-pad_seen c =
    pads_set c.args.timetable.now c.args.count c.loop.at c.loop.moves c.loop.pad_seen c.loop.counter
    c.loop.invariant.2 (omega arith) (omega arith) c.if-pad_seen.true

pub returns : goal.returns
returns c =
    left_none c.args.timetable.now c.args.count c.loop.at c.loop.moves c.loop.pad_seen c.loop.counter
    c.loop.invariant.2 (omega arith) (omega arith) c.if-pad_seen.false
