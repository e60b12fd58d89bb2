-- `graph::spread` meets its contract. The invariant is the record `Spreading`; each level takes one of 64 places.
-- Assumes nothing.
use native.Mathlib.Omega.{arith}
use Rattle.graph.proofs.LevelLaws.{begin_none, begin, found, room, stop, next}
use Rattle.graph.proofs.spread.Goals as goal

pub returns-then-fresh-eq0 : goal.returns-then-fresh-eq0
returns-then-fresh-eq0 c =
    begin_none c.args.rows.now c.args.free c.args.targets c.args.goal _ _ c.if-fresh-eq0.true
    c.minus-left.ensures

pub loop-fresh-init : goal.loop-fresh-init
loop-fresh-init c =
    begin c.args.rows.now c.args.free c.args.targets c.args.goal c.args.levels.now _ c.requires.levels_len
    c.ranges.free.fits c.if-fresh-eq0.false
    c.minus-left.ensures

pub returns-then-fresh-goal-ne0 : goal.returns-then-fresh-goal-ne0
returns-then-fresh-goal-ne0 c = (
  omega arith,
  found c.args.rows.now c.args.free c.args.targets c.args.goal c.loop-fresh.invariant c.if-fresh-goal-ne0.true,
)

pub returns-then-fresh-eq0-2 : goal.returns-then-fresh-eq0-2
returns-then-fresh-eq0-2 c =
    stop c.args.rows.now c.args.free c.args.targets c.args.goal c.loop-fresh.invariant _ c.around.ensures c.if-fresh-goal-ne0.false
    c.if-fresh-eq0-2.true

pub bounds-levels-depth : goal.bounds-levels-depth
bounds-levels-depth c =
    room c.args.rows.now c.args.free c.args.targets c.args.goal c.loop-fresh.invariant _ c.around.ensures c.if-fresh-eq0-2.false

pub loop-fresh-smaller : goal.loop-fresh-smaller
loop-fresh-smaller c =
    let r = room c.args.rows.now c.args.free c.args.targets c.args.goal c.loop-fresh.invariant _ c.around.ensures
    c.if-fresh-eq0-2.false in
    omega arith

pub loop-fresh-preserved : goal.loop-fresh-preserved
loop-fresh-preserved c =
    next c.args.rows.now c.args.free c.args.targets c.args.goal c.loop-fresh.invariant _ c.around.ensures
    c.if-fresh-goal-ne0.false _ c.if-fresh-eq0-2.false c.minus-left-in-loop-fresh.ensures
