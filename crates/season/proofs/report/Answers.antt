-- `season::report` meets its contract. The loop's invariant, `Left`: what is left is answered as the season is. Assumes nothing.
use mathlib.Core.Path.{sym}
use native.Mathlib.Omega.{arith}
use lib.Seq.{length-take-le}
use Rattle.season.proofs.SeasonLaws.{begins, over, thousandfold, full, cut, next}
use Rattle.season.proofs.report.Goals as goal

pub loop-at-init : goal.loop-at-init
loop-at-init c = begins _

pub returns-then-pairs-eq-MOST : goal.returns-then-pairs-eq-MOST
returns-then-pairs-eq-MOST c = full c.loop-at.invariant c.loop-at-test.true c.if-pairs-eq-MOST.true

pub returns-in_default : goal.returns-in_default
returns-in_default c = cut c.loop-at.invariant c.loop-at-test.true c.if-pairs-eq-MOST.false c.in_default.ensures

pub slice_bounds-count_pair-end : goal.slice_bounds-count_pair-end
slice_bounds-count_pair-end c =
    let ordered = c.in-Some.ensures.ordered in
    let inside = c.in-Some.ensures.inside in
    sym (length-take-le _ _ (omega arith))

pub loop-at-smaller : goal.loop-at-smaller
loop-at-smaller c =
    let some = c.in-Some.ensures.some in
    let ordered = c.in-Some.ensures.ordered in
    let inside = c.in-Some.ensures.inside in
    omega arith

pub loop-at-preserved : goal.loop-at-preserved
loop-at-preserved c =
    next c.loop-at.invariant c.loop-at-test.true c.if-pairs-eq-MOST.false c.in-Some.ensures
    c.count_pair-totals.result c.count_pair-totals.ensures.within_2 c.count_pair-totals.ensures.value

pub divide-requires : goal.divide-requires
divide-requires c = thousandfold c.loop-at.invariant

pub returns : goal.returns
returns c = over c.loop-at.invariant c.loop-at-test.false c.divide.ensures
