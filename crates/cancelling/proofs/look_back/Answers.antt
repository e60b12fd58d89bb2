-- `cancelling::look_back` meets its contract. The loop's invariant: from the index that is reached on no kept move touches a position of
-- `ends`, and the sets still cover what is kept. Assumes nothing.
use mathlib.Core.Path.{refl, ◌∙◌}
use native.Mathlib.Nat.{le_refl}
use native.Mathlib.Omega.{arith}
use Rattle.cancelling.specs.Looking.{listing}
use Rattle.cancelling.proofs.LookingLaws.{clear_down, never, found_at, found_none, looked_after}
use Rattle.cancelling.proofs.look_back.Goals as goal

pub loop-at-init : goal.loop-at-init
loop-at-init c =
    (le_refl c.args.from, c.requires.looked.0, c.requires.looked.1, refl, refl)

pub touching-requires : goal.touching-requires
touching-requires c = (omega (arith, c.loop-at.invariant.0), omega (arith, c.loop-at.invariant.0))

pub shape_of-blocks-then-touching : goal.shape_of-blocks-then-touching
shape_of-blocks-then-touching c = c.loop-at.invariant.3

pub shape_of-groups-then-touching : goal.shape_of-groups-then-touching
shape_of-groups-then-touching c = c.loop-at.invariant.4

pub returns-then-touching : goal.returns-then-touching
returns-then-touching c =
    let moves = listing c.args.moves.now in
    record {
      found = found_at moves c.args.marks.now c.args.ends c.args.from c.loop-at.at c.loop-at.invariant.0 c.loop-at.invariant.2
          (c.touching.ensures.0 c.if-touching.true);
      looked_2 = c.loop-at.invariant.1;
    }

pub loop-at-preserved : goal.loop-at-preserved
loop-at-preserved c =
    let moves = listing c.args.moves.now in
    let down = clear_down moves c.args.marks.now c.args.ends c.loop-at.at c.loop-at-test.true
    (λ t. never c.touching.result c.if-touching.false (c.touching.ensures.1 t)) c.loop-at.invariant.2 in
    let low = c.back-at.ensures.1 moves c.loop-at.invariant.1 down in (
      omega (arith, c.loop-at.invariant.0, c.back-at.ensures.0),
      looked_after moves c.args.marks.now c.args.ends c.back-at.result c.loop-at.invariant.1 low
          c.forget.ensures c.forget-in-loop-at.ensures,
      low,
      c.forget.auto.list ∙ c.loop-at.invariant.3,
      c.forget-in-loop-at.auto.list ∙ c.loop-at.invariant.4,
    )

pub shape_of-blocks : goal.shape_of-blocks
shape_of-blocks c = c.loop-at.invariant.3

pub shape_of-groups : goal.shape_of-groups
shape_of-groups c = c.loop-at.invariant.4

pub returns : goal.returns
returns c =
    let moves = listing c.args.moves.now in
    record {
      found = found_none moves c.args.marks.now c.args.ends c.args.from c.loop-at.at (omega arith) c.loop-at.invariant.2;
      looked_2 = c.loop-at.invariant.1;
    }
