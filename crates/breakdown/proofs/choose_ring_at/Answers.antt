-- `breakdown::choose_ring_at` meets its contract. The invariant: of the pairs that begin at a, those that go on to none of `rest` are done,
-- and `rest` has positions beside a alone.
-- Assumes nothing.
use native.Mathlib.Omega.{arith}
use Rattle.breakdown.proofs.ChoiceLaws.{ring_entered, ring_no_way, ring_one_way, ring_left, rest_less}
use Rattle.breakdown.proofs.choose_ring_at.Goals as goal
use Rattle.breakdown.proofs.choose_ring_at.Goals.{in-Some, in_default}

pub loop-rest-init : goal.loop-rest-init
loop-rest-init c = (ring_entered c.args.n c.args.rows.now c.args.a c.args.best c.requires.ring_choice, λ y h. h)

pub loop-rest-smaller : goal.loop-rest-smaller
loop-rest-smaller c =
    rest_less _ _ _ c.lowest-b.ensures.has c.without-rest.ensures

pub loop-rest-preserved : goal.loop-rest-preserved
loop-rest-preserved c =
    let edge = c.loop-rest.invariant.1 c.lowest-b.result c.lowest-b.ensures.has in (
      elim c.match-ring_way.branch [
        | in-Some w ↦ rw w.best-is (ring_one_way c.args.n c.args.rows.now c.args.a c.lowest-b.result c.loop-rest.rest
            c.without-rest.result c.loop-rest.best c.without-rest.ensures edge w.in-Some.way w.better.result w.in-Some.ensures
            w.better.ensures c.loop-rest.invariant.0)
        | in_default w ↦ rw w.best-is (ring_no_way c.args.n c.args.rows.now c.args.a c.lowest-b.result c.loop-rest.rest
            c.without-rest.result c.loop-rest.best c.without-rest.ensures edge w.in_default.ensures c.loop-rest.invariant.0)
      ],
      λ y h. c.loop-rest.invariant.1 y ((c.without-rest.ensures y).0 h).0,
    )

pub returns : goal.returns
returns c = ring_left c.args.n c.args.rows.now c.args.a c.loop-rest.rest c.loop-rest.best (omega arith) c.loop-rest.invariant.0
