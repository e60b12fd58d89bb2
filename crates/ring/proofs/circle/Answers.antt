-- `ring::circle` meets its contract. The invariant is the record `Following`. Assumes nothing.
use native.Mathlib.Omega.{arith}
use Rattle.ring.proofs.StandingLaws.{following_below, following_first, following_some, following_next, following_last}
use Rattle.ring.proofs.StandingLaws.{following_circle}
use Rattle.ring.proofs.circle.Goals as goal

pub loop-k-init : goal.loop-k-init
loop-k-init c = λ R C. following_first R C

pub lowest-v-requires : goal.lowest-v-requires
lowest-v-requires c = following_some c.requires.rows c.requires.ring (c.loop-k.invariant c.requires.rows c.requires.ring)

pub without-onward-requires : goal.without-onward-requires
without-onward-requires c = omega (
  arith,
  c.requires.rows.small,
  following_below c.requires.rows c.requires.ring
      (c.loop-k.invariant c.requires.rows c.requires.ring),
)

pub loop-k-preserved : goal.loop-k-preserved
loop-k-preserved c =
    λ R C. following_next R C (c.loop-k.invariant R C) (omega arith) c.lowest-v.result c.lowest-v.ensures.upper_bound
    c.lowest-v.ensures.has
    c.lowest-v.ensures.by_index c.without-onward.result c.without-onward.ensures

pub returns : goal.returns
returns c =
    let f = c.loop-k.invariant c.requires.rows c.requires.ring in
    record {
      circle = following_circle c.requires.rows c.requires.ring f (omega arith);
      by_index = following_last c.requires.rows c.requires.ring f (omega arith);
    }
