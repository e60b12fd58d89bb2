-- `base_ring::settle_ring` meets its contract. The invariant is the record `Settling`.
-- Assumes nothing.
use Prim.Native.Nat.{ℕ}
use mathlib.Core.Path.{◌∙◌}
use native.Mathlib.Omega.{arith}
use lib.ListN.{length-replicate}
use Rattle.moving.proofs.JourneyLaws.{trip_append, space_room, space_then}
use Rattle.base_ring.proofs.SettleLaws.{settling_begin, settling_next, settling_end}
use Rattle.base_ring.proofs.settle_ring.Goals as goal

pub loop-i-init : goal.loop-i-init
loop-i-init c =
    let three = c.requires.base_ring.three in
    settling_begin _ (omega arith) c.open_ring-state.ensures.ringing
    (space_room (c.open_ring-state.ensures.log_len_unchanged ∙ length-replicate {A = ℕ} 8256 0)
    (space_then c.requires.space c.open_ring-state.ensures.trip))

pub loop-i-preserved : goal.loop-i-preserved
loop-i-preserved c =
    settling_next _ c.loop-i.invariant c.loop-i-test.true c.settle_place-state.ensures.trip
    c.settle_place-state.ensures.ringing_2 c.settle_place-state.ensures.log_len_unchanged

pub returns : goal.returns
returns c =
    let done = settling_end _ c.loop-i.invariant (omega arith) in
    record {
      trip = trip_append c.open_ring-state.ensures.trip done.0;
      same = done.1;
    }
