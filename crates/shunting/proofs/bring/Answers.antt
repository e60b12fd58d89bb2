-- `shunting::bring` meets its contract. The invariant: the way that the search found, and the records `Bringing` and `BringingBy`.
-- Assumes nothing.
use Prim.Native.Nat.{◌-◌}
use mathlib.Core.Path.{refl}
use native.Mathlib.Omega.{arith}
use Rattle.moving.proofs.JourneyLaws.{fits_less}
use Rattle.shunting.proofs.BringLaws.{Sought, bring_short, bringing_begin, bringing_begun}
use Rattle.shunting.proofs.BringLaws.{bring_free, bring_reaches, bring_room, bring_fits, bring_movable}
use Rattle.shunting.proofs.BringLaws.{bringing_step, bringing_on, brought, brought_by}
use Rattle.shunting.proofs.bring.Goals as goal

pub only-requires : goal.only-requires
only-requires c =
    let small = c.requires.rows.small in
    let below = c.requires.inside c.args.to c.requires.bringable.enters in
    omega arith

pub search-requires : goal.search-requires
search-requires c =
    let small = c.requires.rows.small in
    let below = c.requires.inside c.args.from c.requires.bringable.leaves in
    record {
      symmetric = c.requires.rows.symmetric;
      from_bound = omega arith;
    }

pub unreachable-requires : goal.unreachable-requires
unreachable-requires c =
    let b = c.requires.bringable in
    let way = c.requires.robust.whole c.args.from c.args.to b.leaves b.enters in
    c.in_default.ensures.none refl c.args.to way.size way.walk ((c.only.ensures c.args.to).1 refl)

pub loop-k-init : goal.loop-k-init
loop-k-init c =
    let way : Sought _ _ _ _ _ _ _ _ = record {
      rows = c.requires.rows;
      below = c.requires.inside;
      robust = c.requires.robust;
      bringable = c.requires.bringable;
      target = c.only.result;
      only = c.only.ensures;
      nearest = c.in-Some.ensures.1;
    } in
    (way, bringing_begin way, bringing_begun way c.requires.room_to_bring)

pub bounds-at-k : goal.bounds-at-k
bounds-at-k c =
    let small = c.loop-k.invariant.0.rows.small in
    let short = bring_short c.loop-k.invariant.0 in
    let more = c.loop-k-test.true in
    omega arith

pub bounds-at-k-in-loop-k : goal.bounds-at-k-in-loop-k
bounds-at-k-in-loop-k c =
    let small = c.loop-k.invariant.0.rows.small in
    let short = bring_short c.loop-k.invariant.0 in
    let more = c.loop-k-test.true in
    omega arith

pub clear_within-state-requires : goal.clear_within-state-requires
clear_within-state-requires c = record {
  rows = c.loop-k.invariant.0.rows;
  inside = bring_free c.loop-k.invariant.0 _ c.loop-k-test.true c.loop-k.invariant.1 c.without-free.ensures;
  reaches = bring_reaches c.loop-k.invariant.0 _ c.loop-k-test.true c.loop-k.invariant.1 c.without-free.ensures;
  room_to_clear = bring_room c.loop-k.invariant.0 _ c.loop-k-test.true c.loop-k.invariant.1 c.without-free.ensures c.loop-k.invariant.2;
}

pub make_move-state-requires : goal.make_move-state-requires
make_move-state-requires c = record {
  movable = bring_movable c.loop-k.invariant.0 _ c.loop-k-test.true c.loop-k.invariant.1 c.without-free.ensures
      c.clear_within-state.ensures.cleared;
  fits = fits_less 1 (omega arith) (bring_fits c.loop-k.invariant.0 _ c.loop-k-test.true c.loop-k.invariant.1
      c.without-free.ensures c.loop-k.invariant.2 c.clear_within-state.ensures);
}

pub loop-k-preserved : goal.loop-k-preserved
loop-k-preserved c = (
  c.loop-k.invariant.0,
  bringing_step c.loop-k.invariant.0 _ c.loop-k-test.true c.loop-k.invariant.1 c.without-free.ensures
      c.clear_within-state.ensures.cleared c.make_move-state.ensures.passed,
  bringing_on c.loop-k.invariant.0 _ c.loop-k-test.true c.loop-k.invariant.1 c.without-free.ensures c.loop-k.invariant.2
      c.clear_within-state.ensures c.make_move-state.ensures.passed c.make_move-state.ensures.journey_on
      c.make_move-state.ensures.logged_value,
)

pub returns : goal.returns
returns c =
    let most = c.loop-k.invariant.1.most in
    record {
      brought_by = brought_by c.loop-k.invariant.0 (omega arith) c.loop-k.invariant.2;
      brought = brought c.loop-k.invariant.0 (omega arith) c.loop-k.invariant.1;
    }
