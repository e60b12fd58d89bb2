-- `lane::carry` meets its contract. The invariant: the record `Carrying`, and the journey so far, which avoids the position
-- beside the right end.
--
--     low, up, all, done    three places stand before place q; the moves of i - q rounds and of one more; those of all rounds
--     free, few             what may move while the rack stands at place i, as a set; how few positions that are
--     undoing               what else was moved can be taken back
-- Assumes nothing.
use Prim.Native.Nat.{ℕ, suc, ◌+◌, ◌-◌, ◌*◌, ◌≤◌}
use mathlib.Core.Path.{◌≡◌, refl, sym, ◌∙◌}
use mathlib.Core.List.{[]}
use mathlib.Core.Logic.{◌↔◌, ◌≢◌}
use native.Mathlib.Omega.{arith}
use Rattle.sets.specs.Sets.{Has}
use Rattle.graph.specs.Rows.{row}
use Rattle.moving.specs.Journey.{onto}
use Rattle.turning.specs.Undone.{carried, Undoing}
use Rattle.moving.proofs.JourneyLaws.{trip_append, trip_more, trip_anew, journey_append, fits_then, fits_anew, fits_space}
use Rattle.moving.proofs.JourneyLaws.{journey_in_none, journey_in_append, journey_in_more, journey_in_less, journey_in_one}
use Rattle.moving.proofs.TableLaws.{table_went}
use Rattle.shunting.specs.Distance.{AtMost}
use Rattle.shunting.proofs.ClearLaws.{clear_room, clear_few}
use Rattle.lane.specs.Moves.{carry_moves}
use Rattle.lane.proofs.CarryLaws.{carry_rounds, carry-all, carry_few, Free, free_has, among_floor, off}
use Rattle.lane.proofs.CarryLaws.{carrying_begin, carry_edge, carry-next, carry_most, carry-reaches, carry_movable, carrying_step}
use Rattle.lane.proofs.CarryLaws.{carry_last, carry_away, carry_undoing, carry-entries, carry_space}
use Rattle.lane.proofs.carry.Goals.{In-loop-i, After-loop-i, After-without-free, After-make_move-state-2}
use Rattle.lane.proofs.carry.Goals as goal

low : {s q : ℕ} → 3 ≤ s → s ≤ q → 3 ≤ q
low three from = omega arith

up : (c : In-loop-i) → (c.args.lane.positions - 2) * (c.loop-i.i - c.args.q) + ((c.args.lane.positions - 3) + 1)
    ≡ (c.args.lane.positions - 2) * (c.loop-i.i + 1 - c.args.q)
up c =
    let within = c.requires.lane_on.within in
    let more = c.loop-i-test.true in
    let from = c.loop-i.invariant.0.from in
    let low = low c.requires.lane_on.three c.requires.in_lane.from in
    let r = carry_rounds (c.args.lane.positions - 2) c.loop-i.i c.args.q from in
    omega arith

all : (c : In-loop-i) → (c.args.lane.positions - 2) * (c.loop-i.i + 1 - c.args.q)
    ≤ (c.args.lane.positions - 2) * (c.args.lane.positions - 3)
all c =
    let within = c.requires.lane_on.within in
    let more = c.loop-i-test.true in
    carry-all (c.args.lane.positions - 2) c.args.lane.positions (c.loop-i.i + 1) c.args.q (omega arith) (low c.requires.lane_on.three
    c.requires.in_lane.from)

done : (c : After-loop-i) → (c.args.lane.positions - 2) * (c.loop-i.i - c.args.q)
    ≤ (c.args.lane.positions - 2) * (c.args.lane.positions - 3)
done c =
    let most = c.loop-i.invariant.0.most in
    let within = c.requires.lane_on.within in
    carry-all (c.args.lane.positions - 2) c.args.lane.positions c.loop-i.i c.args.q (omega arith) (low c.requires.lane_on.three
    c.requires.in_lane.from)

free : (c : After-without-free) (p : ℕ)
    → Has c.without-free.result p ↔ Free (row c.args.lane.order) c.args.lane.end c.args.lane.beside c.loop-i.i p
free c = free_has _ _ _ c.part.ensures c.without-upper.ensures c.without-free.ensures

few : (c : After-without-free) → AtMost (suc (c.args.lane.positions - 3)) (Has c.without-free.result)
few c =
    carry_most c.requires.lane_on c.requires.lane_beside c.requires.in_lane.from c.loop-i-test.true
    c.requires.lane_carriable.held c.loop-i.invariant.0 c.after-next.ensures (λ q x. (free c q).0 x)

undoing : (c : After-make_move-state-2) → Undoing c.args.rows.now c.make_move-state-2.result.racks
    c.make_move-state-2.new.log 0 c.loop-i.state.logged (onto c.loop-i.invariant.1.journey.trip.moves [])
    (carried (row c.args.state.racks (row c.args.lane.order c.args.q)) c.args.lane.beside (row c.args.state.racks))
undoing c =
    carry_undoing refl _ _ c.requires.rows.symmetric c.loop-i.invariant.1
    (c.make_move-state-2.ensures.journey_on _ c.requires.lane_beside.edge)
    (carry_away c.requires.lane_on c.requires.lane_beside c.requires.lane_carriable.held c.loop-i-test.false
    c.loop-i.invariant.0 c.make_move-state-2.ensures.passed)

pub loop-i-init : goal.loop-i-init
loop-i-init c = (
  carrying_begin c.requires.lane_on c.requires.lane_beside c.requires.in_lane.before c.requires.lane_carriable.table
      c.requires.lane_carriable.vacant.end c.requires.lane_carriable.vacant.beside,
  journey_in_more _ (omega arith) (journey_in_none _ _ _),
)

pub clear_within-state-requires : goal.clear_within-state-requires
clear_within-state-requires c =
    let x = (goal.at.clear_within-state-requires c).After-without-free in
    let up = up (goal.at.clear_within-state-requires c).In-loop-i in
    let all = all (goal.at.clear_within-state-requires c).In-loop-i in
    let log = carry_few c.args.lane.positions c.requires.rows.small in
    record {
      rows = c.requires.rows;
      inside = λ q h. among_floor c.requires.lane_on c.requires.lane_beside ((free x q).0 h).there;
      reaches = carry-reaches c.requires.lane_on c.requires.lane_beside c.requires.in_lane.from c.loop-i-test.true
          c.requires.lane_carriable.held c.loop-i.invariant.0 c.after-next.ensures c.requires.rows.symmetric
          (λ q h. (free x q).1 h);
      room_to_clear = clear_room (few x)
          (fits_then (fits_anew ((c.args.lane.positions - 2) * (c.loop-i.i - c.args.q) + (c.args.lane.positions - 3))
          (omega arith) (omega arith) c.requires.room)
          c.loop-i.invariant.1.journey);
    }

pub make_move-state-requires : goal.make_move-state-requires
make_move-state-requires c =
    let x = (goal.at.make_move-state-requires c).After-without-free in
    let up = up (goal.at.make_move-state-requires c).In-loop-i in
    let all = all (goal.at.make_move-state-requires c).In-loop-i in
    let log = carry_few c.args.lane.positions c.requires.rows.small in
    record {
      movable = carry_movable c.requires.lane_on c.requires.lane_beside c.requires.in_lane.from c.loop-i-test.true
          c.requires.lane_carriable.held c.loop-i.invariant.0 c.after-next.ensures (λ q h. (free x q).0 h)
          c.clear_within-state.ensures.cleared c.requires.rows.small;
      fits = fits_then (fits_anew ((c.args.lane.positions - 2) * (c.loop-i.i - c.args.q) + (c.args.lane.positions - 3) +
          1) (omega arith) (omega arith) c.requires.room)
          (journey_append c.loop-i.invariant.1.journey (clear_few (few x) c.clear_within-state.ensures).journey);
    }

pub loop-i-preserved : goal.loop-i-preserved
loop-i-preserved c =
    let x = (goal.at.loop-i-preserved c).After-without-free in
    let up = up (goal.at.loop-i-preserved c).In-loop-i in
    let low = c.loop-i.invariant.0.from in
    let can = carry_movable c.requires.lane_on c.requires.lane_beside c.requires.in_lane.from c.loop-i-test.true
    c.requires.lane_carriable.held c.loop-i.invariant.0 c.after-next.ensures (λ q h. (free x q).0 h)
    c.clear_within-state.ensures.cleared c.requires.rows.small in
    let go = c.make_move-state.ensures.journey_on _ (carry_edge c.requires.lane_on c.requires.lane_beside
    c.requires.in_lane.from c.loop-i-test.true c.requires.lane_carriable.held c.loop-i.invariant.0
    c.after-next.ensures) in
    let way = journey_in_less {Q = λ q. c.args.lane.beside ≢ q} (λ q h z. ((free x q).0 h).other (sym z))
    (clear_few (few x) c.clear_within-state.ensures) in
    let leaves = off c.requires.lane_on c.requires.lane_beside c.requires.lane_beside.there c.loop-i.i (omega arith) c.loop-i-test.true in
    let enters = (carry-next c.requires.lane_on c.requires.lane_beside c.requires.in_lane.from c.loop-i-test.true
    c.requires.lane_carriable.held c.loop-i.invariant.0 c.after-next.ensures).other in
    let one = journey_in_one {P = λ q. c.args.lane.beside ≢ q} _ _ can c.make_move-state.ensures.passed leaves (λ z. enters (sym z)) go in
    let between = table_went c.requires.rows.inside c.clear_within-state.ensures.journey.journey.trip.went c.loop-i.invariant.0.table in
    let table = table_went c.requires.rows.inside go.trip.went between in (
      carrying_step c.requires.lane_on c.requires.lane_beside c.requires.in_lane.from c.loop-i-test.true
          c.requires.lane_carriable.held c.loop-i.invariant.0 c.after-next.ensures (λ q h. (free x q).0 h)
          c.clear_within-state.ensures.cleared table c.make_move-state.ensures.passed,
      journey_in_more _ (omega arith) (journey_in_append c.loop-i.invariant.1 (journey_in_append way one)),
    )

pub make_move-state-requires-2 : goal.make_move-state-requires-2
make_move-state-requires-2 c =
    let all = done (goal.at.make_move-state-requires-2 c).After-loop-i in
    let most = carry_few c.args.lane.positions c.requires.rows.small in
    record {
      movable = carry_last c.requires.lane_on c.requires.lane_beside c.requires.lane_carriable.held c.loop-i-test.false
          c.loop-i.invariant.0 c.requires.rows.small;
      fits = fits_then (fits_anew ((c.args.lane.positions - 2) * (c.loop-i.i - c.args.q) + 1) (omega arith)
          (omega arith) c.requires.room) c.loop-i.invariant.1.journey;
    }

pub undo-requires : goal.undo-requires
undo-requires c =
    let all = done (goal.at.undo-requires c).After-loop-i in
    let most = carry_few c.args.lane.positions c.requires.rows.small in
    let space = fits_space (fits_anew (carry_moves c.args.lane.positions) (omega arith) (omega arith) c.requires.room) in
    record {
      entries = carry-entries refl (omega arith) c.loop-i.invariant.1.journey;
      undoable = (_, _, _, undoing (goal.at.undo-requires c).After-make_move-state-2);
      space = carry_space refl space (omega arith) c.loop-i.invariant.1.journey
          (c.make_move-state-2.ensures.journey_on _ c.requires.lane_beside.edge);
    }

pub returns : goal.returns
returns c =
    let all = done (goal.at.returns c).After-loop-i in
    let some = c.loop-i.invariant.1.journey.trip.few in
    let logged = c.loop-i.invariant.1.journey.logged in
    let last = c.make_move-state-2.ensures.journey_on _ c.requires.lane_beside.edge in
    let back = c.undo.ensures _ _ _ (undoing (goal.at.returns c).After-make_move-state-2) in
    record {
      trip = trip_anew (trip_more _ (omega arith) (trip_append c.loop-i.invariant.1.journey.trip (trip_append last.trip back.0)));
      lane_carried = back.1;
      log_len_unchanged = last.log ∙ c.loop-i.invariant.1.journey.log;
    }
