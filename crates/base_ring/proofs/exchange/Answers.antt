-- `base_ring::exchange` meets its contract.
--
--     fits     room for some of the moves up to the six
--     table    the racks are a table once a is aside
--     on       and b is on the ring
--     made     the six moves, and what is to be taken back behind them
-- Assumes nothing.
use Prim.Native.Nat.{ℕ, ◌+◌, ◌≤◌}
use native.Mathlib.Omega.{arith}
use Rattle.graph.specs.Rows.{row}
use Rattle.moving.specs.Journey.{relogged, Fits}
use Rattle.moving.specs.Table.{Table}
use Rattle.moving.proofs.JourneyLaws.{journey_append, fits_then}
use Rattle.moving.proofs.TableLaws.{table_went}
use Rattle.base_ring.specs.Circle.{OnRing}
use Rattle.base_ring.specs.Moves.{aside_moves, next_moves}
use Rattle.base_ring.proofs.ExchangeLaws.{aside-rest, rack_on, exchange_swappable, exchange_fits, Swapping, exchange-made}
use Rattle.base_ring.proofs.ExchangeLaws.{exchange-entries, exchange_space, exchange_trip}
use Rattle.base_ring.proofs.exchange.Goals.{Start, After-bring_aside-aside, After-swap-swapped}
use Rattle.base_ring.proofs.exchange.Goals as goal

fits : (c : Start) (k : ℕ) → k ≤ aside_moves c.args.circle.size + next_moves c.args.circle.size + 6
    → Fits (relogged c.args.state 0) c.args.log.now c.args.tail.now k
fits c k few =
    let small = c.requires.rows.small in
    let less = c.requires.base_ring.less in
    exchange_fits c.args.circle.size k (omega arith) (omega arith) c.requires.room

table : (c : After-bring_aside-aside) → Table c.args.circle.positions (row c.bring_aside-aside.result.racks)
table c = table_went c.requires.rows.inside c.bring_aside-aside.ensures.journey.trip.went c.requires.fact.table

on : (c : After-bring_aside-aside) → OnRing c.args.circle c.args.b (row c.bring_aside-aside.result.racks)
on c =
    rack_on c.requires.rows c.requires.base_ring c.requires.fact c.requires.two_on_ring.first c.bring_aside-aside.ensures.aside
    (table c) c.requires.two_on_ring.differ c.requires.two_on_ring.second

made : (c : After-swap-swapped) → Swapping c.args.rows.now c.args.circle.size c.args.a c.args.b c.args.state
    c.args.log.now c.args.tail.now c.bring_next-ready.result c.swap-swapped.result c.swap-swapped.new.log c.swap-swapped.new.tail
made c =
    exchange-made c.args.state c.requires.rows c.requires.base_ring c.requires.fact c.requires.two_on_ring
    c.bring_aside-aside.ensures.journey c.bring_aside-aside.ensures.aside c.bring_next-ready.ensures.journey
    c.bring_next-ready.ensures.ready c.swap-swapped.ensures.journey_on c.swap-swapped.ensures.swapped

pub bring_aside-aside-requires : goal.bring_aside-aside-requires
bring_aside-aside-requires c = record {
  rows = c.requires.rows;
  base_ring = c.requires.base_ring;
  fact = c.requires.fact;
  on_ring = c.requires.two_on_ring.first;
  fits = fits (goal.at.bring_aside-aside-requires c).Start (aside_moves c.args.circle.size) (omega arith);
}

pub bring_next-ready-requires : goal.bring_next-ready-requires
bring_next-ready-requires c =
    let x = (goal.at.bring_next-ready-requires c).After-bring_aside-aside in
    record {
      rows = c.requires.rows;
      base_ring = c.requires.base_ring;
      table = table x;
      rest_held = aside-rest c.requires.rows c.requires.base_ring c.requires.fact c.requires.two_on_ring.first
          c.bring_aside-aside.ensures.aside;
      on_ring = on x;
      fits = fits_then (fits (goal.at.bring_next-ready-requires c).Start
          (aside_moves c.args.circle.size + next_moves c.args.circle.size) (omega arith)) c.bring_aside-aside.ensures.journey;
    }

pub swap-swapped-requires : goal.swap-swapped-requires
swap-swapped-requires c = record {
  swappable = exchange_swappable c.requires.rows c.requires.base_ring c.requires.two_on_ring.first
      (on (goal.at.swap-swapped-requires c).After-bring_aside-aside) c.bring_aside-aside.ensures.aside
      c.bring_next-ready.ensures.ready;
  fits = fits_then (fits (goal.at.swap-swapped-requires c).Start
      (aside_moves c.args.circle.size + next_moves c.args.circle.size + 6) (omega arith))
      (journey_append c.bring_aside-aside.ensures.journey c.bring_next-ready.ensures.journey);
}

pub undo-requires : goal.undo-requires
undo-requires c =
    let small = c.requires.rows.small in
    let less = c.requires.base_ring.less in
    let made = made (goal.at.undo-requires c).After-swap-swapped in
    record {
      entries = exchange-entries c.args.circle.size made (omega arith);
      undoable = (c.args.rows.now, made.past, _, made.undoing);
      space = exchange_space c.args.circle.size made c.requires.room;
    }

pub returns : goal.returns
returns c =
    let made = made (goal.at.returns c).After-swap-swapped in
    let undone = c.undo.ensures _ _ _ made.undoing in
    record {
      trip = exchange_trip c.args.circle.size made undone.0;
      exchanged = undone.1;
      log_len_unchanged = made.log;
    }
