-- `parity::one_vacancy` meets its contract: a refusal of the order reader is passed up, and `Layers` has the answers above its acceptance.
-- Assumes nothing.
use native.Mathlib.Omega.{arith}
use Rattle.tables.proofs.AcceptedLaws.{order_accepted}
use Rattle.floor.proofs.FloorRows.{filled_rows}
use Rattle.parity.proofs.ContraryLaws.{stands_seats}
use Rattle.parity.proofs.Layers.{order_refused, not_one, starts_stand, goals_stand, apart, colourless, contrary, agreeing}
use Rattle.parity.proofs.one_vacancy.Goals as goal

pub returns-in_err-counts : goal.returns-in_err-counts
returns-in_err-counts c = order_refused _ c.from_residual.result _ c.from_residual.ensures.1 c.in_err-counts.ensures.result_value

pub overflow_add-m : goal.overflow_add-m
overflow_add-m c = omega (arith, (order_accepted c.in_ok-counts.ensures.result_value))

pub returns-then-n-m : goal.returns-then-n-m
returns-then-n-m c = not_one (order_accepted c.in_ok-counts.ensures.result_value) c.if-n-m.true

pub is_biconnected-requires : goal.is_biconnected-requires
is_biconnected-requires c = filled_rows (order_accepted c.in_ok-counts.ensures.result_value)
    c.decode.ensures.rows_after

pub returns-then-not-is_biconnected : goal.returns-then-not-is_biconnected
returns-then-not-is_biconnected c =
    apart (order_accepted c.in_ok-counts.ensures.result_value) c.if-n-m.false
    c.decode.ensures.rows_after _ c.is_biconnected.ensures c.if-not-is_biconnected.true

pub two_colours-requires : goal.two_colours-requires
two_colours-requires c =
    let three = (c.is_biconnected.ensures.0 c.if-not-is_biconnected.false).three in
    record {
      n_nonzero = omega arith;
      rows = filled_rows (order_accepted c.in_ok-counts.ensures.result_value) c.decode.ensures.rows_after;
      connected = (c.is_biconnected.ensures.0 c.if-not-is_biconnected.false).connected;
    }

pub returns-in_default : goal.returns-in_default
returns-in_default c =
    colourless (order_accepted c.in_ok-counts.ensures.result_value) c.if-n-m.false c.decode.ensures.rows_after
    (c.is_biconnected.ensures.0 c.if-not-is_biconnected.false) c.in_default.ensures

pub is_contrary-requires : goal.is_contrary-requires
is_contrary-requires c =
    let three = (c.is_biconnected.ensures.0 c.if-not-is_biconnected.false).three in
    record {
      n_nonzero = omega arith;
      seats = stands_seats _ _ _ (starts_stand (order_accepted c.in_ok-counts.ensures.result_value)
          c.if-n-m.false c.decode.ensures.starts_after);
      seats_2 = stands_seats _ _ _ (goals_stand (order_accepted c.in_ok-counts.ensures.result_value)
          c.if-n-m.false c.decode.ensures.goals_after);
    }

pub returns-then-is_contrary : goal.returns-then-is_contrary
returns-then-is_contrary c =
    contrary (order_accepted c.in_ok-counts.ensures.result_value) c.if-n-m.false
    c.decode.ensures.rows_after (c.is_biconnected.ensures.0 c.if-not-is_biconnected.false)
    c.in-Some.ensures
    c.decode.ensures.starts_after c.decode.ensures.goals_after c.is_contrary.ensures c.if-is_contrary.true

pub returns : goal.returns
returns c =
    agreeing (order_accepted c.in_ok-counts.ensures.result_value) c.if-n-m.false
    c.decode.ensures.rows_after (c.is_biconnected.ensures.0 c.if-not-is_biconnected.false)
    c.in-Some.ensures
    c.decode.ensures.starts_after c.decode.ensures.goals_after c.is_contrary.ensures c.if-is_contrary.false
