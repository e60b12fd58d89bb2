-- `floor::judge` meets its contract: a refusal of the order reader is passed up, and `Layers` has the answers above its acceptance.
-- Assumes nothing.
use Prim.Native.Nat.{ℕ}
use mathlib.Core.Bool.{false≢true}
use mathlib.Core.Path.{sym, subst, ◌∙◌}
use native.Mathlib.Omega.{arith}
use Rattle.order.specs.Order.{floor_of, starts_of, goals_of}
use Rattle.tables.proofs.AcceptedLaws.{order_accepted}
use Rattle.floor.specs.FloorAnswer.{SameRound}
use Rattle.floor.specs.RingTables.{RingTables}
use Rattle.floor.proofs.FloorRows.{filled_rows}
use Rattle.floor.proofs.Layers.{order_refused, order_handed, handed, refused_too, crowded, ring_full, ring_other, ring-plain}
use Rattle.floor.proofs.Layers.{rows-counted, rings, ring-tables, apart, many_sided, plain}
use Rattle.floor.proofs.judge.Goals as goal

pub returns-in_err-counts : goal.returns-in_err-counts
returns-in_err-counts c =
    let is = c.from_residual.ensures.1 in
    let down = c.in_err-counts.ensures.result_value in
    record {
      result_value = order_refused c.args.order.now c.from_residual.result _ is down;
      result_value_2 = order_handed c.args.order.now c.from_residual.result _ is down;
      rows_after = c.decode.ensures.rows_after;
      starts_after = c.decode.ensures.starts_after;
      goals_after = c.decode.ensures.goals_after;
    }

pub is_ring-requires : goal.is_ring-requires
is_ring-requires c = record {
  rows = filled_rows (order_accepted c.in_ok-counts.ensures.result_value) c.decode.ensures.rows_after;
  e_value = rows-counted (order_accepted c.in_ok-counts.ensures.result_value) c.decode.ensures.rows_after;
}

pub returns-then-n-m : goal.returns-then-n-m
returns-then-n-m c =
    let down = ring_full (order_accepted c.in_ok-counts.ensures.result_value)
    ((rings (order_accepted c.in_ok-counts.ensures.result_value)
    c.decode.ensures.rows_after).0 (c.is_ring.ensures.0 c.if-is_ring.true)) c.if-n-m.true in
    record {
      result_value = down;
      result_value_2 = refused_too c.args.order.now 20 0 down;
      rows_after = c.decode.ensures.rows_after;
      starts_after = c.decode.ensures.starts_after;
      goals_after = c.decode.ensures.goals_after;
    }

pub same_round-requires : goal.same_round-requires
same_round-requires c = (
  c.args.order.now,
  ((let it : RingTables c.args.order.now c.in_ok-counts.counts.positions
      c.in_ok-counts.counts.racks c.decode.new.rows c.decode.new.starts c.decode.new.goals = ring-tables
      (order_accepted c.in_ok-counts.ensures.result_value) c.decode.ensures.rows_after
      (c.is_ring.ensures.0 c.if-is_ring.true) c.if-n-m.false c.decode.ensures.starts_after
      c.decode.ensures.goals_after in it)),
)

pub returns-then-not-same_round : goal.returns-then-not-same_round
returns-then-not-same_round c =
    let down = ring_other (order_accepted c.in_ok-counts.ensures.result_value)
    ((rings (order_accepted c.in_ok-counts.ensures.result_value)
    c.decode.ensures.rows_after).0 (c.is_ring.ensures.0 c.if-is_ring.true)) c.if-n-m.false
    (λ s. false≢true (sym c.if-not-same_round.true ∙ (c.same_round.ensures c.args.order.now
    ((let it : RingTables c.args.order.now c.in_ok-counts.counts.positions c.in_ok-counts.counts.racks
    c.decode.new.rows c.decode.new.starts c.decode.new.goals = ring-tables
    (order_accepted c.in_ok-counts.ensures.result_value) c.decode.ensures.rows_after
    (c.is_ring.ensures.0 c.if-is_ring.true) c.if-n-m.false c.decode.ensures.starts_after
    c.decode.ensures.goals_after in it))).1
    (subst (λ (m : ℕ). SameRound (floor_of c.args.order.now) m (starts_of c.args.order.now) (goals_of c.args.order.now))
    (sym (order_accepted c.in_ok-counts.ensures.result_value).racks_are) s))) in
    record {
      result_value = down;
      result_value_2 = refused_too c.args.order.now 24 0 down;
      rows_after = c.decode.ensures.rows_after;
      starts_after = c.decode.ensures.starts_after;
      goals_after = c.decode.ensures.goals_after;
    }

pub returns-then-is_ring : goal.returns-then-is_ring
returns-then-is_ring c =
    let up = ring-plain (order_accepted c.in_ok-counts.ensures.result_value)
    ((rings (order_accepted c.in_ok-counts.ensures.result_value)
    c.decode.ensures.rows_after).0 (c.is_ring.ensures.0 c.if-is_ring.true)) c.if-n-m.false
    (subst (λ (m : ℕ). SameRound (floor_of c.args.order.now) m (starts_of c.args.order.now) (goals_of c.args.order.now))
    (order_accepted c.in_ok-counts.ensures.result_value).racks_are
    ((c.same_round.ensures c.args.order.now ((let it : RingTables c.args.order.now c.in_ok-counts.counts.positions
    c.in_ok-counts.counts.racks c.decode.new.rows c.decode.new.starts c.decode.new.goals =
    ring-tables (order_accepted c.in_ok-counts.ensures.result_value)
    c.decode.ensures.rows_after (c.is_ring.ensures.0 c.if-is_ring.true) c.if-n-m.false
    c.decode.ensures.starts_after c.decode.ensures.goals_after in it))).0 c.if-not-same_round.false)) in
    record {
      result_value = up;
      result_value_2 = handed (order_accepted c.in_ok-counts.ensures.result_value) up;
      rows_after = c.decode.ensures.rows_after;
      starts_after = c.decode.ensures.starts_after;
      goals_after = c.decode.ensures.goals_after;
    }

pub overflow_add-m : goal.overflow_add-m
overflow_add-m c = omega (arith, (order_accepted c.in_ok-counts.ensures.result_value))

pub returns-then-n-m-2 : goal.returns-then-n-m-2
returns-then-n-m-2 c =
    let down = crowded (order_accepted c.in_ok-counts.ensures.result_value)
    (λ r. false≢true (sym c.if-is_ring.false ∙ c.is_ring.ensures.1 ((rings
    (order_accepted c.in_ok-counts.ensures.result_value) c.decode.ensures.rows_after).1 r)))
    (omega arith) in
    record {
      result_value = down;
      result_value_2 = refused_too c.args.order.now 20 0 down;
      rows_after = c.decode.ensures.rows_after;
      starts_after = c.decode.ensures.starts_after;
      goals_after = c.decode.ensures.goals_after;
    }

pub is_biconnected-requires : goal.is_biconnected-requires
is_biconnected-requires c = filled_rows (order_accepted c.in_ok-counts.ensures.result_value)
    c.decode.ensures.rows_after

pub returns-then-not-is_biconnected : goal.returns-then-not-is_biconnected
returns-then-not-is_biconnected c =
    let down = apart (order_accepted c.in_ok-counts.ensures.result_value)
    c.decode.ensures.rows_after ((λ r. false≢true (sym c.if-is_ring.false ∙ c.is_ring.ensures.1
    ((rings (order_accepted c.in_ok-counts.ensures.result_value)
    c.decode.ensures.rows_after).1 r)))) c.if-n-m-2.false _ c.is_biconnected.ensures
    c.if-not-is_biconnected.true in
    record {
      result_value = down;
      result_value_2 = refused_too c.args.order.now 21 0 down;
      rows_after = c.decode.ensures.rows_after;
      starts_after = c.decode.ensures.starts_after;
      goals_after = c.decode.ensures.goals_after;
    }

pub is_four_sided-requires : goal.is_four_sided-requires
is_four_sided-requires c =
    filled_rows (order_accepted c.in_ok-counts.ensures.result_value) c.decode.ensures.rows_after

pub returns-then-not-is_four_sided : goal.returns-then-not-is_four_sided
returns-then-not-is_four_sided c =
    let down = many_sided (order_accepted c.in_ok-counts.ensures.result_value)
    c.decode.ensures.rows_after ((λ r. false≢true (sym c.if-is_ring.false ∙ c.is_ring.ensures.1
    ((rings (order_accepted c.in_ok-counts.ensures.result_value)
    c.decode.ensures.rows_after).1 r)))) c.if-n-m-2.false _ c.is_biconnected.ensures
    c.if-not-is_biconnected.false _ c.is_four_sided.ensures c.if-not-is_four_sided.true in
    record {
      result_value = down;
      result_value_2 = refused_too c.args.order.now 26 0 down;
      rows_after = c.decode.ensures.rows_after;
      starts_after = c.decode.ensures.starts_after;
      goals_after = c.decode.ensures.goals_after;
    }

pub returns : goal.returns
returns c =
    let up = plain (order_accepted c.in_ok-counts.ensures.result_value)
    c.decode.ensures.rows_after ((λ r. false≢true (sym c.if-is_ring.false ∙ c.is_ring.ensures.1
    ((rings (order_accepted c.in_ok-counts.ensures.result_value)
    c.decode.ensures.rows_after).1 r)))) c.if-n-m-2.false _ c.is_biconnected.ensures
    c.if-not-is_biconnected.false _ c.is_four_sided.ensures c.if-not-is_four_sided.false in
    record {
      result_value = up;
      result_value_2 = handed (order_accepted c.in_ok-counts.ensures.result_value) up;
      rows_after = c.decode.ensures.rows_after;
      starts_after = c.decode.ensures.starts_after;
      goals_after = c.decode.ensures.goals_after;
    }
