-- What a plan that the plan checker accepts gives the layers above.
--
--     PlanGave o p v, plan_gave        what acceptance of the plan p for the order o tells
--     count_is, count_below            the count that it is accepted with
--     head_there, order_there          both records have a head
--     tail-moves, tail_fits            its moves are read from the tail, the part from the fourth byte on, in the edition that the head
--                                      tells
-- Assumes nothing.
use Prim.Native.Nat.{ℕ, ◌-◌, ◌*◌, ◌^◌, ◌≤◌, ◌<◌}
use mathlib.Core.Path.{◌≡◌, refl, sym}
use mathlib.Core.Bool.{Bool, false}
use mathlib.Core.List.{List, [], ◌∷◌}
use lib.ListN.{length, take, drop}
use Rattle.answers.specs.Answer.{accepted}
use Rattle.field.specs.Listed.{move_size, moves_at}
use Rattle.field.proofs.BitLaws.{field_lt}
use Rattle.field.proofs.ListedLaws.{listed-drop}
use Rattle.field.proofs.RecordLaws.{rest_is}
use Rattle.field.proofs.UnitLaws.{Fitting, fitting, tail-units}
use Rattle.order.specs.Order.{position_count, edge_count, rack_count, floor_of, starts_of, goals_of, counts, WellFormed}
use Rattle.motion.specs.Replay.{ended, replay_moves, listed}
use Rattle.motion.proofs.Lawful.{Leads, replay_moves_ended}
use Rattle.motion.proofs.PebbleLaws.{pebble_replay}
use Rattle.tables.specs.Accepted.{WellPlaced, OrderGave}
use Rattle.tables.proofs.AcceptedLaws.{well_placed, order_gave}
use Rattle.plan.specs.Plan.{named, move_count, plan_listed, plan_moves, plan_units, wrong_plan_length, plan_padding_set, plan_answer}
use Rattle.plan.proofs.PlanRecord.{moves-counted}
use Rattle.plan_check.proofs.Replayed.{plan_replayed}

pub record PlanGave (o p v : List ℕ) : Type 0 where
  pub order_right : WellFormed o
  pub placed_well : WellPlaced o
  pub order_gives : OrderGave o (position_count o) (edge_count o) (rack_count o)
  pub length_right : wrong_plan_length p ≡ false
  pub padding_clear : plan_padding_set p ≡ false
  pub counted : move_count p ∷ [] ≡ v
  pub leads : Leads (floor_of o) (starts_of o) (plan_moves p) (goals_of o)
  pub racks_told : plan_listed p ≡ listed (named p) (starts_of o) (plan_moves p)

pub plan_gave : (o p v : List ℕ) → plan_answer o p ≡ accepted v → PlanGave o p v
unfolding counts
plan_gave o p v e =
    let a = ((plan_replayed o).0 p v).0 e in
    let w = well_placed o a.order_right in
    let replayed : replay_moves (floor_of o) (starts_of o) (plan_moves p) ≡ ended (goals_of o) =
    ((pebble_replay (floor_of o) (rack_count o) (starts_of o) (goals_of o) w.task).0 (plan_moves p)).1 (rw moves-counted a.solution) in
    record {
      order_right = a.order_right;
      placed_well = w;
      order_gives = order_gave o (position_count o) (edge_count o) (rack_count o) (sym a.order_right);
      length_right = a.length_right;
      padding_clear = a.padding_clear;
      counted = a.counted;
      leads = (replay_moves_ended (floor_of o) (starts_of o) (plan_moves p) (goals_of o)).0 replayed;
      racks_told = a.racks_told;
    }

module _ (o p : List ℕ) (k : ℕ) (e : accepted (k ∷ []) ≡ plan_answer o p) where
  pub gave : PlanGave o p (k ∷ [])
  gave = plan_gave o p (k ∷ []) (sym e)

  pub count_is : k ≡ move_count p
  count_is = let c : move_count p ∷ [] ≡ k ∷ [] = gave.counted in cc

  pub count_below : k < 2 ^ 22
  unfolding move_count
  count_below = rw count_is (field_lt p 0 22)

  fit : Fitting p (plan_units p)
  unfolding wrong_plan_length
  fit = fitting p (plan_units p) gave.length_right

  pub head_there : 3 ≤ length p
  head_there = fit.head_there

  pub order_there : 3 ≤ length o
  order_there = gave.order_gives.head_there

  module _ (n : Bool) (edition : n ≡ named p) where
    pub tail-moves : moves_at n (take (length p - 3) (drop 3 p)) 0 k ≡ plan_moves p
    unfolding moves_at plan_moves plan_listed
    tail-moves = rw (rest_is 3 p, ← listed-drop n p 3 0 k, count_is, edition) refl

    pub tail_fits : 6 * (move_size n * k) ≤ 8 * length (take (length p - 3) (drop 3 p))
    unfolding plan_units
    tail_fits = rw (count_is, edition) (tail-units p (plan_units p) fit)
