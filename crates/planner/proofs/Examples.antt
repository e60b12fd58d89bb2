-- What the planner's contracts and laws assume can be met: the case book's order (document 01, "Programs": F, rack 1 from 0 to 3, rack 2
-- from 3 to 0) and its plan.
--
--     plan-moves_met      what `method::plan_moves` asks for, in a buffer of just the bytes that 23 asks for
--     round_met, ring_floor_met, ring-plan_met    what `method::round` and the theorem on rings ask for
--     mirrored_no_plan    an order on a ring that no moves fulfil
--     plan                the case book's plan
--     solves_met          its moves solve the order
--     moves_met           and stand packed behind the head, with the racks 1, 2, 2 and 1
--     made_met            in a buffer of 1155 bytes the planner may make that plan
--     turned_down_met     in one of 1154 bytes it answers 23, and changes no byte
-- Assumes nothing.
use Prim.Native.Nat.{ℕ, ◌*◌, ◌≤◌}
use mathlib.Core.Path.{◌≡◌, refl, sym, ap}
use mathlib.Core.Bool.{true}
use mathlib.Core.List.{List, [], ◌∷◌}
use native.Mathlib.Omega.{arith}
use lib.Dec.{lit≤, ltb}
use lib.ListN.{get_or, length, replicate, length-replicate}
use Rattle.answers.specs.Answer.{Answer, accepted, refused, refuse, pass_up}
use Rattle.field.specs.Bits.{bits_of, bits, number, field, pairs, positions}
use Rattle.field.specs.Packing.{pack_positions}
use Rattle.field.specs.Listed.{all_units}
use Rattle.field.specs.Writing.{written}
use Rattle.order.specs.Floor.{some, is_pair, joined}
use Rattle.order.specs.Order.{position_count, edge_count, rack_count, floor_of, starts_of, goals_of, counts}
use Rattle.order.specs.Tables.{decoded_rows, decoded_starts, decoded_goals}
use Rattle.motion.specs.Arrangement.{occupied, vacant, rack_from, rack_at}
use Rattle.motion.specs.Move.{on_floor, fault_by, move_fault, goes_to, after, after_move}
use Rattle.motion.specs.Replay.{replay_from, replay_moves, listed}
use Rattle.tables.specs.Accepted.{OrderGave}
use Rattle.tables.proofs.AcceptedLaws.{order_gave}
use Rattle.plan.specs.Plan.{plan_record}
use Rattle.plan_check.specs.Solutions.{NoPlan}
use Rattle.floor.specs.CaseBookOrders.{three_in_ring, mirrored}
use Rattle.floor.proofs.FloorLaws.{told_disordered}
use Rattle.floor.proofs.ExamplesLaws.{two_racks, floors_judged, plannable_met, ring_met, on_met}
use Rattle.method.specs.Moves.{Solves, SomeTables, Moves}
use Rattle.planner.specs.Rings.{OnRingFloor, TurnedDown}
use Rattle.planner.proofs.RingTheorem.{ring-turned_down}
use Rattle.planner.specs.Planner.{refusals, PlanMade, turned_down, made}

order_read : OrderGave two_racks 4 5 2
order_read =
    order_gave two_racks 4 5 2
    (unfold counts position_count edge_count rack_count field number bits_of bits in sym plannable_met.right)

pub plan-moves_met : SomeTables 4 5 2 (decoded_rows two_racks) (decoded_starts two_racks) (decoded_goals two_racks)
    × (18 * (4 * (4 * 4)) ≤ length (replicate {A = ℕ} 1152 0))
plan-moves_met = (
  record {
    order = two_racks;
    tables = record { gave = order_read; can = plannable_met; rows_are = refl; starts_are = refl; goals_are = refl };
  },
  (let n = length-replicate {A = ℕ} 1152 0 in omega arith),
)

ring_read : OrderGave three_in_ring 3 3 1
ring_read =
    order_gave three_in_ring 3 3 1
    (unfold counts position_count edge_count rack_count field number bits_of bits in sym ring_met.right)

pub round_met : SomeTables 3 3 1 (decoded_rows three_in_ring) (decoded_starts three_in_ring) (decoded_goals three_in_ring)
round_met =
    record {
      order = three_in_ring;
      tables = record { gave = ring_read; can = ring_met; rows_are = refl; starts_are = refl; goals_are = refl };
    }

pub ring_floor_met : OnRingFloor three_in_ring
ring_floor_met = record { right = ring_met.right; ring = on_met.ring; vacancy = on_met.vacancy }

-- the ring of three with one rack has a plan, so 24 is not its answer
pub ring-plan_met : TurnedDown three_in_ring
ring-plan_met = ring-turned_down three_in_ring ring_floor_met

-- three racks on a ring of four that stand the other way round at the goal: no moves lead there
mirrored_floor : OnRingFloor mirrored
unfolding position_count rack_count field number bits_of bits
mirrored_floor =
    let told = told_disordered mirrored floors_judged.6 in
    record { right = told.0; ring = told.1; vacancy = lit≤ tt }

pub mirrored_no_plan : NoPlan mirrored
mirrored_no_plan = (ring-turned_down mirrored mirrored_floor).0 floors_judged.6

abbrev pub plan : List (ℕ × ℕ)
plan = (0, 1) ∷ (3, 2) ∷ (2, 0) ∷ (1, 3) ∷ []

pub solves_met : Solves two_racks 4 plan
unfolding replay_moves replay_from move_fault fault_by on_floor joined some is_pair occupied vacant after_move after
    goes_to floor_of starts_of
    goals_of position_count edge_count rack_count field number bits_of bits pairs positions
solves_met = record { few = lit≤ tt; replayed = refl; still = λ e. absurd (apart (ap (λ (l : List ℕ). get_or l 0 0) e)) }
  where
    apart : ◌≡◌ {A = ℕ} 0 3 → ⊥
    apart e = omega arith

-- each move with its rack, and these packed
pub moves_met : Moves two_racks 4 (replicate 1152 0)
    (written (replicate 1152 0) 0 (pack_positions (all_units true ((0, 1, 1) ∷ (3, 2, 2) ∷ (2, 0, 2) ∷ (1, 3, 1) ∷ [])))) 4
unfolding listed rack_at rack_from after_move after goes_to starts_of position_count edge_count rack_count field number
    bits_of bits pairs positions
moves_met = record { moves = plan; count = refl; solves = solves_met; packed = record { is = refl } }

-- only 23 is left to be judged
judged : (b : ℕ) → refusals two_racks b ≡ refuse (ltb b 1155) 23 0 (accepted [])
unfolding refusals position_count field number bits_of bits
judged b = ap (λ (a : Answer). pass_up a (refuse (ltb b 1155) 23 0 (accepted []))) floors_judged.2

pub made_met : PlanMade two_racks (replicate 1155 0) (accepted (4 ∷ [])) (written (replicate 1155 0) 0
    (plan_record true (starts_of two_racks) plan))
made_met = made plan (judged (length (replicate {A = ℕ} 1155 0))) (unfold position_count field number bits_of bits in solves_met)

pub turned_down_met : PlanMade two_racks (replicate 1154 0) (refused 23 0) (replicate 1154 0)
turned_down_met = turned_down {number = 23} {place = 0} (judged (length (replicate {A = ℕ} 1154 0)))
