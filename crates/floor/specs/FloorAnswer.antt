-- The planner's judgement of an order before it measures its buffer, from document 01, "The floor" and "Returned numbers", and requests
-- (d), "Ring floors", and (j), "Four sides only".
--
--     Joins F a b        an edge of the floor F joins a and b
--     passes? t          the test t passes or not
--     bi_connected? F     the floor F is bi-connected or not
--     ring? F            the floor F is a ring or not
--     round_place F A r   where on the circle of the ring F rack r of the arrangement A stands
--     SameRound F m A B  the racks 1 to m stand in the same order round the ring F in A and in B
--     same_round? F m A B     that is so or not
--     vacancies_owed F    how many positions of the floor F have to be vacant
--     floor_answer o      the answer for the order o: the order reader's refusal, else the first of 20, 21, 24, 26 that applies, else
--                        accepted
-- What a decision decides is its type: `BiConnected` and `Ring` are defined by walks (crates/graph, Connected), `SameOrder` by any three
-- racks (crates/ring, Order). How it does so (crates/graph/proofs/WayDecision.antt, crates/ring/proofs/RoundDecision.antt) is no part of
-- what is promised.
-- Assumes nothing.
use Rattle.std.specs.Prelude.{ℕ, ◌+◌, Bool, true, false, not, cond, ◌&&◌, List, [], length, T, ltb}
use Rattle.std.proofs.Math.Decide.{ℕ_discrete}
use Rattle.answers.specs.Answer.{Answer, accepted, holds, refuse, pass_up}
use Rattle.order.specs.Floor.{Floor, joined}
use Rattle.order.specs.Order.{position_count, rack_count, floor_of, starts_of, goals_of, order_answer}
use Rattle.motion.specs.Arrangement.{Arrangement, stands}
use Rattle.graph.specs.Connected.{BiConnected, Ring}
use Rattle.ring.specs.Circle.{round_of, place_on}
use Rattle.ring.specs.Order.{SameOrder}
use Rattle.graph.proofs.WayDecision.{alike?, both?, decide_bi_connected}
use Rattle.ring.proofs.RoundDecision.{same_order?}
use Rattle.floor.specs.Sides.{four_sided?}

abbrev pub Joins : Floor → ℕ → ℕ → Type 0
Joins F a b = T (joined F a b)

unfoldable pub passes? : (t : Bool) → Dec (T t)
passes? true = yes tt
passes? false = no (λ f. f)

-- "A floor is bi-connected if n is at least 3, it is connected, and it stays connected when any one position is taken away."
unfoldable pub bi_connected? : (F : Floor) → Dec (BiConnected F.positions (Joins F))
unfolding passes? decide_bi_connected
bi_connected? F = decide_bi_connected F.positions (Joins F) (λ a b. passes? (joined F a b))

-- "A ring is a bi-connected floor with exactly n edges." The edges of a well-formed order ascend strictly, so that none is listed twice.
unfoldable pub ring? : (F : Floor) → Dec (Ring F.positions (Joins F) (length F.edges))
unfolding ℕ_discrete alike? both? bi_connected?
ring? F =
    alike? (λ h. record { bi_connected = h.1; count = h.0 }) (λ r. (r.count, r.bi_connected))
    (both? (ℕ_discrete (length F.edges) F.positions) (bi_connected? F))

-- the n positions of a ring are read round it from position 0 on, towards the lower of its two neighbours (crates/ring, Circle)
unfoldable pub round_place : Floor → Arrangement → ℕ → ℕ
round_place F A r = place_on (round_of F.positions (joined F)) (stands A r)

-- "whenever the racks stand in the same order round it at start and goal"
abbrev pub SameRound : Floor → ℕ → Arrangement → Arrangement → Type 0
SameRound F m A B = SameOrder m (round_place F A) (round_place F B)

unfoldable pub same_round? : (F : Floor) (m : ℕ) (A B : Arrangement) → Dec (SameRound F m A B)
unfolding same_order?
same_round? F m A B = same_order? m (round_place F A) (round_place F B)

-- 20: "m + 2 is above n"; "On a ring, 20 is given only when no position is vacant."
abbrev pub vacancies_owed : Floor → ℕ
vacancies_owed F = cond (holds (ring? F)) 1 2

-- "The lowest number that applies is returned, from these sets: planner 10 to 14 and 20 to 23". The place is 0. "22 is no longer met."
-- 21: "floor not bi-connected"; "24 the order round the ring differs; after 21, before 23";
-- "26 a position has five or more edges; after 24, before 23"
unfoldable pub floor_answer : List ℕ → Answer
floor_answer o =
    pass_up (order_answer o)
    (refuse (ltb (position_count o) (rack_count o + vacancies_owed (floor_of o))) 20 0
    (refuse (not (holds (bi_connected? (floor_of o)))) 21 0
    (refuse (holds (ring? (floor_of o)) && not (holds (same_round? (floor_of o) (rack_count o) (starts_of o) (goals_of o)))) 24 0
    (refuse (not (holds (four_sided? (floor_of o)))) 26 0
    (accepted [])))))
