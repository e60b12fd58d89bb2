-- The answer for a floor's dearest carry and the buffer afterwards, from request (m): "The floor comes as an order that passes 10 to 14;
-- its own racks are set aside." "Turned away: 27 the floor is not connected; 28 the plan buffer cannot hold an edition-two plan of n − 1
-- moves; after 14, in that order."
--
--     connected? F         the floor F is connected or not; what is decided is the decision's type (crates/graph, Connected)
--     not_connected F       27 applies to the floor F
--     cannot_hold F b       28 applies to the floor F and a buffer of b bytes
--     carry_answer o b      the answer for the order o and a buffer of b bytes: accepted, with start, goal and count of moves
--     buffer_after o B      the buffer B afterwards
--     answer_of v           the verdict v as an answer
-- Assumes nothing.
use Rattle.std.specs.Prelude.{ℕ, ◌-◌, ◌*◌, Bool, true, not, List, [], ◌∷◌, length, ltb, Result}
use Rattle.std.proofs.Math.Decide.{dec_lt}
use Rattle.answers.specs.Answer.{Answer, accepted, refuse, pass_up, holds, answer_by}
use Rattle.field.specs.Listed.{move_size}
use Rattle.field.specs.Units.{record_length}
use Rattle.field.specs.Writing.{left_by}
use Rattle.order.specs.Floor.{Floor, joined}
use Rattle.order.specs.Order.{floor_of, order_answer}
use Rattle.graph.specs.Connected.{Below, Connected}
use Rattle.floor.specs.FloorAnswer.{Joins, passes?}
use Rattle.graph.proofs.WayDecision.{whole?}
use Rattle.carry.specs.Carry.{longest, dearest_start, dearest_goal, carry_record}
use Rattle.answers.specs.declared.Refusal.{Refusal}
use Rattle.farthest.specs.declared.Carry.{Carry}

unfoldable pub connected? : (F : Floor) → Dec (Connected F.positions (Joins F))
unfolding dec_lt passes? whole?
connected? F =
    whole? (Joins F) (Below F.positions) F.positions (λ p l. l) (λ a b. passes? (joined F a b)) (λ p. dec_lt p F.positions)

-- 27: "the floor is not connected"
unfoldable pub not_connected : Floor → Bool
not_connected F = not (holds (connected? F))

-- 28: "the plan buffer cannot hold an edition-two plan of n − 1 moves"
unfoldable pub cannot_hold : Floor → ℕ → Bool
cannot_hold F b = ltb b (record_length (move_size true * (F.positions - 1)))

-- The places are 0. Accepted, the count of moves is that of the shortest plan.
unfoldable pub carry_answer : List ℕ → ℕ → Answer
carry_answer o b =
    pass_up (order_answer o)
    (refuse (not_connected (floor_of o)) 27 0
    (refuse (cannot_hold (floor_of o) b) 28 0
    (accepted (dearest_start (floor_of o) ∷ dearest_goal (floor_of o) ∷ longest (floor_of o) ∷ []))))

-- the record at the front of the buffer, "and the bytes after the record are unchanged"
unfoldable pub buffer_after : List ℕ → List ℕ → List ℕ
buffer_after o B = left_by (carry_answer o (length B)) (carry_record (floor_of o)) B

abbrev pub told : Carry → List ℕ
told c = c.start ∷ c.goal ∷ c.moves ∷ []

abbrev pub answer_of : Result Carry Refusal → Answer
answer_of = answer_by told
