-- The answer to a caller with one vacant position. Request (n): "In other cases, and where two colours will not do, answer `not judged`.
-- Turned away: 29 the number of vacant positions is not one; after 14, and then 21 for a floor not bi-connected; no other floor number is
-- tested."
--
--     impossible? F S G       on the floor F the change from S to G is impossible, or not
--     judgement d             1 for impossible, 0 for not judged
--     vacancy_answer o         the answer for the order o: the order reader's refusal, 29, 21, else accepted, with the judgement
-- What a decision decides is its type. How it does so (ColourDecision) is no part of what is promised.
-- Assumes nothing.
use Rattle.std.specs.Prelude.{ℕ, ◌-◌, not, cond, List, [], ◌∷◌, eqb}
use Rattle.answers.specs.Answer.{Answer, accepted, refuse, pass_up, holds}
use Rattle.order.specs.Floor.{Floor}
use Rattle.order.specs.Order.{position_count, rack_count, floor_of, starts_of, goals_of, order_answer}
use Rattle.motion.specs.Arrangement.{Arrangement}
use Rattle.floor.specs.FloorAnswer.{bi_connected?}
use Rattle.parity.specs.Impossible.{Impossible}
use Rattle.parity.specs.ColourDecision.{decide_impossible}

unfoldable pub impossible? : (F : Floor) (S G : Arrangement) → Dec (Impossible F S G)
unfolding decide_impossible
impossible? F S G = decide_impossible F S G

unfoldable pub judgement : {A : Type 0} → Dec A → ℕ
judgement d = cond (holds d) 1 0

-- A well-formed order "has n − m vacant positions". The place is 0.
unfoldable pub vacancy_answer : List ℕ → Answer
vacancy_answer o =
    pass_up (order_answer o)
    (refuse (not (eqb (position_count o - rack_count o) 1)) 29 0
    (refuse (not (holds (bi_connected? (floor_of o)))) 21 0
    (accepted (judgement (impossible? (floor_of o) (starts_of o) (goals_of o)) ∷ []))))
