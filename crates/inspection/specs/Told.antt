-- What the tests see of a delivery: one value at a time of what came of the three calls.
--
--     chosen v x y z              x, y or z, for v = 0, 1 or any other
--     call_of w a                 the planner's answer, or what came of the maker's or the checker's call, for w = 0, 1 or any other
--     value_of v c                of an accepted call 0, its first count and its second; of a refused one its number and its place; 255 if
--                                 it was not reached
--     Told o P T w v r P' T'      r is such a value of answers that the three calls may give, with the buffers P' and T' that they leave
-- Assumes nothing.
use Rattle.std.specs.Prelude.{ℕ, ◌≡◌, cond, List, get_or, eqb}
use Rattle.answers.specs.Answer.{accepted, refused}
use Rattle.delivery.specs.Delivery.{Call, not_reached, answered, Answers, Called}

unfoldable pub chosen : {A : Type 0} → ℕ → A → A → A → A
chosen v x y z = cond (eqb v 0) x (cond (eqb v 1) y z)

abbrev pub call_of : ℕ → Answers → Call
call_of w a = chosen w (answered a.planner) a.maker a.checker

abbrev pub value_of : ℕ → Call → ℕ
value_of v not_reached = chosen v 255 0 0
value_of v (answered (accepted counts)) = chosen v 0 (get_or counts 0 0) (get_or counts 1 0)
value_of v (answered (refused number place)) = chosen v number place 0

pub record Told (o P T : List ℕ) (w v r : ℕ) (P' T' : List ℕ) : Type 0 where
  pub answers : Answers
  pub called : Called o P T answers P' T'
  pub value : r ≡ value_of v (call_of w answers)
