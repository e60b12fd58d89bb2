-- The three calls in turn, as `deliver` makes them, and demand 3 in their answers.
--
--     Call                      what came of a call: its answer, or that it was not reached
--     Answers                   what came of the three calls, side by side
--     plan_length k              the length in bytes of a plan of k moves, in edition two
--     plan_alone k P             the plan of k moves at the front of the buffer P, alone
--     Called o P T a P' T'      on the order o and the buffers P and T the three calls may answer a and leave P' and T' behind
--     TimetableCalled o p k T m c T'    the maker and the checker have answered, and left, what holds of the plan p of k moves
--     DeliveredBy o P T a P' T'    the order is delivered, and the calls have answered so
--     DeliversBy o P T a P' T'  every order that can be planned is delivered by the three calls, given such a buffer
--     call_of, answers_of       what the code answers, as these
-- Assumes nothing.
use Rattle.std.specs.Prelude.{ℕ, ◌+◌, ◌*◌, ◌≤◌, ◌≡◌, List, [], ◌∷◌, length, take, Option, None, Some}
use Rattle.answers.specs.Answer.{Answer, accepted, refused}
use Rattle.field.specs.Units.{record_length}
use Rattle.order.specs.Order.{position_count}
use Rattle.timetable.specs.Timetable.{timetable_answer}
use Rattle.timetable.specs.Checking.{answer_of_check}
use Rattle.scheduling.specs.Maker.{maker_answer, buffer_after, answer_of as answer_of_maker}
use Rattle.floor.specs.Plannable.{Plannable}
use Rattle.planner.specs.Planner.{PlanMade, answer_of as answer_of_planner}
use Rattle.delivery.specs.Theorems.{timetable_alone, TimetableMade, Delivered}
use Rattle.delivery.specs.declared.Delivery.{Delivery}

pub data Call : Type 0 where
  not_reached : Call
  answered : Answer → Call

pub record Answers : Type 0 where
  pub planner : Answer
  pub maker : Call
  pub checker : Call

-- "Plan: move count k in 22 bits, two spare … bits, k moves, pad." Request (h): "The planner writes edition two", with 18 bits to a move.
unfoldable pub plan_length : ℕ → ℕ
plan_length k = record_length (3 * k)

unfoldable pub plan_alone : ℕ → List ℕ → List ℕ
plan_alone k P = take (plan_length k) P

pub data Called (o P T : List ℕ) : Answers → List ℕ → List ℕ → Type 0 where
  -- the planner refuses: the maker and the checker are not reached, and the timetable buffer stays as it was
  unplanned : {number place : ℕ} {P' : List ℕ}
      → PlanMade o P (refused number place) P'
      → Called o P T (record { planner = refused number place; maker = not_reached; checker = not_reached }) P' T
  -- the maker refuses, by 44: the plan stays written, and the checker is not reached
  untimed : {k number place : ℕ} {P' T' : List ℕ}
      → PlanMade o P (accepted (k ∷ [])) P'
      → maker_answer o (plan_alone k P') (length T) ≡ refused number place
      → T' ≡ buffer_after o (plan_alone k P') T
      → Called o P T (record { planner = accepted (k ∷ []); maker = answered (refused number place); checker = not_reached }) P' T'
  -- all three answer
  checked : {k s : ℕ} {c : Answer} {P' T' : List ℕ}
      → PlanMade o P (accepted (k ∷ [])) P'
      → maker_answer o (plan_alone k P') (length T) ≡ accepted (s ∷ [])
      → T' ≡ buffer_after o (plan_alone k P') T
      → c ≡ timetable_answer o (timetable_alone T')
      → Called o P T (record { planner = accepted (k ∷ []); maker = answered (accepted (s ∷ [])); checker = answered c }) P' T'

-- the maker's answer, the checker's, and the buffer that the maker left
pub record TimetableCalled (o p : List ℕ) (k : ℕ) (T : List ℕ) (m c : Call) (T' : List ℕ) : Type 0 where
  pub timetable : TimetableMade o p k T
  pub made : m ≡ answered (accepted (timetable.steps ∷ []))
  pub left : T' ≡ buffer_after o p T
  pub accepts : c ≡ answered (accepted (timetable.steps ∷ k ∷ []))

pub record DeliveredBy (o P T : List ℕ) (a : Answers) (P' T' : List ℕ) : Type 0 where
  pub delivered : Delivered o P a.planner P'
  pub then : 3 * delivered.moves + 3 ≤ length T → TimetableCalled o delivered.plan delivered.moves T a.maker a.checker T'

abbrev pub DeliversBy : List ℕ → List ℕ → List ℕ → Answers → List ℕ → List ℕ → Type 0
DeliversBy o P T a P' T' =
    let n = position_count o in Plannable o → 18 * (n * (n * n)) + 3 ≤ length P → DeliveredBy o P T a P' T'

abbrev pub call_of : {X : Type 0} → (X → Answer) → Option X → Call
call_of answer_of None = not_reached
call_of answer_of (Some v) = answered (answer_of v)

abbrev pub answers_of : Delivery → Answers
answers_of d =
    record {
      planner = answer_of_planner d.plan;
      maker = call_of answer_of_maker d.timetable;
      checker = call_of answer_of_check d.check;
    }
