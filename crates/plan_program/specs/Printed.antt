-- What the plan program writes for its input, from document 01, "Programs". Which moves a plan has is left free by the papers, so this is
-- no equation with the input alone: it names an answer that the planner may give, and the bytes that it leaves then.
--
--     plan_text a B           the text for the planner's answer a, where the lent bytes are B afterwards
--     Printed s out out' n   for the input s the program writes n bytes: those at the front of out', which was out before
--     PlanPrinted s p        the byte string p is the record of a plan for the order s
-- Assumes nothing.
use Rattle.std.specs.Prelude.{ℕ, ◌*◌, ◌≡◌, true, List, [], ◌∷◌, length, get_or, take}
use Rattle.answers.specs.Answer.{Answer, accepted, refused}
use Rattle.field.specs.Units.{record_length}
use Rattle.field.specs.Writing.{Wrote}
use Rattle.writers.specs.Lines.{refusal_line}
use Rattle.planner.specs.Planner.{PlanMade}
use Rattle.order.specs.Order.{position_count, starts_of}
use Rattle.plan.specs.Plan.{plan_record, plan_answer}
use Rattle.method.specs.Moves.{Solves}

-- "writes the plan record", whose length the count of its moves gives; "On a refusal a program prints one line and no other"
abbrev pub plan_text : Answer → List ℕ → List ℕ
plan_text (accepted counts) lent = take (record_length (3 * get_or counts 0 0)) lent
plan_text (refused number place) lent = refusal_line number place

-- "The plan program reads an order from standard input, lends 65,536 bytes …, and writes the plan record." Request (h): "The planner writes
-- edition two", "The plan program now serves n up to 15".
pub record Printed (s out out' : List ℕ) (n : ℕ) : Type 0 where
  pub answer : Answer
  pub left : List ℕ
  pub lent : length out ≡ 65536
  pub planned : PlanMade s out answer left
  pub wrote : Wrote out 0 (plan_text answer left) out' n

pub record PlanPrinted (s p : List ℕ) : Type 0 where
  pub moves : List (ℕ × ℕ)
  pub is : p ≡ plan_record true (starts_of s) moves
  pub solves : Solves s (position_count s) moves
  pub checked : plan_answer s p ≡ accepted (length moves ∷ [])
