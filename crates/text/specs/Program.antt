-- What the timetable program prints for its input, from document 01, "Programs": "The timetable program reads an order followed by a plan,
-- lends 65,536 bytes, and prints the lines below. … On a refusal a program prints one line and no other".
--
--     answer_text a l     the text for the timetable maker's answer a, where the steps made are l
--     program_text s      the text for the input s
-- Assumes nothing.
use Rattle.std.specs.Prelude.{ℕ, List}
use Rattle.answers.specs.Answer.{Answer, accepted, refused}
use Rattle.scheduling.specs.Maker.{made_of, maker_answer}
use Rattle.writers.specs.Lines.{refusal_line}
use Rattle.text.specs.Text.{timetable_text}
use Rattle.text.specs.Split.{order_part, plan_part}

abbrev pub answer_text : Answer → List (List (ℕ × ℕ)) → List ℕ
answer_text (accepted counts) steps = timetable_text steps
answer_text (refused number place) steps = refusal_line number place

unfoldable pub program_text : List ℕ → List ℕ
program_text s = answer_text (maker_answer (order_part s) (plan_part s) 65536) (made_of (order_part s) (plan_part s))
