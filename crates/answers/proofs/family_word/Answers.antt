-- `answers::family_word` meets its contract: a law of `Words` for each arm. Assumes nothing.
use native.Mathlib.Omega.{arith}
use Rattle.answers.specs.Ascii.{ascii}
use Rattle.answers.proofs.Words.{word_order, word_floor, word-plan, word-timetable, word_other}
use Rattle.answers.proofs.family_word.Goals as goal

pub returns-in-10-to-19 : goal.returns-in-10-to-19
unfolding ascii
returns-in-10-to-19 c = word_order c.args.number (omega arith) (omega arith)

pub returns-in-20-to-29 : goal.returns-in-20-to-29
unfolding ascii
returns-in-20-to-29 c = word_floor c.args.number (omega arith) (omega arith)

pub returns-in-30-to-39 : goal.returns-in-30-to-39
unfolding ascii
returns-in-30-to-39 c = word-plan c.args.number (omega arith) (omega arith)

pub returns-in-40-to-49 : goal.returns-in-40-to-49
unfolding ascii
returns-in-40-to-49 c = word-timetable c.args.number (omega arith) (omega arith)

pub returns-in_default : goal.returns-in_default
unfolding ascii
returns-in_default c = word_other c.args.number (λ h. grind arith)
