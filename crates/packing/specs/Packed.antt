-- The one number that a C caller gets, from include/wichteab.h, "Answers": "The low 8 bits of an answer are its number: 0 where the input
-- is accepted, else one of the refusals below". "The bits above are, for a refusal, its place, and where the input is accepted what the
-- function's own description says."
--
--     packed rest a    the answer a as one number, where `rest` makes one number of the counts of an accepted input
--     nothing          no counts are given
--     one_count         the one count: a full order's length, a plan's moves, a made timetable's steps, a live floor's steps; or 1 for
--                      impossible
--     steps_and_moves    a timetable's steps in 22 bits, its moves above them
--     length_and_offset  a step's length in 16 bits, its offset above it
--     start_goal_moves   a carry's start in 8 bits, its goal in 8 above it, its moves above them
-- Assumes nothing.
use Rattle.std.specs.Prelude.{ℕ, ◌+◌, ◌*◌, ◌^◌, List, get_or}
use Rattle.answers.specs.Answer.{Answer, accepted, refused}

abbrev pub packed : (List ℕ → ℕ) → Answer → ℕ
packed rest (accepted counts) = rest counts * 256
packed rest (refused number place) = number + place * 256

abbrev pub nothing : List ℕ → ℕ
nothing counts = 0

abbrev pub one_count : List ℕ → ℕ
one_count counts = get_or counts 0 0

abbrev pub steps_and_moves : List ℕ → ℕ
steps_and_moves counts = get_or counts 0 0 + get_or counts 1 0 * 2 ^ 22

abbrev pub length_and_offset : List ℕ → ℕ
length_and_offset values = get_or values 1 0 + get_or values 0 0 * 2 ^ 16

abbrev pub start_goal_moves : List ℕ → ℕ
start_goal_moves counts = get_or counts 0 0 + get_or counts 1 0 * 2 ^ 8 + get_or counts 2 0 * 2 ^ 16
