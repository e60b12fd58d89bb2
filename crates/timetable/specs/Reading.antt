-- The answers of the timetable's readers, from document 01, "Returned numbers" and "Shape of the answers": 40 and 41, which the timetable
-- checker and the step reader share, and the step that is handed out.
--
--     StepSize c n           n is the length in bytes of a step of c moves, which a count byte keeps below 385
--     wrong_steps k t         t is not k steps one after another: one runs past the end, or bytes are left over
--     total l                the sum of the count bytes of the parts l
--     steps_answer k t        40 and 41 of the k steps of t alone
--     reading_answer s        40 and 41 of the timetable s; accepted, the counts are s and the sum of the bytes c
--     WellPacked s           neither 40 nor 41 applies to s
--     number_answer s i       what the reading refused, else 45
--     given_by a p            the part p where the answer a is accepted, else the empty part
--     begins_at a             where the part of an accepted answer a begins, in bytes from the timetable's first; else 0
--     part_given s i          the part that the step reader gives back: the step, or the empty part where the step is refused
--     place_given p s i       and where it stands in memory, where s stands at p: a place is a block and an offset in it, in bytes
--     answer_of_step r         the step reader's verdict r as an answer
-- Assumes nothing.
use Rattle.std.specs.Prelude.{ℕ, zero, suc, ◌+◌, ◌≤◌, ◌≡◌, Bool, true, false, not}
use Rattle.std.specs.Prelude.{◌||◌, List, [], ◌∷◌, length, get_or, drop, ltb, eqb, Result}
use Rattle.answers.specs.Answer.{Answer, accepted, refused, refuse, pass_up, answer_by}
use Rattle.order.specs.Floor.{some}
use Rattle.timetable.specs.Timetable.{step_length, step_parts, step_pad_set, parts_of, step_count, wrong_timetable_length}
use Rattle.timetable.specs.Timetable.{timetable_padding_set, step_answer, step_part}
use Rattle.answers.specs.declared.Refusal.{Refusal}
use Rattle.timetable.specs.declared.Part.{Part}

pub record StepSize (c n : ℕ) : Type 0 where
  pub size_is : n ≡ step_length c
  pub some_bytes : 1 ≤ n
  pub moves_within : c ≤ n
  pub few_bytes : n ≤ 384

unfoldable pub wrong_steps : ℕ → List ℕ → Bool
wrong_steps zero t = not (eqb (length t) 0)
wrong_steps (suc k) [] = true
wrong_steps (suc k) (c ∷ t) = ltb (length (c ∷ t)) (step_length c) || wrong_steps k (drop (step_length c) (c ∷ t))

unfoldable pub total : List (List ℕ) → ℕ
total [] = 0
total (part ∷ l) = get_or part 0 0 + total l

unfoldable pub steps_answer : ℕ → List ℕ → Answer
steps_answer k t =
    refuse (wrong_steps k t) 40 0 (refuse (some step_pad_set (step_parts k t)) 41 0 (accepted (k ∷ total (step_parts k t) ∷ [])))

unfoldable pub reading_answer : List ℕ → Answer
reading_answer s =
    refuse (wrong_timetable_length s) 40 0 (refuse (timetable_padding_set s) 41 0 (accepted (step_count s ∷ total (parts_of s) ∷ [])))

pub record WellPacked (s : List ℕ) : Type 0 where
  pub length_right : wrong_timetable_length s ≡ false
  pub padding_clear : timetable_padding_set s ≡ false

unfoldable pub number_answer : List ℕ → ℕ → Answer
number_answer s i = pass_up (reading_answer s) (refuse (eqb i 0 || ltb (step_count s) i) 45 0 (reading_answer s))

-- the part p where the answer is accepted
abbrev pub given_by : Answer → List ℕ → List ℕ
given_by (accepted counts) p = p
given_by (refused number place) p = []

-- an answer that begins with no value has no part
abbrev pub begins_at : Answer → ℕ
begins_at (accepted []) = 0
begins_at (accepted (at ∷ counts)) = at
begins_at (refused number place) = 0

-- "Reading one step gives back that part of the lent timetable itself, its count byte first and its pad last."
unfoldable pub part_given : List ℕ → ℕ → List ℕ
part_given s i = given_by (step_answer s i) (step_part s i)

-- "that part of the lent timetable itself": not other bytes that are equal
unfoldable pub place_given : ℕ × ℕ → List ℕ → ℕ → ℕ × ℕ
place_given p s i = (p.0, begins_at (step_answer s i) + p.1)

abbrev pub told : Part → List ℕ
told p = p.offset ∷ p.len ∷ []

abbrev pub answer_of_step : Result Part Refusal → Answer
answer_of_step = answer_by told
