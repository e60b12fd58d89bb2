-- The number that a C caller gets, as include/wichteab.h packs it and takes it apart again under "Answers". A shift right by k bits is a
-- quotient by 2 ^ k, a mask of k ones the remainder by 2 ^ k, a cast to uint32_t the remainder by 2 ^ 32; size_t is as wide as the number.
--
--     number_in r, place_in r        wichteab_number, wichteab_place
--     nothing_of r, record_length_of r, judgement_of r, plan_moves_of r, made_steps_of r, floor_steps_of r, steps_and_moves_of r,
--     offset_and_length_of r, start_goal_moves_of r
--                                  what a caller reads of an accepted answer
--     taken_apart values r          the answer that a caller makes of the number r: its number, and then its place or what `values` reads
--     uncounted a                  the answer a, without the counts of an accepted input
--     Tells rest values a r        the number r tells the answer a: it is the answer, packed, and taken apart it is the answer again
-- Assumes nothing.
use Rattle.std.specs.Prelude.{ℕ, ◌/◌, ◌%◌, ◌^◌, ◌≡◌, cond, List, [], ◌∷◌, eqb}
use Rattle.answers.specs.Answer.{Answer, accepted, refused}
use Rattle.packing.specs.Packed.{packed}

-- (uint32_t)(answer & 0xFF)
abbrev pub number_in : ℕ → ℕ
number_in r = r % 2 ^ 8 % 2 ^ 32

-- (uint32_t)(answer >> 8)
abbrev pub place_in : ℕ → ℕ
place_in r = r / 2 ^ 8 % 2 ^ 32

-- "Accepted: the answer is 0."
abbrev pub nothing_of : ℕ → List ℕ
nothing_of r = []

-- wichteab_expanded_length: (size_t)(answer >> 8)
abbrev pub record_length_of : ℕ → List ℕ
record_length_of r = r / 2 ^ 8 ∷ []

-- wichteab_impossible: (uint32_t)(answer >> 8)
abbrev pub judgement_of : ℕ → List ℕ
judgement_of r = r / 2 ^ 8 % 2 ^ 32 ∷ []

-- wichteab_plan_moves: (uint32_t)(answer >> 8)
abbrev pub plan_moves_of : ℕ → List ℕ
plan_moves_of r = r / 2 ^ 8 % 2 ^ 32 ∷ []

-- wichteab_timetable_steps: (uint32_t)(answer >> 8 & 0x3FFFFF)
abbrev pub made_steps_of : ℕ → List ℕ
made_steps_of r = r / 2 ^ 8 % 2 ^ 22 % 2 ^ 32 ∷ []

-- wichteab_floor_steps: (uint32_t)(answer >> 8)
abbrev pub floor_steps_of : ℕ → List ℕ
floor_steps_of r = r / 2 ^ 8 % 2 ^ 32 ∷ []

-- the steps likewise; wichteab_timetable_moves: (uint32_t)(answer >> 30)
abbrev pub steps_and_moves_of : ℕ → List ℕ
steps_and_moves_of r = r / 2 ^ 8 % 2 ^ 22 % 2 ^ 32 ∷ r / 2 ^ 30 % 2 ^ 32 ∷ []

-- wichteab_step_offset: (size_t)(answer >> 24); wichteab_step_length: (size_t)(answer >> 8 & 0xFFFF)
abbrev pub offset_and_length_of : ℕ → List ℕ
offset_and_length_of r = r / 2 ^ 24 ∷ r / 2 ^ 8 % 2 ^ 16 ∷ []

-- wichteab_carry_start: (uint32_t)(answer >> 8 & 0xFF); wichteab_carry_goal: (uint32_t)(answer >> 16 & 0xFF); wichteab_carry_moves:
-- (uint32_t)(answer >> 24)
abbrev pub start_goal_moves_of : ℕ → List ℕ
start_goal_moves_of r = r / 2 ^ 8 % 2 ^ 8 % 2 ^ 32 ∷ r / 2 ^ 16 % 2 ^ 8 % 2 ^ 32 ∷ r / 2 ^ 24 % 2 ^ 32 ∷ []

-- "0 where the input is accepted, else one of the refusals"
unfoldable pub taken_apart : (ℕ → List ℕ) → ℕ → Answer
taken_apart values r = cond (eqb (number_in r) 0) (accepted (values r)) (refused (number_in r) (place_in r))

-- the order check gives no counts
abbrev pub uncounted : Answer → Answer
uncounted (accepted counts) = accepted []
uncounted (refused number place) = refused number place

pub record Tells (rest : List ℕ → ℕ) (values : ℕ → List ℕ) (a : Answer) (r : ℕ) : Type 0 where
  pub number_is : r ≡ packed rest a
  pub comes_apart : taken_apart values r ≡ a
