-- The timetable maker by computation, on document 01's case book, and an inhabitant for what each law of the maker assumes.
--
--     order₁, plan₁             document 01's order and plan ("Programs")
--     order₂, plan₂             case 2: on F, rack 1 from 0 to 1, rack 2 from 1 to 3, and the moves 1>3 then 0>1
--     maker_open o p buffer     the buffer after the maker, with all that it is made of open
--     made_1, made_2            their timetables, byte for byte
--     answer_1, answer_2        2 steps and 1 step, in the shortest buffer that has room
--     buffer_1                  the record in front of a buffer of 16 bytes, and the rest as it was
--     meets_44, buffer_44       one byte less is 44, and no byte changes
--     low_first                 an empty plan is 33 for that order, however short the buffer
--     none_made                 an order whose starts are its goals, and an empty plan: no steps
--     theorem_1, theorem_2      the theorem holds of both cases
--     passed_1                  the pass over case 1's plan agrees with the rule, and its windows hold the made steps
-- Assumes nothing.
use Prim.Native.Nat.{ℕ}
use mathlib.Core.Path.{◌≡◌, refl}
use mathlib.Core.List.{List, [], ◌∷◌}
use lib.Dec.{lit≤}
use Rattle.answers.specs.Answer.{accepted, refused}
use Rattle.field.specs.Bits.{pair_bits, pad, padded, bytes, to_bytes}
use Rattle.field.specs.Listed.{moves_of}
use Rattle.field.specs.Writing.{written}
use Rattle.motion.specs.Arrangement.{rack_from, rack_at}
use Rattle.motion.specs.StepOf.{insert, sort}
use Rattle.motion.proofs.Inhabited.{floor_f, starts, plan, plan_leads, starts_sound}
use Rattle.plan_check.proofs.Examples.{plan_open}
use Rattle.plan.specs.Plan.{plan_moves, plan_answer}
use Rattle.timetable.specs.Timetable.{step_bits, all_step_bits, timetable_bits, timetable_record}
use Rattle.scheduling.specs.Making.{of_rack, of_leaving, place_leaving, step_after, place_after, turn_after, turn_for, timed}
use Rattle.scheduling.specs.Making.{greatest, in_step, moves_in, steps_from, made_steps}
use Rattle.scheduling.specs.Windows.{all_steps}
use Rattle.scheduling.proofs.TabledSteps.{all_steps-made}
use Rattle.scheduling.specs.Maker.{made_of, maker_answer, buffer_after, Timetabled}
use Rattle.scheduling.proofs.MakerLaws.{timetabled}

abbrev pub order₁ : List ℕ
order₁ = 0x08 ∷ 0x0A ∷ 0x08 ∷ 0x00 ∷ 0x10 ∷ 0x02 ∷ 0x04 ∷ 0x20 ∷ 0x43 ∷ 0x08 ∷ 0x30 ∷ 0x03 ∷ 0x0C ∷ 0x00 ∷ []

-- 0>1, 3>2, 2>0, 1>3
abbrev pub plan₁ : List ℕ
plan₁ = 0x00 ∷ 0x00 ∷ 0x10 ∷ 0x00 ∷ 0x10 ∷ 0xC2 ∷ 0x08 ∷ 0x00 ∷ 0x43 ∷ []

-- the same with the racks named
abbrev pub plan₁-named : List ℕ
plan₁-named = 0x00 ∷ 0x00 ∷ 0x11 ∷ 0x00 ∷ 0x10 ∷ 0x03 ∷ 0x08 ∷ 0x10 ∷ 0x80 ∷ 0x04 ∷ 0x10 ∷ 0xC0 ∷ []

abbrev pub order₂ : List ℕ
order₂ = 0x08 ∷ 0x0A ∷ 0x08 ∷ 0x00 ∷ 0x10 ∷ 0x02 ∷ 0x04 ∷ 0x20 ∷ 0x43 ∷ 0x08 ∷ 0x30 ∷ 0x01 ∷ 0x04 ∷ 0x30 ∷ []

-- 1>3, 0>1
abbrev pub plan₂ : List ℕ
plan₂ = 0x00 ∷ 0x00 ∷ 0x08 ∷ 0x04 ∷ 0x30 ∷ 0x01 ∷ []

unfoldable pub maker_open : List ℕ → List ℕ → List ℕ → List ℕ
unfolding plan_open plan_moves moves_of buffer_after maker_answer made_of made_steps timed turn_for turn_after place_after step_after
    of_rack of_leaving place_leaving rack_at rack_from greatest steps_from moves_in in_step sort insert
    timetable_record timetable_bits all_step_bits step_bits pair_bits padded pad to_bytes bytes
maker_open o p buffer = buffer_after o p buffer

-- "Its timetable is 00 00 08 02 00 10 C2 02 04 30 80."
pub made_1 : timetable_record (made_of order₁ plan₁) ≡ 0x00 ∷ 0x00 ∷ 0x08 ∷ 0x02 ∷ 0x00 ∷ 0x10 ∷ 0xC2 ∷ 0x02 ∷ 0x04 ∷ 0x30 ∷ 0x80 ∷ []
unfolding maker_open
made_1 = refl

-- and so it is where the plan names the racks
pub made_1_named : timetable_record (made_of order₁ plan₁-named) ≡ timetable_record (made_of order₁ plan₁)
unfolding maker_open
made_1_named = refl

-- "moves 1>3 then 0>1 make one step"
pub made_2 : timetable_record (made_of order₂ plan₂) ≡ 0x00 ∷ 0x00 ∷ 0x04 ∷ 0x02 ∷ 0x00 ∷ 0x10 ∷ 0x43 ∷ []
unfolding maker_open
made_2 = refl

accepted_1 : plan_answer order₁ plan₁ ≡ accepted (4 ∷ [])
unfolding maker_open
accepted_1 = refl

accepted_2 : plan_answer order₂ plan₂ ≡ accepted (2 ∷ [])
unfolding maker_open
accepted_2 = refl

pub answer_1 : maker_answer order₁ plan₁ 15 ≡ accepted (2 ∷ [])
unfolding maker_open
answer_1 = refl

pub answer_2 : maker_answer order₂ plan₂ 9 ≡ accepted (1 ∷ [])
unfolding maker_open
answer_2 = refl

-- 3 × 4 + 3 bytes are 15
pub meets_44 : maker_answer order₁ plan₁ 14 ≡ refused 44 0
unfolding maker_open
meets_44 = refl

pub low_first : maker_answer order₁ (0x00 ∷ 0x00 ∷ 0x00 ∷ []) 0 ≡ refused 33 1
unfolding maker_open
low_first = refl

-- five bytes stand behind the record
pub buffer_1 : buffer_after order₁ plan₁ (1 ∷ 2 ∷ 3 ∷ 4 ∷ 5 ∷ 6 ∷ 7 ∷ 8 ∷ 9 ∷ 10 ∷ 11 ∷ 12 ∷ 13 ∷ 14 ∷ 15 ∷ 16 ∷ [])
    ≡ 0x00 ∷ 0x00 ∷ 0x08 ∷ 0x02 ∷ 0x00 ∷ 0x10 ∷ 0xC2 ∷ 0x02 ∷ 0x04 ∷ 0x30 ∷ 0x80 ∷ 12 ∷ 13 ∷ 14 ∷ 15 ∷ 16 ∷ []
unfolding maker_open written
buffer_1 = refl

pub buffer_44 : buffer_after order₁ plan₁ (1 ∷ 2 ∷ 3 ∷ 4 ∷ 5 ∷ 6 ∷ 7 ∷ 8 ∷ 9 ∷ 10 ∷ 11 ∷ 12 ∷ 13 ∷ 14 ∷ [])
    ≡ 1 ∷ 2 ∷ 3 ∷ 4 ∷ 5 ∷ 6 ∷ 7 ∷ 8 ∷ 9 ∷ 10 ∷ 11 ∷ 12 ∷ 13 ∷ 14 ∷ []
unfolding maker_open
buffer_44 = refl

-- n = 1, one rack from 0 to 0
pub none_made : maker_answer (0x02 ∷ 0x00 ∷ 0x04 ∷ 0x00 ∷ 0x00 ∷ []) (0x00 ∷ 0x00 ∷ 0x00 ∷ []) 3 ≡ accepted (0 ∷ [])
unfolding maker_open
none_made = refl

pub theorem_1 : Timetabled order₁ plan₁
theorem_1 = timetabled order₁ plan₁ (4 ∷ []) accepted_1

pub theorem_2 : Timetabled order₂ plan₂
theorem_2 = timetabled order₂ plan₂ (2 ∷ []) accepted_2

pub passed_1 : all_steps plan ≡ made_steps starts plan
passed_1 = all_steps-made floor_f (lit≤ tt) starts_sound plan_leads
