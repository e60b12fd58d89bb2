-- The calls on the live floor, from request (k), "The live floor, and who may drive it": for every picture, role, order and timetable the
-- answer, and the picture afterwards.
--
--     allowed k r P          the role r has a right to the call k on the picture P
--     cannot_run P o t        61 applies to the picture P with the lent order o and timetable t
--     cannot_take_back P o t   62 does
--     own_answer k P o t      the answer to the call k that is no refusal by 60 or by the checker
--     call_answer k r P o t   the answer to the call k by the role r on the picture P, with the lent order o and timetable t
--     changed k P o t        what the call makes of the picture, where it is accepted
--     by_answer a x y         x where the answer a is an acceptance, and y where it is a refusal
--     picture_after k r P o t the picture afterwards
--     answer_of v             the verdict v as an answer
-- Whether a step is legal on a picture is decided in HereDecision.antt; what is decided is the type, `LegalHere`.
-- Assumes nothing.
use Rattle.std.specs.Prelude.{ℕ, ◌+◌, ◌-◌, Bool, true, false, not, ◌&&◌, ◌||◌, List, [], ◌∷◌, eqb, ltb, leb, Result}
use Rattle.answers.specs.Answer.{Answer, accepted, refused, holds, refuse, pass_up, the_count, answer_by}
use Rattle.order.specs.Order.{position_count, floor_of, starts_of}
use Rattle.order.specs.Tables.{racks_at}
use Rattle.motion.specs.TurnedStep.{turned_step}
use Rattle.chains.specs.StepOn.{step_on}
use Rattle.timetable.specs.Timetable.{step_count, timetable_answer}
use Rattle.live.specs.Picture.{Picture, is_open}
use Rattle.live.specs.Roles.{Kind, opening, reading, running, taking_back, right}
use Rattle.live.specs.declared.Role.{Role}
use Rattle.answers.specs.declared.Refusal.{Refusal}
use Rattle.stepping.specs.Judging.{step_numbered}
use Rattle.live.specs.HereDecision.{legal_here?}

-- "Until an opening succeeds, only opening is a right."
abbrev pub allowed : Kind → Role → Picture → Bool
allowed opening r P = right opening r
allowed reading r P = right reading r && is_open P
allowed running r P = right running r && is_open P
allowed taking_back r P = right taking_back r && is_open P

-- 61: "no step left to run, or the lent step is not legal on the picture"
unfoldable pub cannot_run : Picture → List ℕ → List ℕ → Bool
cannot_run P o t = leb (step_count t) P.steps || not (holds (legal_here? P (floor_of o) (step_numbered t (P.steps + 1))))

-- 62: "no step to take back, or the lent step's moves, each turned round and then put in ascending order, are not a legal step on the
-- picture". A timetable with fewer steps than were run has no step to take back.
unfoldable pub cannot_take_back : Picture → List ℕ → List ℕ → Bool
cannot_take_back P o t =
    eqb P.steps 0 || ltb (step_count t) P.steps || not (holds (legal_here? P (floor_of o) (turned_step (step_numbered t P.steps))))

-- accepted, the count is that of the steps run and not taken back
unfoldable pub own_answer : Kind → Picture → List ℕ → List ℕ → Answer
own_answer opening P o t = accepted (0 ∷ [])
own_answer reading P o t = accepted (P.steps ∷ [])
own_answer running P o t = refuse (cannot_run P o t) 61 0 (accepted ((P.steps + 1) ∷ []))
own_answer taking_back P o t = refuse (cannot_take_back P o t) 62 0 (accepted ((P.steps - 1) ∷ []))

-- "60 the role has no such right"; "60 comes before the checker's own numbers, 61 and 62 after them"
unfoldable pub call_answer : Kind → Role → Picture → List ℕ → List ℕ → Answer
call_answer k r P o t = refuse (not (allowed k r P)) 60 0 (pass_up (timetable_answer o t) (own_answer k P o t))

-- opened, each rack stands at its start; a step takes its racks along all at once, and taken back it does so turned round
unfoldable pub changed : Kind → Picture → List ℕ → List ℕ → Picture
changed opening P o t = record { racks = racks_at (starts_of o); steps = 0; positions = position_count o }
changed reading P o t = P
changed running P o t =
    record { racks = step_on P.racks (step_numbered t (P.steps + 1)); steps = P.steps + 1; positions = P.positions }
changed taking_back P o t =
    record { racks = step_on P.racks (turned_step (step_numbered t P.steps)); steps = P.steps - 1; positions = P.positions }

-- "A refused call changes nothing."
abbrev pub by_answer : {X : Type 0} → Answer → X → X → X
by_answer (accepted counts) x y = x
by_answer (refused number place) x y = y

unfoldable pub picture_after : Kind → Role → Picture → List ℕ → List ℕ → Picture
picture_after k r P o t = by_answer (call_answer k r P o t) (changed k P o t) P

abbrev pub answer_of : Result ℕ Refusal → Answer
answer_of = answer_by the_count
