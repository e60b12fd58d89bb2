-- The making rule on document 01's case book, computed ("Case book", cases 1 and 2, and what is printed under "Programs"), and an
-- inhabitant for what each law of the rule assumes.
--
--     case_1_made       case 1's plan makes the timetable of two steps that "Programs" prints
--     case_1_turned     so does the same plan with its last two moves the other way round
--     case_2_made       "moves 1>3 then 0>1 make one step"
--     waiting-made      a rack's first move waits for the step in which its place is left: the case book's cases do not
--                       show this half of the rule
--     nine, nine_plan    nine racks behind one another in a row of positions, and a plan that takes each one position on,
--                        the foremost first
--     nine-made         eight of its moves make a train, and the ninth goes one step later
--     none_made         with no moves there is no step
--     case_1_theorem    the theorem holds of case 1's plan
--     case_1_bytes      its steps take 8 bytes, of at most 3 × 4
--     case_2_theorem    and of case 2's moves
--     none_theorem      and of no moves, from wherever racks stand soundly
--     case_1_scheduled  case 1's plan is scheduled
--     case_1_ruled      each of its moves has the step that the rule gives it
--     case_2_joining    case 2: rack 1's move joins the step in which rack 2 leads
--     case_1_carrying   case 1: rack 2, carried to 2 beforehand, changes nothing in the step 0>1
-- Assumes nothing.
use Prim.Native.Nat.{ℕ}
use mathlib.Core.Bool.{cond}
use mathlib.Core.List.Memᴰ
use mathlib.Core.List.{List, [], ◌∷◌}
use mathlib.Core.Path.{◌≡◌, refl}
use lib.Dec.{eqb, lit<}
use borrow.Author.Tests.{ne_eqb}
use lib.ListN.{length}
use Rattle.field.specs.Packing.{pack}
use Rattle.window.specs.Rows.{step_bytes, steps_bytes}
use Rattle.order.specs.Floor.{Floor, some, is_pair, joined}
use Rattle.motion.specs.Arrangement.{Arrangement, occupied, vacant, rack_from, rack_at}
use Rattle.motion.specs.Move.{on_floor, legal_move, fault_by, move_fault, goes_to, after, after_move}
use Rattle.motion.specs.Replay.{replay_from, replay_moves}
use Rattle.motion.proofs.Lawful.{Leads, still, replay_moves_ended}
use Rattle.motion.specs.Sound.{Sound}
use Rattle.motion.proofs.SoundLaws.{is_sound, is_sound_sound}
use Rattle.motion.proofs.Inhabited.{floor_f, starts, goals, plan, plan_replayed, plan_leads, starts_sound}
use Rattle.motion.proofs.StepCases.{train}
use Rattle.motion.specs.StepOf.{insert, sort}
use Rattle.scheduling.specs.Making.{of_rack, of_leaving, place_leaving, step_after, place_after, turn_after, turn_for, timed}
use Rattle.scheduling.specs.Making.{greatest, in_step, moves_in, steps_from, made_steps}
use Rattle.scheduling.proofs.StepMoves.{StepMoves, first, next, step_moves_none, joining, carrying}
use Rattle.scheduling.proofs.Timing.{Ruled, none, ruled_timed, history}
use Rattle.scheduling.proofs.Schedule.{Scheduled, scheduled_none}
use Rattle.scheduling.proofs.Made.{plan_scheduled, Made, made, made_replayed}

pub case_1_made : made_steps (0 ∷ 3 ∷ []) ((0, 1) ∷ (3, 2) ∷ (2, 0) ∷ (1, 3) ∷ []) ≡ ((0, 1) ∷ (3, 2) ∷ []) ∷ ((1, 3) ∷ (2, 0) ∷ []) ∷ []
unfolding made_steps timed turn_for turn_after place_after step_after of_rack of_leaving place_leaving greatest steps_from moves_in in_step
    sort insert rack_at rack_from after_move after goes_to
case_1_made = refl

pub case_1_turned : made_steps (0 ∷ 3 ∷ []) ((0, 1) ∷ (3, 2) ∷ (1, 3) ∷ (2, 0) ∷ []) ≡ ((0, 1) ∷ (3, 2) ∷ []) ∷ ((1, 3) ∷ (2, 0) ∷ []) ∷ []
unfolding made_steps timed turn_for turn_after place_after step_after of_rack of_leaving place_leaving greatest steps_from moves_in in_step
    sort insert rack_at rack_from after_move after goes_to
case_1_turned = refl

pub case_2_made : made_steps (0 ∷ 1 ∷ []) ((1, 3) ∷ (0, 1) ∷ []) ≡ ((0, 1) ∷ (1, 3) ∷ []) ∷ []
unfolding made_steps timed turn_for turn_after place_after step_after of_rack of_leaving place_leaving greatest steps_from moves_in in_step
    sort insert rack_at rack_from after_move after goes_to
case_2_made = refl

-- rack 2 goes from 3 through 1 to 2, and rack 1, at 0, follows it into 1 in step 2
pub waiting-made : made_steps (0 ∷ 3 ∷ []) ((3, 1) ∷ (1, 2) ∷ (0, 1) ∷ []) ≡ ((3, 1) ∷ []) ∷ ((0, 1) ∷ (1, 2) ∷ []) ∷ []
unfolding made_steps timed turn_for turn_after place_after step_after of_rack of_leaving place_leaving greatest steps_from moves_in in_step
    sort insert rack_at rack_from after_move after goes_to
waiting-made = refl

abbrev pub nine : Arrangement
nine = 0 ∷ 1 ∷ 2 ∷ 3 ∷ 4 ∷ 5 ∷ 6 ∷ 7 ∷ 8 ∷ []

abbrev pub nine_plan : List (ℕ × ℕ)
nine_plan = (8, 9) ∷ (7, 8) ∷ (6, 7) ∷ (5, 6) ∷ (4, 5) ∷ (3, 4) ∷ (2, 3) ∷ (1, 2) ∷ (0, 1) ∷ []

pub nine-made : made_steps nine nine_plan ≡ train 1 8 ∷ train 0 1 ∷ []
unfolding train made_steps timed turn_for turn_after place_after step_after of_rack of_leaving place_leaving greatest
    steps_from moves_in in_step
    sort insert rack_at rack_from after_move after goes_to
nine-made = refl

pub none_made : (A : Arrangement) → made_steps A [] ≡ []
unfolding made_steps timed greatest steps_from
none_made A = refl

-- the theorem

pub case_1_theorem : Made floor_f starts plan goals
case_1_theorem = made_replayed floor_f starts plan goals starts_sound plan_replayed

pub case_1_bytes : length (steps_bytes (made_steps starts plan)) ≡ 8
unfolding steps_bytes step_bytes pack
case_1_bytes = rw case_1_made refl

sound_2 : Sound 4 (0 ∷ 1 ∷ [])
unfolding is_sound occupied some vacant
sound_2 = (is_sound_sound 4 (0 ∷ 1 ∷ [])).0 tt

leads_2 : Leads floor_f (0 ∷ 1 ∷ []) ((1, 3) ∷ (0, 1) ∷ []) (1 ∷ 3 ∷ [])
unfolding replay_moves replay_from move_fault fault_by on_floor joined some is_pair occupied vacant after_move after goes_to
leads_2 = (replay_moves_ended floor_f (0 ∷ 1 ∷ []) ((1, 3) ∷ (0, 1) ∷ []) (1 ∷ 3 ∷ [])).0 refl

pub case_2_theorem : Made floor_f (0 ∷ 1 ∷ []) ((1, 3) ∷ (0, 1) ∷ []) (1 ∷ 3 ∷ [])
case_2_theorem = made floor_f sound_2 leads_2

pub none_theorem : (F : Floor) (A : Arrangement) → Sound F.positions A → Made F A [] A
none_theorem F A s = made F s still

-- what its parts assume

pub case_1_scheduled : Scheduled floor_f starts (history starts plan) goals
case_1_scheduled = plan_scheduled (scheduled_none floor_f starts starts_sound) plan_leads

pub case_1_ruled : Ruled (history starts plan)
case_1_ruled = ruled_timed starts [] plan none

-- rack 2 leads from 1 to 3, and rack 1 follows from 0 to 1
rack_2_leads : StepMoves floor_f (0 ∷ 1 ∷ []) ((1, 3) ∷ []) (0 ∷ 3 ∷ []) (λ p. 1)
unfolding legal_move on_floor joined some is_pair occupied vacant after_move after goes_to
rack_2_leads =
    joining (step_moves_none floor_f (0 ∷ 1 ∷ []) (λ p. 1))
    (record { sound = sound_2; sound_after_lem = sound_2; legal = tt; rack = 1; is = lit< tt; before = refl; behind = refl })
    (λ p. 1) (first tt) (λ p d. refl)

pub case_2_joining : StepMoves floor_f (0 ∷ 1 ∷ []) ((0, 1) ∷ (1, 3) ∷ []) (1 ∷ 3 ∷ []) (λ p. cond (eqb p 0) 2 1)
unfolding legal_move on_floor joined some is_pair occupied vacant after_move after goes_to
case_2_joining =
    joining rack_2_leads
    (record { sound = sound_2; sound_after_lem = starts_sound; legal = tt; rack = 0; is = lit< tt; before = refl; behind = refl })
    (λ p. cond (eqb p 0) 2 1) (next (Memᴰ.head refl) refl (lit< tt)) (λ p d. rw (ne_eqb p 0 d) refl)

sound_1 : Sound 4 (1 ∷ 3 ∷ [])
unfolding is_sound occupied some vacant
sound_1 = (is_sound_sound 4 (1 ∷ 3 ∷ [])).0 tt

pub case_1_carrying : StepMoves floor_f (0 ∷ 2 ∷ []) ((0, 1) ∷ []) (1 ∷ 2 ∷ []) (λ p. 1)
unfolding legal_move on_floor joined some is_pair occupied vacant after_move after goes_to
case_1_carrying =
    let begun : StepMoves floor_f (0 ∷ 3 ∷ []) ((0, 1) ∷ []) (1 ∷ 3 ∷ []) (λ p. 1) =
    joining (step_moves_none floor_f starts (λ p. 1))
    (record { sound = starts_sound; sound_after_lem = starts_sound; legal = tt; rack = 0; is = lit< tt; before = refl; behind = refl })
    (λ p. 1) (first tt) (λ p d. refl) in
    carrying begun
    (record { sound = starts_sound; sound_after_lem = sound_1; legal = tt; rack = 1; is = lit< tt; before = refl; behind = refl }) tt
