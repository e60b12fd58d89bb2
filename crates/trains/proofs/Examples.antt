-- Steps of document 01's case book on tables, computed: an inhabitant for what each law of steps on tables assumes, and the steps that
-- the case book names as not legal.
--
--     floor_f_few, floor_f_below, floor_f-right   the case book's floor has few positions, and edges that 13 passes
--     starts_sound, three_sound    case 1's starts, and case 3's racks at 0, 1, 2, are sound arrangements
--     starts_held                  the table of the starts holds them
--     timetable_small              case 1's moves have positions below 64
--     case_1_first, case_1_second  case 1's two steps are legal by the tables
--     case_1_made                  the first, made on the table of the starts, gives the table of the arrangement after it
--     case_1_tables                the replay on tables comes from the table of the starts to that of the goals
--     case_1_judged                and is judged as the replay on arrangements is
--     case_1_accepted              accepted with 2 steps and 4 moves
--     case_2_tables                case 2's train of two is replayed on tables
--     case_3_ring, case_3_swap     case 3's two steps are not legal by the tables
--     case_3_stays                 and leave the racks where they are
--     eight-tables, nine-tables    a train of eight is legal by the tables, one of nine is not
--     side_by_side                 nine moves are, where one of them is a train of its own
-- Assumes nothing.
use Prim.Native.Nat.{ℕ, ◌≤◌}
use mathlib.Core.Path.{◌≡◌, refl}
use mathlib.Core.Bool.{Bool, true, false, ◌&&◌}
use mathlib.Core.List.{List, [], ◌∷◌, ◌++◌}
use native.Mathlib.Omega.{arith}
use lib.Dec.{T, ltb, ltb→lt}
use Rattle.answers.specs.Answer.{accepted}
use Rattle.field.specs.Bytes.{BelowPairs, none₂, more₂}
use Rattle.order.specs.Floor.{some}
use Rattle.order.specs.Order.{bad_edge, precedes, ascending, wrong_edges}
use Rattle.order.specs.Tables.{marked, placed}
use Rattle.motion.specs.Arrangement.{occupied, vacant}
use Rattle.motion.specs.Move.{goes_to, after}
use Rattle.motion.specs.Step.{every, ascends, leaves, enters, entered_once}
use Rattle.motion.specs.Replay.{ended, replay_from, replay_steps}
use Rattle.motion.proofs.StepDecision.{legal_step?}
use Rattle.motion.specs.Judgement.{judged}
use Rattle.motion.specs.Sound.{Sound}
use Rattle.motion.proofs.SoundLaws.{is_sound, is_sound_sound}
use Rattle.motion.proofs.Test.{and_parts}
use Rattle.motion.proofs.Inhabited.{floor_f, starts, goals}
use Rattle.motion.proofs.StepCases.{timetable, lane, train, eight}
use Rattle.tables.specs.Tables.{edge_at, held_at, misplaced_on, judged_on}
use Rattle.tables.proofs.TablesLaws.{Holds}
use Rattle.tables.proofs.TableLaws.{placed-holds}
use Rattle.tables.proofs.MovesOnLaws.{matrix_of, table_of}
use Rattle.tables.specs.Simulation.{Each, each_none, each_more}
use Rattle.chains.specs.StepOn.{led_on, sound_moves, all_led, legal_step_on, taken_up, put_down, step_on, ran_on}
use Rattle.trains.specs.StepsOn.{step_fault_on, replay_steps_on}
use Rattle.trains.proofs.StepsOnLaws.{steps_judged}

pub floor_f_few : floor_f.positions ≤ 64
floor_f_few = omega arith

-- the test for positions below 64
small : ℕ × ℕ → Bool
small m = ltb m.0 64 && ltb m.1 64

below_64 : (l : List (ℕ × ℕ)) → T (every small l) → BelowPairs 64 l
unfolding every small
below_64 [] t = none₂
below_64 (m ∷ l) t =
    let b = (and_parts (ltb m.0 64 && ltb m.1 64) (every small l)).0 t in
    let c = (and_parts (ltb m.0 64) (ltb m.1 64)).0 b.0 in
    more₂ (ltb→lt m.0 64 c.0) (ltb→lt m.1 64 c.1) (below_64 l b.1)

pub floor_f_below : BelowPairs 64 floor_f.edges
unfolding every small
floor_f_below = below_64 floor_f.edges tt

pub floor_f-right : wrong_edges floor_f ≡ false
unfolding wrong_edges some bad_edge ascending precedes
floor_f-right = refl

pub starts_sound : Sound 4 starts
unfolding is_sound vacant occupied some
starts_sound = (is_sound_sound 4 starts).0 tt

pub three_sound : Sound 4 (0 ∷ 1 ∷ 2 ∷ [])
unfolding is_sound vacant occupied some
three_sound = (is_sound_sound 4 (0 ∷ 1 ∷ 2 ∷ [])).0 tt

pub starts_held : Holds starts (table_of starts)
unfolding table_of
starts_held = placed-holds 4 starts floor_f_few starts_sound

pub timetable_small : Each (BelowPairs 64) timetable
unfolding every small
timetable_small = each_more (below_64 ((0, 1) ∷ (3, 2) ∷ []) tt) (each_more (below_64 ((1, 3) ∷ (2, 0) ∷ []) tt) each_none)

-- case 1

pub case_1_first : legal_step_on (matrix_of floor_f) (table_of starts) ((0, 1) ∷ (3, 2) ∷ []) ≡ true
unfolding matrix_of table_of marked placed legal_step_on sound_moves all_led led_on every ascends entered_once enters
    leaves some goes_to edge_at
    held_at
case_1_first = refl

pub case_1_second : legal_step_on (matrix_of floor_f) (table_of (1 ∷ 2 ∷ [])) ((1, 3) ∷ (2, 0) ∷ []) ≡ true
unfolding matrix_of table_of marked placed legal_step_on sound_moves all_led led_on every ascends entered_once enters
    leaves some goes_to edge_at
    held_at
case_1_second = refl

pub case_1_made : step_on (table_of starts) ((0, 1) ∷ (3, 2) ∷ []) ≡ table_of (after starts ((0, 1) ∷ (3, 2) ∷ []))
unfolding table_of placed step_on taken_up put_down after goes_to
case_1_made = refl

pub case_1_tables : replay_steps_on (matrix_of floor_f) (table_of starts) timetable ≡ ended (table_of goals)
unfolding replay_steps_on replay_from step_fault_on matrix_of table_of marked placed legal_step_on sound_moves all_led led_on every ascends
    entered_once enters leaves some goes_to edge_at held_at step_on taken_up put_down
case_1_tables = refl

pub case_1_judged : judged_on 43 goals (2 ∷ 4 ∷ []) (replay_steps_on (matrix_of floor_f) (table_of starts) timetable)
    ≡ judged 43 goals (2 ∷ 4 ∷ []) (replay_steps (legal_step? floor_f) starts timetable)
case_1_judged = steps_judged floor_f floor_f_few floor_f_below floor_f-right starts starts_sound timetable_small 43 goals (2 ∷ 4 ∷ []) refl

pub case_1_accepted : judged_on 43 goals (2 ∷ 4 ∷ []) (replay_steps_on (matrix_of floor_f) (table_of starts) timetable)
    ≡ accepted (2 ∷ 4 ∷ [])
unfolding judged_on misplaced_on table_of placed
case_1_accepted = rw case_1_tables refl

-- case 2

pub case_2_tables : replay_steps_on (matrix_of floor_f) (table_of (0 ∷ 1 ∷ [])) (((0, 1) ∷ (1, 3) ∷ []) ∷ []) ≡ ended
    (table_of (1 ∷ 3 ∷ []))
unfolding replay_steps_on replay_from step_fault_on matrix_of table_of marked placed legal_step_on sound_moves all_led led_on every ascends
    entered_once enters leaves some goes_to edge_at held_at step_on taken_up put_down
case_2_tables = refl

-- case 3: racks at 0, 1, 2

pub case_3_ring : legal_step_on (matrix_of floor_f) (table_of (0 ∷ 1 ∷ 2 ∷ [])) ((0, 1) ∷ (1, 2) ∷ (2, 0) ∷ []) ≡ false
unfolding matrix_of table_of marked placed legal_step_on sound_moves all_led led_on every ascends entered_once enters
    leaves some goes_to edge_at
    held_at
case_3_ring = refl

pub case_3_swap : legal_step_on (matrix_of floor_f) (table_of (0 ∷ 1 ∷ 2 ∷ [])) ((0, 1) ∷ (1, 0) ∷ []) ≡ false
unfolding matrix_of table_of marked placed legal_step_on sound_moves all_led led_on every ascends entered_once enters
    leaves some goes_to edge_at
    held_at
case_3_swap = refl

pub case_3_stays : ran_on (matrix_of floor_f) (table_of (0 ∷ 1 ∷ 2 ∷ [])) ((0, 1) ∷ (1, 2) ∷ (2, 0) ∷ []) ≡ table_of (0 ∷ 1 ∷ 2 ∷ [])
unfolding ran_on
case_3_stays = rw case_3_ring refl

-- trains on a row of positions

pub eight-tables : legal_step_on (matrix_of lane) (table_of eight) (train 0 8) ≡ true
unfolding train matrix_of table_of marked placed legal_step_on sound_moves all_led led_on every ascends entered_once
    enters leaves some goes_to
    edge_at held_at
eight-tables = refl

pub nine-tables : legal_step_on (matrix_of lane) (table_of (0 ∷ 1 ∷ 2 ∷ 3 ∷ 4 ∷ 5 ∷ 6 ∷ 7 ∷ 8 ∷ [])) (train 0 9) ≡ false
unfolding train matrix_of table_of marked placed legal_step_on sound_moves all_led led_on every ascends entered_once
    enters leaves some goes_to
    edge_at held_at
nine-tables = refl

pub side_by_side : legal_step_on (matrix_of lane) (table_of (0 ∷ 1 ∷ 2 ∷ 3 ∷ 4 ∷ 5 ∷ 6 ∷ 7 ∷ 9 ∷ [])) (train 0 8 ++ (9, 10) ∷ []) ≡ true
unfolding train matrix_of table_of marked placed legal_step_on sound_moves all_led led_on every ascends entered_once
    enters leaves some goes_to
    edge_at held_at
side_by_side = refl
