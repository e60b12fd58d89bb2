-- Steps of document 01's case book, computed: an inhabitant for what each law of steps assumes, and the steps that the case book
-- names as not legal.
--
--     timetable            case 1's: its floor, starts and goals stand in Inhabited.antt
--     starts_valid         its starts are valid
--     case_1               case 1's timetable is replayed from its starts to its goals
--     case_1_solution      so its trace is a solution of two steps
--     case_1_instance      of an instance of the problem
--     case_1_steps         whose steps are the timetable's
--     case_2               case 2's one step, a train of two, is replayed from its starts to its goals
--     case_2_legal         it is legal
--     case_2_train         rack 1 follows rack 2, the leader: a train of two
--     case_2_change        and it is a change that Definition 2 allows
--     case_3_ring          racks at 0, 1, 2: a first step 0>1, 1>2, 2>0 is not legal
--     case_3_ring_never    that step is not legal on any floor, wherever racks stand
--     case_3_no_leader     its chain finds no leader, however long it is followed
--     case_3_swap          racks at 0, 1, 2: a first step 0>1, 1>0 is not legal
--     meeting              a step of two racks into one position is not legal
--     full                 four racks on the four positions: a full floor
--     lane                 eleven positions in a row
--     train p k            the moves of the k racks from position p on, each to the next position
--     eight_legal          a train of eight on it is legal
--     eight-change         and it is a change that Definition 2 allows, in short chains
--     nine_not             one of nine is not
--     nine-led             though it has a leader: the cap alone refuses it
--     side_by_side         nine moves are legal where one of them is a train of its own: the cap is on a train, not on a step
-- Assumes nothing.
use Prim.Native.Nat.{ℕ, zero, suc, ◌≤◌, ◌<◌}
use mathlib.Core.Path.{◌≡◌, refl}
use mathlib.Core.Bool.{true, false}
use mathlib.Core.List.{List, [], ◌∷◌, ◌++◌, Memᴰ}
use native.Mathlib.Omega.{arith}
use lib.Dec.{T}
use Rattle.order.specs.Floor.{Floor, some, is_pair, joined}
use Rattle.motion.specs.Arrangement.{Arrangement, occupied, vacant}
use Rattle.motion.specs.Move.{on_floor, goes_to, after}
use Rattle.motion.specs.Step.{every, ascends, leaves, enters, entered_once, led, legal_step}
use Rattle.motion.specs.Replay.{Replayed, ended, stopped, replay_from, step_fault, replay_steps, trace}
use Rattle.motion.specs.Problem.{UniquelyInvertible, Instance}
use Rattle.motion.specs.TrainCap.{InShortChains, CappedSolution}
use Rattle.motion.proofs.Trains.{led-closed}
use Rattle.motion.specs.LegalStep.{Train, leader, follows, LegalStep}
use Rattle.motion.proofs.StepDecision.{by_test, legal_step?}
use Rattle.motion.proofs.LegalStepLaws.{legal_step_iff}
use Rattle.motion.proofs.Racks.{separate, is_valid, is_valid_iff}
use Rattle.motion.specs.StepOf.{moved, insert, sort, step_of}
use Rattle.motion.proofs.StepChange.{Change, legal_change, legal_short}
use Rattle.motion.specs.StepSolutions.{steps_between}
use Rattle.motion.proofs.StepSolutionsLaws.{solution_instance, replay_solution}
use Rattle.motion.proofs.StepLimits.{no_turn}
use Rattle.motion.proofs.Inhabited.{floor_f, starts, goals}

-- case 1: rack 1 from 0 to 3, rack 2 from 3 to 0

abbrev pub timetable : List (List (ℕ × ℕ))
timetable = ((0, 1) ∷ (3, 2) ∷ []) ∷ ((1, 3) ∷ (2, 0) ∷ []) ∷ []

pub starts_valid : UniquelyInvertible floor_f 2 starts
unfolding is_valid separate every vacant occupied some
starts_valid = (is_valid_iff floor_f starts).0 tt

-- a replay on that floor, with all that it computes by
unfoldable steps_open : Arrangement → List (List (ℕ × ℕ)) → Replayed
unfolding replay_steps replay_from step_fault legal_step? by_test legal_step ascends every on_floor joined some is_pair occupied
    entered_once enters led leaves vacant goes_to after
steps_open A steps = replay_steps (legal_step? floor_f) A steps

pub case_1 : replay_steps (legal_step? floor_f) starts timetable ≡ ended goals
unfolding steps_open
case_1 = refl

pub case_1_solution : CappedSolution floor_f 2 starts goals 2 (starts ∷ (1 ∷ 2 ∷ []) ∷ goals ∷ [])
unfolding trace after goes_to
case_1_solution = replay_solution floor_f 2 starts goals starts_valid timetable case_1

pub case_1_instance : Instance floor_f 2 starts goals
case_1_instance = solution_instance case_1_solution.solution

pub case_1_steps : steps_between (starts ∷ (1 ∷ 2 ∷ []) ∷ goals ∷ []) ≡ timetable
unfolding steps_between step_of sort insert moved
case_1_steps = refl

-- case 2: rack 1 from 0 to 1, rack 2 from 1 to 3

pub case_2 : replay_steps (legal_step? floor_f) (0 ∷ 1 ∷ []) (((0, 1) ∷ (1, 3) ∷ []) ∷ []) ≡ ended (1 ∷ 3 ∷ [])
unfolding steps_open
case_2 = refl

pub case_2_legal : LegalStep floor_f (0 ∷ 1 ∷ []) ((0, 1) ∷ (1, 3) ∷ [])
unfolding legal_step ascends every on_floor joined some is_pair occupied entered_once enters led leaves vacant goes_to
case_2_legal = (legal_step_iff floor_f (0 ∷ 1 ∷ []) ((0, 1) ∷ (1, 3) ∷ [])).0 tt

pub case_2_train : Train (0 ∷ 1 ∷ []) ((0, 1) ∷ (1, 3) ∷ []) 2 (0, 1)
unfolding vacant occupied some
case_2_train = follows (Memᴰ.head refl) refl (leader (Memᴰ.tail (Memᴰ.head refl)) tt)

pub case_2_change : Change floor_f 2 (0 ∷ 1 ∷ []) (1 ∷ 3 ∷ [])
unfolding is_valid separate every vacant occupied some after goes_to
case_2_change = legal_change ((is_valid_iff floor_f (0 ∷ 1 ∷ [])).0 tt) case_2_legal

-- case 3: racks at 0, 1, 2

pub case_3_ring : replay_steps (legal_step? floor_f) (0 ∷ 1 ∷ 2 ∷ []) (((0, 1) ∷ (1, 2) ∷ (2, 0) ∷ []) ∷ []) ≡ stopped 42 1
unfolding steps_open
case_3_ring = refl

pub case_3_ring_never : {F : Floor} {A : Arrangement} → LegalStep F A ((0, 1) ∷ (1, 2) ∷ (2, 0) ∷ []) → ⊥
case_3_ring_never s = no_turn s ring 2 refl turns
  where
    ring : ℕ → ℕ
    ring zero = 0
    ring (suc zero) = 1
    ring (suc (suc zero)) = 2
    ring (suc (suc (suc i))) = 0

    turns : (i : ℕ) → i ≤ 2 → Memᴰ {A = ℕ × ℕ} (ring i, ring (suc i)) ((0, 1) ∷ (1, 2) ∷ (2, 0) ∷ [])
    turns zero h = Memᴰ.head refl
    turns (suc zero) h = Memᴰ.tail (Memᴰ.head refl)
    turns (suc (suc zero)) h = Memᴰ.tail (Memᴰ.tail (Memᴰ.head refl))
    turns (suc (suc (suc i))) h = absurd (omega arith)

-- its chain goes round through positions that all hold racks, so it finds no leader however long it is followed
pub case_3_no_leader : (k : ℕ) → T (led k ((0, 1) ∷ (1, 2) ∷ (2, 0) ∷ []) (0 ∷ 1 ∷ 2 ∷ []) 1) → ⊥
unfolding vacant occupied some goes_to
case_3_no_leader k t = led-closed (0 ∷ 1 ∷ 2 ∷ []) ((0, 1) ∷ (1, 2) ∷ (2, 0) ∷ []) (λ p. p < 3) round k 1 (omega arith) t
  where
    round : (p : ℕ) → p < 3 → (T (vacant (0 ∷ 1 ∷ 2 ∷ []) p) → ⊥) × (goes_to ((0, 1) ∷ (1, 2) ∷ (2, 0) ∷ []) p < 3)
    round zero h = (λ t. t, omega arith)
    round (suc zero) h = (λ t. t, omega arith)
    round (suc (suc zero)) h = (λ t. t, omega arith)
    round (suc (suc (suc p))) h = absurd (omega arith)

pub case_3_swap : replay_steps (legal_step? floor_f) (0 ∷ 1 ∷ 2 ∷ []) (((0, 1) ∷ (1, 0) ∷ []) ∷ []) ≡ stopped 42 1
unfolding steps_open
case_3_swap = refl

-- two racks into one position; a full floor

pub meeting : legal_step floor_f (0 ∷ 2 ∷ []) ((0, 1) ∷ (2, 1) ∷ []) ≡ false
unfolding legal_step ascends every on_floor joined some is_pair occupied entered_once enters led leaves vacant goes_to
meeting = refl

pub full : UniquelyInvertible floor_f 4 (2 ∷ 0 ∷ 3 ∷ 1 ∷ [])
unfolding is_valid separate every vacant occupied some
full = (is_valid_iff floor_f (2 ∷ 0 ∷ 3 ∷ 1 ∷ [])).0 tt

-- trains on a row of positions

unfoldable pub train : ℕ → ℕ → List (ℕ × ℕ)
train p zero = []
train p (suc k) = (p, suc p) ∷ train (suc p) k

abbrev pub lane : Floor
lane = record {
  positions = 11;
  edges = (0, 1) ∷ (1, 2) ∷ (2, 3) ∷ (3, 4) ∷ (4, 5) ∷ (5, 6) ∷ (6, 7) ∷ (7, 8) ∷ (8, 9) ∷ (9, 10) ∷ [];
}

abbrev pub eight : Arrangement
eight = 0 ∷ 1 ∷ 2 ∷ 3 ∷ 4 ∷ 5 ∷ 6 ∷ 7 ∷ []

pub eight_legal : LegalStep lane eight (train 0 8)
unfolding train legal_step ascends every on_floor joined some is_pair occupied entered_once enters led leaves vacant goes_to
eight_legal = (legal_step_iff lane eight (train 0 8)).0 tt

pub eight-change : Change lane 8 eight (1 ∷ 2 ∷ 3 ∷ 4 ∷ 5 ∷ 6 ∷ 7 ∷ 8 ∷ []) × InShortChains 8 eight (1 ∷ 2 ∷ 3 ∷ 4 ∷ 5 ∷ 6 ∷ 7 ∷ 8 ∷ [])
unfolding train is_valid separate every vacant occupied some after goes_to
eight-change =
    let valid : UniquelyInvertible lane 8 eight = (is_valid_iff lane eight).0 tt in
    (legal_change valid eight_legal, legal_short valid eight_legal)

pub nine_not : legal_step lane (0 ∷ 1 ∷ 2 ∷ 3 ∷ 4 ∷ 5 ∷ 6 ∷ 7 ∷ 8 ∷ []) (train 0 9) ≡ false
unfolding train legal_step ascends every on_floor joined some is_pair occupied entered_once enters led leaves vacant goes_to
nine_not = refl

pub nine-led : led 8 (train 0 9) (0 ∷ 1 ∷ 2 ∷ 3 ∷ 4 ∷ 5 ∷ 6 ∷ 7 ∷ 8 ∷ []) 1 ≡ true
unfolding train led leaves some vacant occupied goes_to
nine-led = refl

pub side_by_side : legal_step lane (0 ∷ 1 ∷ 2 ∷ 3 ∷ 4 ∷ 5 ∷ 6 ∷ 7 ∷ 9 ∷ []) (train 0 8 ++ (9, 10) ∷ []) ≡ true
unfolding train legal_step ascends every on_floor joined some is_pair occupied entered_once enters led leaves vacant goes_to
side_by_side = refl
