-- The theorem on document 01's case book, and that what it says is not empty: there are timetables of the same routes and visits with more
-- steps, one of the same routes and other visits with fewer, and one of the same visits and other routes with fewer.
--
--     case_1_shortest      of case 1's plan two steps are the fewest
--     one_by_one           case 1's plan as a timetable, one move in each step
--     one_by_one_legal, one_by_one_keeps   it is legal and keeps the plan's routes and visits,
--     one_by_one_passes    so it passes through the plan's,
--     one_by_one_longer    with four steps where the one made has two
--     waiting              the made timetable of case 1 with a step without moves in front
--     waiting_legal, waiting_keeps, waiting_longer   so is this one, with three steps
--     turns                a plan on that floor: rack 1 goes from 0 through 2 and 1 back to 0, and then rack 2 from 3 to 1 and back
--     turns_replayed       legal at each turn
--     turns-made           its timetable has four steps: rack 2 enters 1 when rack 1 leaves it
--     turns_shortest       and no legal one that keeps routes and visits has fewer
--     other_way            rack 2 goes first
--     other_way_legal, other_way_routes    the steps are legal and keep each rack's route,
--     other_way_shorter    three of them
--     other_way_visits     but position 1 is visited by rack 2 and then by rack 1, in the plan by rack 1 and then by rack 2
--     other_round          rack 1 goes round the other way, from 0 through 1 and 2, and rack 2 follows it sooner
--     other_round_legal, other_round-visits    the steps are legal and keep each position's visitors,
--     other_round_shorter  three of them
--     other_round_routes   but rack 1 comes to 1 and then to 2, in the plan to 2 and then to 1: the same positions in another order
--     nine_replayed        nine racks behind one another in a row of positions go one position on, the foremost first
--     nine_shortest        two steps are the fewest that keep routes and visits: one would be a train of nine (`nine_not` in motion's
--                          StepCases)
--     case_1_record        over records: the maker answers 2 steps, and none fewer is accepted of those that keep routes and visits
-- Assumes nothing.
use Prim.Native.Nat.{ℕ, zero, suc, ◌<◌}
use mathlib.Core.Path.{◌≡◌, refl}
use mathlib.Core.List.{List, [], ◌∷◌}
use native.Mathlib.Omega.{arith}
use lib.Dec.{lit<}
use lib.ListN.{length, get_or}
use Rattle.order.specs.Floor.{some, is_pair, joined}
use Rattle.motion.specs.Arrangement.{Arrangement, stands, occupied, vacant, rack_from, rack_at}
use Rattle.motion.specs.Move.{on_floor, fault_by, move_fault, goes_to, after, after_move}
use Rattle.motion.specs.Step.{every, ascends, leaves, enters, entered_once, led, legal_step}
use Rattle.motion.specs.Replay.{ended, replay_from, replay_moves, trace}
use Rattle.motion.proofs.Lawful.{LeadsSteps, still, ◌then◌}
use Rattle.motion.specs.Problem.{IsRack}
use Rattle.motion.specs.StepOf.{insert, sort}
use Rattle.motion.specs.Sound.{Sound}
use Rattle.motion.proofs.SoundLaws.{is_sound, is_sound_sound}
use Rattle.motion.proofs.StepCases.{lane, train}
use Rattle.motion.proofs.Inhabited.{floor_f, starts, goals, plan, plan_leads, starts_sound}
use Rattle.scheduling.specs.Making.{of_rack, of_leaving, place_leaving, step_after, place_after, turn_after, turn_for, timed}
use Rattle.scheduling.specs.Making.{greatest, in_step, moves_in, steps_from, made_steps}
use Rattle.scheduling.proofs.Timing.{history}
use Rattle.scheduling.proofs.MakingCases.{case_1_made, nine, nine_plan, nine-made}
use Rattle.scheduling.proofs.MakerCases.{order₁, plan₁, answer_1}
use Rattle.optimality.specs.Routes.{changes_after, changes, route, racks_among, visitors, Keeps, LegalInTurn}
use Rattle.optimality.specs.Shortest.{Shortest, ShortestRecord}
use Rattle.optimality.proofs.Instants.{Passes}
use Rattle.optimality.proofs.Theorems.{legal_leads, other_passes, shortest, shortest_replayed, shortest_record}

pub case_1_shortest : Shortest floor_f starts plan
case_1_shortest = shortest floor_f starts_sound plan_leads

-- the racks and the positions, one by one

each_rack : (P : ℕ → Type 0) → P 1 → P 2 → (r : ℕ) → IsRack 2 r → P r
each_rack P a b zero h = absurd (omega arith)
each_rack P a b (suc zero) h = a
each_rack P a b (suc (suc zero)) h = b
each_rack P a b (suc (suc (suc r))) h = absurd (omega arith)

each_position : (P : ℕ → Type 0) → P 0 → P 1 → P 2 → P 3 → (p : ℕ) → p < 4 → P p
each_position P a b c d zero h = a
each_position P a b c d (suc zero) h = b
each_position P a b c d (suc (suc zero)) h = c
each_position P a b c d (suc (suc (suc zero))) h = d
each_position P a b c d (suc (suc (suc (suc p)))) h = absurd (omega arith)

-- the routes and the visitors, with all that they compute by
unfoldable routes_open : List Arrangement → ℕ → List ℕ
unfolding route changes changes_after stands trace after after_move goes_to
routes_open S r = route S r

unfoldable visits_open : List Arrangement → ℕ → List ℕ
unfolding visitors racks_among changes changes_after rack_at rack_from trace after after_move goes_to
visits_open S p = visitors S p

-- a legal step, likewise
unfoldable step_open : List (ℕ × ℕ) → Arrangement → Type 0
unfolding legal_step ascends every on_floor joined some is_pair occupied entered_once enters led leaves vacant goes_to after
step_open ms A = LeadsSteps floor_f A (ms ∷ []) (after A ms)

abbrev SameRoute : List (ℕ × ℕ) → List (List (ℕ × ℕ)) → ℕ → Type 0
SameRoute ms steps r = route (trace after starts steps) r ≡ route (trace after_move starts ms) r

abbrev SameVisits : List (ℕ × ℕ) → List (List (ℕ × ℕ)) → ℕ → Type 0
SameVisits ms steps p = visitors (trace after starts steps) p ≡ visitors (trace after_move starts ms) p

keeps_each : (steps : List (List (ℕ × ℕ))) → SameRoute plan steps 1 → SameRoute plan steps 2
    → SameVisits plan steps 0 → SameVisits plan steps 1 → SameVisits plan steps 2 → SameVisits plan steps 3 → Keeps
    floor_f starts plan steps
keeps_each steps a b c d e f =
    record { routes = each_rack (SameRoute plan steps) a b; visits = each_position (SameVisits plan steps) c d e f }

-- more steps

abbrev pub one_by_one : List (List (ℕ × ℕ))
one_by_one = ((0, 1) ∷ []) ∷ ((3, 2) ∷ []) ∷ ((2, 0) ∷ []) ∷ ((1, 3) ∷ []) ∷ []

one_by_one_leads : LeadsSteps floor_f starts one_by_one goals
unfolding step_open
one_by_one_leads = tt then tt then tt then tt then still

pub one_by_one_legal : LegalInTurn floor_f starts one_by_one
one_by_one_legal = legal_leads.1 (goals, one_by_one_leads)

pub one_by_one_keeps : Keeps floor_f starts plan one_by_one
unfolding routes_open visits_open
one_by_one_keeps = keeps_each one_by_one refl refl refl refl refl refl

pub one_by_one_passes : Passes floor_f starts (history starts plan) (λ i. get_or (trace after starts one_by_one) i []) 4
one_by_one_passes = other_passes floor_f starts_sound plan_leads one_by_one_leads one_by_one_keeps

pub one_by_one_longer : length (made_steps starts plan) < length one_by_one
one_by_one_longer = rw case_1_made (lit< tt)

abbrev pub waiting : List (List (ℕ × ℕ))
waiting = [] ∷ ((0, 1) ∷ (3, 2) ∷ []) ∷ ((1, 3) ∷ (2, 0) ∷ []) ∷ []

waiting_leads : LeadsSteps floor_f starts waiting goals
unfolding step_open
waiting_leads = tt then tt then tt then still

pub waiting_legal : LegalInTurn floor_f starts waiting
waiting_legal = legal_leads.1 (goals, waiting_leads)

pub waiting_keeps : Keeps floor_f starts plan waiting
unfolding routes_open visits_open
waiting_keeps = keeps_each waiting refl refl refl refl refl refl

pub waiting_longer : length (made_steps starts plan) < length waiting
waiting_longer = rw case_1_made (lit< tt)

-- fewer steps with other visits

abbrev pub turns : List (ℕ × ℕ)
turns = (0, 2) ∷ (2, 1) ∷ (1, 0) ∷ (3, 1) ∷ (1, 3) ∷ []

pub turns_replayed : replay_moves floor_f starts turns ≡ ended starts
unfolding replay_moves replay_from move_fault fault_by on_floor joined some is_pair occupied vacant after_move after goes_to
turns_replayed = refl

pub turns_shortest : Shortest floor_f starts turns
turns_shortest = shortest_replayed floor_f starts turns starts starts_sound turns_replayed

pub turns-made : made_steps starts turns ≡ ((0, 2) ∷ []) ∷ ((2, 1) ∷ []) ∷ ((1, 0) ∷ (3, 1) ∷ []) ∷ ((1, 3) ∷ []) ∷ []
unfolding made_steps timed turn_for turn_after place_after step_after of_rack of_leaving place_leaving greatest steps_from moves_in in_step
    sort insert rack_at rack_from after_move after goes_to
turns-made = refl

abbrev pub other_way : List (List (ℕ × ℕ))
other_way = ((0, 2) ∷ (3, 1) ∷ []) ∷ ((1, 3) ∷ (2, 1) ∷ []) ∷ ((1, 0) ∷ []) ∷ []

other_way_leads : LeadsSteps floor_f starts other_way starts
unfolding step_open
other_way_leads = tt then tt then tt then still

pub other_way_legal : LegalInTurn floor_f starts other_way
other_way_legal = legal_leads.1 (starts, other_way_leads)

pub other_way_routes : (r : ℕ) → IsRack 2 r → route (trace after starts other_way) r ≡ route (trace after_move starts turns) r
unfolding routes_open
other_way_routes = each_rack (SameRoute turns other_way) refl refl

pub other_way_visits : (visitors (trace after starts other_way) 1 ≡ 2 ∷ 1 ∷ []) × (visitors (trace after_move starts turns) 1 ≡ 1 ∷ 2 ∷ [])
unfolding visits_open
other_way_visits = (refl, refl)

pub other_way_shorter : length other_way < length (made_steps starts turns)
other_way_shorter = rw turns-made (lit< tt)

-- fewer steps with other routes

abbrev pub other_round : List (List (ℕ × ℕ))
other_round = ((0, 1) ∷ []) ∷ ((1, 2) ∷ (3, 1) ∷ []) ∷ ((1, 3) ∷ (2, 0) ∷ []) ∷ []

other_round_leads : LeadsSteps floor_f starts other_round starts
unfolding step_open
other_round_leads = tt then tt then tt then still

pub other_round_legal : LegalInTurn floor_f starts other_round
other_round_legal = legal_leads.1 (starts, other_round_leads)

pub other_round-visits : (p : ℕ) → p < 4 → visitors (trace after starts other_round) p ≡ visitors (trace after_move starts turns) p
unfolding visits_open
other_round-visits = each_position (SameVisits turns other_round) refl refl refl refl

pub other_round_routes : (route (trace after starts other_round) 1 ≡ 0 ∷ 1 ∷ 2 ∷ 0 ∷ [])
    × (route (trace after_move starts turns) 1 ≡ 0 ∷ 2 ∷ 1 ∷ 0 ∷ [])
unfolding routes_open
other_round_routes = (refl, refl)

pub other_round_shorter : length other_round < length (made_steps starts turns)
other_round_shorter = rw turns-made (lit< tt)

-- over records

-- the cap makes a timetable longer

pub nine_replayed : replay_moves lane nine nine_plan ≡ ended (1 ∷ 2 ∷ 3 ∷ 4 ∷ 5 ∷ 6 ∷ 7 ∷ 8 ∷ 9 ∷ [])
unfolding replay_moves replay_from move_fault fault_by on_floor joined some is_pair occupied vacant after_move after goes_to
nine_replayed = refl

nine_sound : Sound 11 nine
unfolding is_sound occupied some vacant
nine_sound = (is_sound_sound 11 nine).0 tt

pub nine_shortest : Shortest lane nine nine_plan × (length (made_steps nine nine_plan) ≡ 2)
unfolding train
nine_shortest = (shortest_replayed lane nine nine_plan (1 ∷ 2 ∷ 3 ∷ 4 ∷ 5 ∷ 6 ∷ 7 ∷ 8 ∷ 9 ∷ []) nine_sound nine_replayed, rw nine-made refl)

pub case_1_record : ShortestRecord order₁ plan₁ 2
case_1_record = shortest_record order₁ plan₁ 15 2 answer_1
