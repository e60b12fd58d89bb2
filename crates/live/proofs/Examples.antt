-- The live floor of the case book's first case, computed on the definitions: opened by a viewer, run by an operator, taken back by a
-- supervisor, and what each may not. So the conditions of the theorems are neither empty nor everything.
--
--     closed, starting, halfway    a picture before an opening, at the starts and after one step
--     opens, opened_at             a viewer opens it, and each rack stands at its start
--     closed_60, viewer_60, operator_60, nobody_60    who lacks the right
--     runs, ran_to                 an operator runs the first step
--     takes_back, back_to          a supervisor takes it back
--     none_left, none_back         no step is left after the second; there is none to take back before the first
--     unknown_61                   on a picture of three positions the step names one that it lacks
--     past_61, past_62             more steps run than the timetable has
--     calls, same_pair             a run, a refused run, and the step taken back, all with the opening pair
--     replayed, goes_on            what the theorems say of them
--     viewers, stayed, lower, counted    calls by viewers, and calls without a supervisor
-- Assumes nothing.
use Prim.Native.Nat.{ℕ, ◌≤◌}
use mathlib.Core.Path.{◌≡◌, refl}
use mathlib.Core.Logic.{◌≢◌}
use mathlib.Core.List.{List, [], ◌∷◌}
use native.Mathlib.Omega.{arith}
use lib.ListN.{replicate}
use Rattle.answers.specs.Answer.{accepted, refused}
use Rattle.order.specs.Tables.{placed, racks_at}
use Rattle.motion.specs.StepOf.{insert, sort}
use Rattle.motion.specs.TurnedStep.{turned, turned_step}
use Rattle.motion.proofs.StepDecision.{by_test}
use Rattle.tables.specs.Simulation.{Each, each_none, each_more}
use Rattle.chains.specs.StepOn.{taken_up, put_down, step_on}
use Rattle.timetable.specs.Timetable.{step_part}
use Rattle.timetable_check.proofs.Inhabited.{order₁, timetable₁, timetable_open}
use Rattle.live.specs.Picture.{Picture, is_open, held_from, standing}
use Rattle.live.specs.Roles.{Kind, opening, reading, running, taking_back}
use Rattle.stepping.specs.Judging.{knows}
use Rattle.live.specs.HereDecision.{legal_test, legal_here?}
use Rattle.live.specs.Calls.{cannot_run, cannot_take_back, own_answer, call_answer, changed, picture_after}
use Rattle.stepping.specs.Judging.{step_numbered}
use Rattle.live.specs.Theorems.{Call, after_calls, kept, Lends, PictureReplayed, CanGoOn, ByViewer, NotBySupervisor}
use Rattle.live.specs.declared.Role.{Role}
use Rattle.live.proofs.Theorems.{live_replayed, live_goes_on, viewer_keeps, never_back}

abbrev pub closed : Picture
closed = record { racks = replicate 64 0; steps = 0; positions = 0 }

-- the racks of the first four positions, and none elsewhere
abbrev row : ℕ → ℕ → ℕ → ℕ → List ℕ
row a b c d = a ∷ b ∷ c ∷ d ∷ replicate 60 0

abbrev pub starting : Picture
starting = record { racks = row 1 0 0 2; steps = 0; positions = 4 }

abbrev pub halfway : Picture
halfway = record { racks = row 0 1 2 0; steps = 1; positions = 4 }

-- a call on that order and timetable, with all that it computes by
unfoldable pub live_open : Kind → Role → Picture → Picture
unfolding timetable_open call_answer own_answer cannot_run cannot_take_back step_numbered step_part is_open legal_here? by_test legal_test
    standing held_from knows changed picture_after racks_at placed step_on taken_up put_down turned_step turned sort insert
live_open k r P = picture_after k r P order₁ timetable₁

pub opens : (P : Picture) → call_answer opening Role.Viewer P order₁ timetable₁ ≡ accepted (0 ∷ [])
unfolding live_open
opens P = refl

pub opened_at : picture_after opening Role.Viewer closed order₁ timetable₁ ≡ starting
unfolding live_open
opened_at = refl

pub closed_60 : call_answer reading Role.Supervisor closed order₁ timetable₁ ≡ refused 60 0
unfolding live_open
closed_60 = refl

pub viewer_60 : call_answer running Role.Viewer starting order₁ timetable₁ ≡ refused 60 0
unfolding live_open
viewer_60 = refl

pub operator_60 : call_answer taking_back Role.Operator halfway order₁ timetable₁ ≡ refused 60 0
unfolding live_open
operator_60 = refl

pub nobody_60 : call_answer opening Role.Nobody closed [] [] ≡ refused 60 0
unfolding live_open
nobody_60 = refl

pub runs : call_answer running Role.Operator starting order₁ timetable₁ ≡ accepted (1 ∷ [])
unfolding live_open
runs = refl

pub ran_to : picture_after running Role.Operator starting order₁ timetable₁ ≡ halfway
unfolding live_open
ran_to = refl

pub takes_back : call_answer taking_back Role.Supervisor halfway order₁ timetable₁ ≡ accepted (0 ∷ [])
unfolding live_open
takes_back = refl

pub back_to : picture_after taking_back Role.Supervisor halfway order₁ timetable₁ ≡ starting
unfolding live_open
back_to = refl

pub none_left : call_answer running Role.Operator (record { racks = row 2 0 0 1; steps = 2; positions = 4 }) order₁
    timetable₁ ≡ refused 61 0
unfolding live_open
none_left = refl

pub none_back : call_answer taking_back Role.Supervisor starting order₁ timetable₁ ≡ refused 62 0
unfolding live_open
none_back = refl

pub unknown_61 : call_answer running Role.Operator (record { racks = row 1 0 0 2; steps = 0; positions = 3 }) order₁ timetable₁
    ≡ refused 61 0
unfolding live_open
unknown_61 = refl

pub past_61 : call_answer running Role.Operator (record { racks = row 0 1 2 0; steps = 3; positions = 4 }) order₁ timetable₁ ≡ refused 61 0
unfolding live_open
past_61 = refl

pub past_62 : call_answer taking_back Role.Supervisor (record { racks = row 0 1 2 0; steps = 3; positions = 4 }) order₁ timetable₁
    ≡ refused 62 0
unfolding live_open
past_62 = refl

-- a call that lends the pair
abbrev by : Kind → Role → Call
by k r = record { kind = k; role = r; order = order₁; timetable = timetable₁ }

abbrev pub calls : List Call
calls = by running Role.Operator ∷ by running Role.Viewer ∷ by taking_back Role.Supervisor ∷ []

pub same_pair : Each (Lends order₁ timetable₁) calls
same_pair =
    each_more (record { order_is = refl; timetable_is = refl })
    (each_more (record { order_is = refl; timetable_is = refl })
    (each_more (record { order_is = refl; timetable_is = refl }) each_none))

abbrev begun : Picture
begun = picture_after opening Role.Viewer closed order₁ timetable₁

pub replayed : PictureReplayed order₁ (kept [] begun calls) (after_calls begun calls)
replayed = live_replayed order₁ timetable₁ (0 ∷ []) Role.Viewer closed (opens closed) same_pair

pub goes_on : CanGoOn (after_calls begun calls) order₁ timetable₁
goes_on = live_goes_on order₁ timetable₁ (0 ∷ []) Role.Viewer closed (opens closed) same_pair

-- two kinds are not the same
no_opening : {k : Kind} → k ≡ running → k ≢ opening
no_opening e f = let z : ◌≡◌ {A = ℕ} 0 1 = cc in omega arith

pub viewers : Each ByViewer (by running Role.Viewer ∷ [])
viewers = each_more (record { viewer = refl; no_opening = no_opening refl }) each_none

pub stayed : after_calls halfway (by running Role.Viewer ∷ []) ≡ halfway
stayed = viewer_keeps halfway viewers

-- nor are two roles
no_supervisor : {r : Role} → r ≡ Role.Operator → r ≢ Role.Supervisor
no_supervisor e f = let z : ◌≡◌ {A = ℕ} 0 1 = cc in omega arith

pub lower : Each NotBySupervisor (by running Role.Operator ∷ [])
lower = each_more (record { lower = no_supervisor refl; no_opening = no_opening refl }) each_none

pub counted : starting.steps ≤ (after_calls starting (by running Role.Operator ∷ [])).steps
counted = never_back starting lower
