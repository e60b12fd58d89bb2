-- What the contracts of handles assume can be met, all of it at once: the case book's floor F, taken apart, with its order's racks.
--
--     log, tail            a log, and a plan's bytes behind its head, as many as 23 asks for
--     state h              the racks h, with nothing written yet
--     space, room          they have room for up to 512 moves
--     breakdown            floor F taken apart, as the code has it
--     lane, around         its handle, and the cycle through it
--     settle_handles_met   what `handles::settle_handles` asks for
--     place_met            what `place` asks for, and with it `settle_handle`, `open_stage`, `fetch`, `beside_end` and `close_cycle`
--     aside, aside-table   rack 1 moved aside to 1, so that both 0 and the right end are vacant
--     carry_met            what `lane::carry` asks for
-- Assumes nothing.
use Prim.Native.Nat.{ℕ, zero, suc, ◌-◌, ◌*◌, ◌≤◌, ◌<◌}
use mathlib.Core.Path.{◌≡◌, refl}
use mathlib.Core.List.{List, [], ◌∷◌}
use mathlib.Core.Logic.{◌≢◌}
use native.Mathlib.Omega.{arith}
use lib.Dec.{lit<, lit≤}
use lib.ListN.{length, replicate, length-replicate}
use Rattle.sets.specs.Sets.{bit}
use Rattle.graph.specs.declared.Route.{Route}
use Rattle.graph.specs.Rows.{row, Edge, Rows}
use Rattle.graph.proofs.Examples.{floor_f, floor_f-rows}
use Rattle.breakdown.specs.declared.Breakdown.{Breakdown}
use Rattle.breakdown.specs.Answer.{BreaksDown}
use Rattle.breakdown.proofs.Examples.{in_row, starts, lefts, rights, floor_f-breakdown}
use Rattle.moving.specs.Went.{Move, Went}
use Rattle.moving.specs.Went.Went.{stay, real}
use Rattle.moving.proofs.WentLaws.{same_refl}
use Rattle.moving.proofs.JourneyLaws.{space_room}
use Rattle.moving.specs.declared.State.{State}
use Rattle.shunting.specs.Cleared.{Vacancy}
use Rattle.moving.specs.Journey.{Room, Space}
use Rattle.moving.specs.Table.{Table}
use Rattle.moving.proofs.TableLaws.{table_went}
use Rattle.shunting.proofs.TableExamples.{start, goal, start-table, goal-table}
use Rattle.lane.specs.declared.Lane.{Lane}
use Rattle.lane.specs.Lane.{Filled, LaneOn, LaneBeside, LaneClosed, LaneStage, LanePlacing, InLane, LaneCarriable}
use Rattle.lane.specs.Moves.{carry_moves, place_moves}
use Rattle.handles.proofs.LaneExamples.{goal_filled, lane_f, around_f, closed_f, placing_f, open_f, beside_f}

abbrev pub log : List ℕ
log = replicate 8256 0

abbrev pub tail : List ℕ
tail = replicate 1152 0

abbrev pub state : List ℕ → State
state h = record { racks = h; real = 2; written = 0; logged = 0 }

pub space : (h : List ℕ) → length h ≡ 64 → (c : ℕ) → c ≤ 512 → Space (state h) tail c
space h long c few = let t = length-replicate {A = ℕ} 1152 0 in record { racks = long; few_racks = omega arith; room = omega arith }

pub room : (h : List ℕ) → length h ≡ 64 → (c : ℕ) → c ≤ 512 → Room (state h) log tail c
room h long c few = space_room (length-replicate {A = ℕ} 8256 0) (space h long c few)

pub four_long : (w x y z : ℕ) → length (w ∷ x ∷ y ∷ z ∷ replicate 60 0) ≡ 64
four_long w x y z = let h = length-replicate {A = ℕ} 60 0 in omega arith

abbrev pub breakdown : Breakdown
breakdown = record { ring = 3; handles = 1; order = in_row; start = starts; left = lefts; right = rights }

abbrev pub lane : Lane
lane = record { order = in_row; positions = 4; start = 3; end = 4; left = 1; right = 2; beside = 0 }

abbrev pub around : Route
around = record { at = around_f; size = 3 }

pub settle_handles_met :
    Rows 4 floor_f
    × BreaksDown 4 (Edge floor_f) breakdown
    × Table 4 (row start)
    × Table 4 (row goal)
    × Filled (row in_row) (row goal) 3 4
    × Space (state start) tail ((4 - 3) * place_moves 4)
unfolding place_moves
settle_handles_met = (floor_f-rows, floor_f-breakdown, start-table, goal-table, goal_filled, space start (four_long 1 0 0 2) 22 (lit≤ tt))

pub place_met :
    Rows 4 floor_f
    × LaneOn (Edge floor_f) lane
    × LaneBeside (Edge floor_f) lane
    × LaneClosed (Edge floor_f) lane around
    × LanePlacing lane (row goal) 0 (row start)
    × (0 < 4 - 3)
    × Vacancy (LaneStage lane) (row start)
    × Room (state start) log tail (place_moves 4)
unfolding place_moves
place_met = (floor_f-rows, lane_f, beside_f, closed_f, placing_f, lit< tt, open_f, room start (four_long 1 0 0 2) 22 (lit≤ tt))

abbrev pub aside : List ℕ
aside = 0 ∷ 1 ∷ 0 ∷ 2 ∷ replicate 60 0

step_aside : Move (Edge floor_f) (row start) 0 1 (row aside)
unfolding floor_f bit
step_aside = record { edge = refl; held = λ e. omega arith; vacant = refl; entered = refl; left = refl; others = others }
  where
    others : (p : ℕ) → p ≢ 0 → p ≢ 1 → row aside p ≡ row start p
    others zero x y = absurd (x refl)
    others (suc zero) x y = absurd (y refl)
    others (suc (suc p)) x y = refl

pub aside-table : Table 4 (row aside)
aside-table = table_went floor_f-rows.inside stepped start-table
  where
    stepped : Went (Edge floor_f) 2 (row start) ((0, 1) ∷ []) ((0, 1, 1) ∷ []) (row aside)
    stepped = real step_aside refl (lit≤ tt) (stay (same_refl (row aside)))

pub carry_met :
    Rows 4 floor_f
    × LaneOn (Edge floor_f) lane
    × LaneBeside (Edge floor_f) lane
    × InLane lane 3
    × LaneCarriable lane 3 (row aside)
    × Room (state aside) log tail (carry_moves 4)
carry_met = (
  floor_f-rows,
  lane_f,
  beside_f,
  record { from = lit≤ tt; before = lit< tt },
  record { table = aside-table; vacant = record { end = refl; beside = refl }; held = λ e. omega arith },
  room aside (four_long 0 1 0 2) 5 (lit≤ tt),
)
