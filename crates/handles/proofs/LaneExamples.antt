-- The case book's floor F and its order's racks (document 01, "Programs": rack 1 from 0 to 3, rack 2 from 3 to 0), on which the definitions
-- are seen to hold, by computation: what the contracts of the handles assume can be met.
--
--     lane_f                       F's handle, between 1 and 2, as settling it needs it
--     around_f, closed_f            the cycle 3, 2, 1 through it
--     placing_f, fetched_f          no rack is stacked yet; and the one that the goal has in the handle stands in the stage
--     open_f                       a vacancy of the stage
--     beside_f                     a position of the stage beside the right end that is neither end
-- Assumes nothing.
use Prim.Native.Nat.{ℕ, zero, suc, ◌+◌, ◌≤◌, ◌<◌}
use mathlib.Core.Path.{◌≡◌, refl, sym, ap}
use mathlib.Core.List.{List, ◌∷◌}
use mathlib.Core.Logic.{◌≢◌}
use native.Mathlib.Omega.{arith}
use lib.Dec.{lit<, lit≤}
use lib.ListN.{replicate}
use Rattle.sets.specs.Sets.{bit}
use Rattle.graph.specs.Rows.{row, Edge}
use Rattle.graph.proofs.Examples.{floor_f, floor_f-rows}
use Rattle.breakdown.specs.Breakdown.{Among}
use Rattle.breakdown.proofs.StageLaws.{stage_robust}
use Rattle.breakdown.proofs.Examples.{in_row, in_row_is, floor_f-breakdown}
use Rattle.shunting.specs.Cleared.{Vacancy}
use Rattle.shunting.proofs.TableExamples.{start, goal, start-table, goal-table}
use Rattle.lane.specs.Lane.{HandleOn, BesideEnd, Closed, Placing, Fetched}

pub lane_f : HandleOn 4 (Edge floor_f) (row in_row) 3 4 1 2
lane_f =
    record {
      robust = stage_robust floor_f-rows.symmetric floor_f-breakdown 0 (lit≤ tt);
      handle = floor_f-breakdown.handle 0 (lit< tt);
      three = lit≤ tt;
      within = lit≤ tt;
      below = floor_f-breakdown.below;
      distinct = floor_f-breakdown.distinct;
      every = floor_f-breakdown.every;
    }

abbrev pub around_f : List ℕ
around_f = 3 ∷ 2 ∷ 1 ∷ replicate 61 0

around_is : (i : ℕ) → i < 3 → row around_f i + i ≡ 3
around_is zero l = refl
around_is (suc zero) l = refl
around_is (suc (suc zero)) l = refl
around_is (suc (suc (suc i))) l = absurd (omega arith)

in_stage : (p : ℕ) → p < 3 → Among (row in_row) 3 p
in_stage p l = record { place = p; before = l; is = in_row_is p (omega arith) }

pub closed_f : Closed 4 (Edge floor_f) (row in_row) 3 4 1 2 (row around_f) 3
unfolding floor_f bit
closed_f =
    record {
      long = lit< tt;
      short = lit≤ tt;
      inner = inner;
      turns = refl;
      ends = refl;
      stage = λ j from l. let e = around_is j l in in_stage (row around_f j) (omega arith);
      joined = joined;
      closed = refl;
      distinct = λ i j l h e. let x = around_is i (omega arith) in let y = around_is j h in omega arith;
    }
  where
    inner : (j : ℕ) → j < 1 → row around_f j ≡ row in_row (3 + j)
    inner zero l = refl
    inner (suc j) l = absurd (omega arith)

    joined : (j : ℕ) → j + 1 < 3 → Edge floor_f (row around_f j) (row around_f (j + 1))
    joined zero l = refl
    joined (suc zero) l = refl
    joined (suc (suc j)) l = absurd (omega arith)

-- the goal has a rack in the handle
pub goal_filled : (j : ℕ) → 3 ≤ j → j < 4 → row goal (row in_row j) ≢ 0
goal_filled j from l e =
    let three : j ≡ 3 = omega arith in
    let one : 1 ≡ row goal (row in_row j) = ap (λ (i : ℕ). row goal (row in_row i)) (sym three) in
    omega arith

pub placing_f : Placing 4 (row in_row) (row goal) 3 4 0 (row start)
placing_f =
    record {
      table = start-table;
      goal = goal-table;
      filled = goal_filled;
      few = lit≤ tt;
      stacked = λ j l. absurd (omega arith);
      behind = λ j from l. absurd (omega arith);
    }

pub open_f : Vacancy (Among (row in_row) 3) (row start)
open_f = record { at = 1; there = in_stage 1 (lit< tt); vacant = refl }

pub fetched_f : Fetched 4 (row in_row) (row goal) 3 4 0 1 (row start)
fetched_f = record { placing = placing_f; from = 0; in_stage = in_stage 0 (lit< tt); there = refl; vacancy = open_f }

pub beside_f : BesideEnd (Edge floor_f) (row in_row) 3 1 2 0
unfolding floor_f bit
beside_f = record { there = in_stage 0 (lit< tt); left = λ e. omega arith; right = λ e. omega arith; edge = refl }
