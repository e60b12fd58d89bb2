-- What the contracts and the laws of solving assume can be met: the case book's floor F, taken apart, with its order's racks (document 01,
-- "Programs": rack 1 from 0 to 3, rack 2 from 3 to 0).
--
--     alone, alone-placed         one rack, at 0
--     fill_met                    what `solving::fill` asks for
--     alone_filled, filled_is     with the one stand-in that is missing
--     table-placed                a table with two vacancies has its racks placed
--     solve_met                   what `solving::solve` asks for
--     shift_met, settle_met       what `solving::shift_goal` and `solving::settle` ask for
--     shift_f                      the goal has the ring's first two places vacant already: no move shifts it
--     start_held, goal_held       the tables hold the order's starts and goals
--     after, four_moves           the moves 0>1, 3>2, 2>0, 1>3 are a trip from the one to the other
-- Assumes nothing.
use Prim.Native.Nat.{ℕ, zero, suc, ◌+◌, ◌≤◌, ◌<◌}
use mathlib.Core.Path.{◌≡◌, refl, ◌∙◌}
use mathlib.Core.List.{List, [], ◌∷◌}
use mathlib.Core.Logic.{◌≢◌, ◌⊎◌, inl, inr, ⊎_elim}
use native.Mathlib.Omega.{arith}
use lib.Dec.{lit<, lit≤}
use lib.ListN.{get_or, length, replicate, length-replicate}
use Rattle.sets.specs.Sets.{bit}
use Rattle.graph.specs.Connected.{BiConnected}
use Rattle.graph.specs.Rows.{row, Edge, Rows}
use Rattle.graph.proofs.Examples.{floor_f, floor_f-rows}
use Rattle.breakdown.specs.Answer.{BreaksDown}
use Rattle.breakdown.proofs.Examples.{floor_f-breakdown, floor_f_bi_connected}
use Rattle.moving.specs.Went.Went.{stay}
use Rattle.moving.proofs.WentLaws.{same_refl}
use Rattle.moving.specs.declared.State.{State}
use Rattle.moving.specs.Journey.{onto, Room, Space, made, Trip}
use Rattle.moving.specs.Journey.Trail.{start as begun}
use Rattle.moving.proofs.JourneyLaws.{moved_trip, trip_append}
use Rattle.moving.specs.OnePlace.{Movable}
use Rattle.moving.specs.Table.{Table}
use Rattle.shunting.proofs.TableExamples.{none_after, start, goal, start-table, goal-table}
use Rattle.breakdown.specs.Part.{place_from}
use Rattle.base_ring.specs.Circle.{Open}
use Rattle.base_ring.specs.From.{round, circle_of}
use Rattle.handles.proofs.Examples.{log, tail, state, space, four_long, breakdown}
use Rattle.lane.specs.Moves.{place_moves}
use Rattle.base_ring.specs.Moves.{exchange_moves}
use Rattle.solving.specs.Moves.{shift_moves, settle_moves, solve_moves}
use Rattle.solving.specs.Shift.{aimed, TwoPositions, Shift}
use Rattle.solving.specs.Placed.{Placed, Filled, fill_from, with_stand_ins}
use Rattle.solving.proofs.Held.{HeldBy}

abbrev pub alone : List ℕ
alone = 1 ∷ replicate 63 0

alone_is : (p : ℕ) → ((p ≡ 0) × (row alone p ≡ 1)) ⊎ (row alone p ≡ 0)
alone_is zero = inl (refl, refl)
alone_is (suc p) = inr (none_after 63 p)

pub alone-placed : Placed 4 1 (row alone)
alone-placed =
    record {
      one = λ p q held e. ⊎_elim
          (λ a. ⊎_elim (λ b. let x = a.0 in let y = b.0 in omega arith) (λ b. absurd (held (e ∙ b))) (alone_is q))
          (λ a. absurd (held a)) (alone_is p);
      inside = λ p held. ⊎_elim (λ a. let x = a.0 in omega arith) (λ a. absurd (held a)) (alone_is p);
      most = λ p. ⊎_elim (λ a. let x = a.1 in omega arith) (λ a. omega arith) (alone_is p);
      every = λ r some few. (0, let one : 1 ≡ r = omega arith in one);
    }

pub fill_met : (4 ≤ 64) × (1 + 2 ≤ 4) × Placed 4 1 (row alone) × (length alone ≡ 64)
fill_met = (lit≤ tt, lit≤ tt, alone-placed, (let n = length-replicate {A = ℕ} 63 0 in omega arith))

pub filled_is : with_stand_ins 4 1 alone ≡ 1 ∷ 2 ∷ replicate 62 0
unfolding fill_from
filled_is = refl

pub alone_filled : Filled 1 (row alone) (row (1 ∷ 2 ∷ replicate 62 0))
alone_filled = record { kept = kept; added = added }
  where
    kept : (p : ℕ) → row alone p ≢ 0 → row (1 ∷ 2 ∷ replicate 62 0) p ≡ row alone p
    kept zero held = refl
    kept (suc p) held = absurd (held (none_after 63 p))

    added : (p : ℕ) → row alone p ≡ 0 → (row (1 ∷ 2 ∷ replicate 62 0) p ≡ 0) ⊎ (1 < row (1 ∷ 2 ∷ replicate 62 0) p)
    added zero e = absurd (omega arith)
    added (suc zero) e = inr (lit< tt)
    added (suc (suc p)) e = inl (none_after 62 p)

pub table-placed : {h : ℕ → ℕ} → Table 4 h → Placed 4 2 h
table-placed {h} t =
    record {
      one = t.one;
      inside = t.inside;
      most = λ p. let m = t.most p in omega arith;
      every = λ r some few. t.every r some (omega arith);
    }

pub solve_met :
    Rows 4 floor_f
    × BreaksDown 4 (Edge floor_f) breakdown
    × Table 4 (row start)
    × Table 4 (row goal)
    × (length goal ≡ 64)
    × Space (state start) tail (solve_moves 4)
solve_met = (floor_f-rows, floor_f-breakdown, start-table, goal-table, four_long 2 0 0 1, space start (four_long 1 0 0 2) 256 (lit≤ tt))

pub shift_met :
    Rows 4 floor_f
    × BiConnected 4 (Edge floor_f)
    × TwoPositions 4 1 2
    × Table 4 (row goal)
    × Room (aimed goal) log tail (shift_moves 4)
shift_met = (
  floor_f-rows,
  floor_f_bi_connected,
  record { first = lit< tt; second = lit< tt; differ = λ e. omega arith },
  goal-table,
  record {
    racks = four_long 2 0 0 1;
    log = length-replicate {A = ℕ} 8256 0;
    few_racks = lit≤ tt;
    room = (space goal (four_long 2 0 0 1) 5 (lit≤ tt)).room;
  },
)

-- the ring from 1 on, the left end of the handle
pub settle_met :
    Rows 4 floor_f
    × BreaksDown 4 (Edge floor_f) breakdown
    × Table 4 (row start)
    × Open (circle_of 4 breakdown) (row goal)
    × Space (state start) tail (settle_moves 4 3)
unfolding place_from round place_moves exchange_moves
settle_met = (
  floor_f-rows,
  floor_f-breakdown,
  start-table,
  record { table = goal-table; zero = refl; one = refl },
  space start (four_long 1 0 0 2) 53 (lit≤ tt),
)

pub shift_f : Shift 4 floor_f 1 2 goal (aimed goal) log
unfolding onto
shift_f =
    record {
      moves = [];
      written = [];
      went = stay (same_refl (row goal));
      few = lit≤ tt;
      trail = begun;
      long = length-replicate {A = ℕ} 8256 0;
      table = goal-table;
      first = refl;
      second = refl;
    }

pub start_held : HeldBy (0 ∷ 3 ∷ []) (row start)
start_held = record { racks = racks; others = others }
  where
    racks : (i : ℕ) → i < 2 → row start (get_or (0 ∷ 3 ∷ []) i 0) ≡ suc i
    racks zero l = refl
    racks (suc zero) l = refl
    racks (suc (suc i)) l = absurd (omega arith)

    others : (p : ℕ) → ((i : ℕ) → i < 2 → get_or (0 ∷ 3 ∷ []) i 0 ≢ p) → row start p ≡ 0
    others zero out = absurd (out 0 (lit< tt) refl)
    others (suc zero) out = refl
    others (suc (suc zero)) out = refl
    others (suc (suc (suc zero))) out = absurd (out 1 (lit< tt) refl)
    others (suc (suc (suc (suc p)))) out = none_after 60 p

pub goal_held : HeldBy (3 ∷ 0 ∷ []) (row goal)
goal_held = record { racks = racks; others = others }
  where
    racks : (i : ℕ) → i < 2 → row goal (get_or (3 ∷ 0 ∷ []) i 0) ≡ suc i
    racks zero l = refl
    racks (suc zero) l = refl
    racks (suc (suc i)) l = absurd (omega arith)

    others : (p : ℕ) → ((i : ℕ) → i < 2 → get_or (3 ∷ 0 ∷ []) i 0 ≢ p) → row goal p ≡ 0
    others zero out = absurd (out 1 (lit< tt) refl)
    others (suc zero) out = refl
    others (suc (suc zero)) out = refl
    others (suc (suc (suc zero))) out = absurd (out 0 (lit< tt) refl)
    others (suc (suc (suc (suc p)))) out = none_after 60 p

-- the racks h with w moves written
abbrev pub after : List ℕ → ℕ → State
after h w = record { racks = h; real = 2; written = w; logged = 0 }

-- one move of a rack of the order, between positions of F
step : (h t : List ℕ) (w a b : ℕ) → length h ≡ 64 → Movable a b (row h) → row h a ≤ 2 → Edge floor_f a b
    → (t' : List ℕ) × Trip floor_f 1 (after h w) t (after (made h a b) (w + 1)) t'
step h t w a b long m few edge = (
  _,
  moved_trip long m (record {
    table = refl;
    reals = refl;
    real = λ l. (refl, refl);
    stand_in = λ l. absurd (omega arith);
  }) floor_f edge,
)

held : {x : ℕ} → suc x ≢ 0
held e = omega arith

pub four_moves : (t : List ℕ) × Trip floor_f 4 (after start 0) tail (after goal 4) t
unfolding floor_f bit
four_moves =
    let one = step start tail 0 0 1 (four_long 1 0 0 2) (record { leaves = lit< tt; enters = lit< tt; held = held; vacant = refl })
    (lit≤ tt) refl in
    let two = step (0 ∷ 1 ∷ 0 ∷ 2 ∷ replicate 60 0) one.0 1 3 2 (four_long 0 1 0 2)
    (record { leaves = lit< tt; enters = lit< tt; held = held; vacant = refl }) (lit≤ tt) refl in
    let three = step (0 ∷ 1 ∷ 2 ∷ 0 ∷ replicate 60 0) two.0 2 2 0 (four_long 0 1 2 0)
    (record { leaves = lit< tt; enters = lit< tt; held = held; vacant = refl }) (lit≤ tt) refl in
    let four = step (2 ∷ 1 ∷ 0 ∷ 0 ∷ replicate 60 0) three.0 3 1 3 (four_long 2 1 0 0)
    (record { leaves = lit< tt; enters = lit< tt; held = held; vacant = refl }) (lit≤ tt) refl in
    (four.0, trip_append (trip_append one.1 two.1) (trip_append three.1 four.1))
