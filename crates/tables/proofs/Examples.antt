-- The hypotheses of the laws of tables hold of something: the case book's floor F (n = 4, edges 0-1, 0-2, 1-2, 1-3,
-- 2-3) with racks at 0 and 3.
--
--     starts_held, move_held      its starts are held by the table that they fill, and after the move 0>1 by that table moved
--     edge_there, none_there      an edge of F in its matrix, and a pair that no edge joins
--     lowest-misplaced            with the goals 3 and 1, rack 1 is the lowest that is misplaced, told by the table
--     four_judged                 four moves that name their racks on the tables, judged as on arrangements
--     last_misnamed               and with another rack named by the last: 36
-- Assumes nothing.
use mathlib.Core.Path.{◌≡◌, refl}
use mathlib.Core.Bool.{true, false}
use Prim.Native.Nat.{ℕ}
use mathlib.Core.List.{List, [], ◌∷◌, ◌++◌}
use lib.Dec.{lit<, lit≤}
use lib.ListN.{replicate, take, get_or}
use Rattle.answers.specs.Answer.{accepted, refused}
use Rattle.field.specs.Bytes.{BelowPairs, none₂, more₂}
use Rattle.field.specs.Listed.{ListedFit, none₃, more₃}
use Rattle.order.specs.Floor.{some, is_pair, joined}
use Rattle.order.specs.Order.{bad_edge, precedes, ascending, wrong_edges}
use Rattle.order.specs.Tables.{marked, placed}
use Rattle.motion.specs.Arrangement.{occupied, vacant, rack_from, rack_at}
use Rattle.motion.specs.Move.{on_floor, fault_by, move_fault, misnamed, listed_fault, goes_to, after, after_move, after_listed}
use Rattle.motion.specs.Replay.{replay_from, replay_listed, listed}
use Rattle.motion.specs.Judgement.{misplaced, judged}
use Rattle.motion.proofs.Inhabited.{floor_f, starts, goals, plan, starts_sound}
use Rattle.tables.specs.Tables.{edge_at, moved_on, misplaced_on, judged_on}
use Rattle.tables.proofs.TablesLaws.{Holds}
use Rattle.tables.proofs.TableLaws.{placed-holds, moved_holds, misplaced_on_lem}
use Rattle.tables.proofs.MatrixLaws.{matrix_joined}
use Rattle.tables.proofs.MovesOnLaws.{matrix_of, table_of, moves-judged}
use Rattle.tables.specs.MovesOn.{replay_on}

starts_held : Holds starts (placed (replicate 64 0) 1 starts)
starts_held = placed-holds 4 starts (lit≤ tt) starts_sound

move_held : Holds (1 ∷ 3 ∷ []) (moved_on (placed (replicate 64 0) 1 starts) (0, 1))
unfolding occupied some vacant after_move after goes_to
move_held = moved_holds 4 starts (placed (replicate 64 0) 1 starts) (lit≤ tt) starts_sound starts_held (0, 1) tt tt (lit< tt)

edges_small : BelowPairs 64 floor_f.edges
edges_small =
    more₂ (lit< tt) (lit< tt)
    (more₂ (lit< tt) (lit< tt) (more₂ (lit< tt) (lit< tt) (more₂ (lit< tt) (lit< tt) (more₂ (lit< tt) (lit< tt) none₂))))

edge_there : edge_at (marked (replicate 4096 0) floor_f.edges) (3, 1) ≡ true
unfolding joined some is_pair
edge_there = matrix_joined floor_f 3 1 edges_small (lit< tt) (lit< tt)

none_there : edge_at (marked (replicate 4096 0) floor_f.edges) (0, 3) ≡ false
unfolding joined some is_pair
none_there = matrix_joined floor_f 0 3 edges_small (lit< tt) (lit< tt)

lowest-misplaced : misplaced_on 1 (placed (replicate 64 0) 1 starts) (3 ∷ 1 ∷ []) ≡ 1
unfolding misplaced
lowest-misplaced = misplaced_on_lem starts (placed (replicate 64 0) 1 starts) (3 ∷ 1 ∷ []) starts_held refl

-- the four moves as a plan lists them that names their racks, and with another name for the last one
unfoldable named-moves : List (ℕ × ℕ × ℕ)
named-moves = listed true starts plan

unfoldable wrong_last : List (ℕ × ℕ × ℕ)
wrong_last = take 3 named-moves ++ (((get_or plan 3 (0, 0)).0, (get_or plan 3 (0, 0)).1, 64) ∷ [])

named_fit : ListedFit true named-moves
unfolding named-moves listed rack_at rack_from after_move after goes_to
named_fit =
    more₃ (lit< tt) (lit< tt) (lit≤ tt, lit≤ tt)
    (more₃ (lit< tt) (lit< tt) (lit≤ tt, lit≤ tt)
    (more₃ (lit< tt) (lit< tt) (lit≤ tt, lit≤ tt) (more₃ (lit< tt) (lit< tt) (lit≤ tt, lit≤ tt) none₃)))

wrong_fit : ListedFit true wrong_last
unfolding wrong_last named-moves listed rack_at rack_from after_move after goes_to
wrong_fit =
    more₃ (lit< tt) (lit< tt) (lit≤ tt, lit≤ tt)
    (more₃ (lit< tt) (lit< tt) (lit≤ tt, lit≤ tt)
    (more₃ (lit< tt) (lit< tt) (lit≤ tt, lit≤ tt) (more₃ (lit< tt) (lit< tt) (lit≤ tt, lit≤ tt) none₃)))

edges_right : wrong_edges floor_f ≡ false
unfolding wrong_edges some bad_edge precedes ascending
edges_right = refl

four_judged : judged_on 33 goals (4 ∷ []) (replay_on (matrix_of floor_f) (table_of starts) named-moves) ≡ accepted (4 ∷ [])
unfolding named-moves listed judged misplaced replay_listed replay_from listed_fault misnamed move_fault fault_by
    on_floor joined some is_pair
    occupied vacant rack_at rack_from after_listed after_move after goes_to
four_judged = moves-judged floor_f (lit≤ tt) edges_small edges_right starts starts_sound named_fit 33 goals (4 ∷ []) refl

last_misnamed : judged_on 33 goals (4 ∷ []) (replay_on (matrix_of floor_f) (table_of starts) wrong_last) ≡ refused 36 4
unfolding wrong_last named-moves listed judged misplaced replay_listed replay_from listed_fault misnamed move_fault
    fault_by on_floor joined some
    is_pair occupied vacant rack_at rack_from after_listed after_move after goes_to
last_misnamed = moves-judged floor_f (lit≤ tt) edges_small edges_right starts starts_sound wrong_fit 33 goals (4 ∷ []) refl
