-- Plans by computation on the definitions: the case book's plan is accepted, and one plan at least meets each of 30 to 36 for the same
-- order. So the conditions are neither empty nor everything, and each hypothesis of the theorems holds of something.
--
--     case_book, case_plan     document 01's order and plan ("Programs"); case_named    the same plan with the racks named
--     plan_open o p          the plan checker's answer, with all that it is made of open
--     case_1, case_7         starred cases 1, first half, and 7; case_1_named    with the racks named
--     meets_30, ..           one plan each for the other numbers; an order's refusal is passed up
--     case_stopped, case_misnamed    a plan that its second move stops, and one whose move names another rack
--     case_well_formed, case_solution, case_accepted, case_told    an order, a solution, its record, and that it is
--                                                                  accepted, for the theorems
--     full_empty, bare-empty                        an empty plan on a full floor and on one without racks, for the limits
--     case_written, case_read                       writing and reading the case book's moves
-- Assumes nothing.
use Prim.Native.Nat.{ℕ}
use mathlib.Core.Path.{◌≡◌, refl, sym}
use mathlib.Core.Bool.{Bool, true, false}
use mathlib.Core.List.{List, [], ◌∷◌}
use native.Mathlib.Omega.{arith}
use lib.Dec.{lit<, lit≤}
use Rattle.answers.specs.Answer.{Answer, accepted, refused}
use Rattle.field.specs.Bits.{bits, number, bits_of, field, pairs, positions, position_bits, pad, padded, bytes, to_bytes}
use Rattle.field.specs.Bytes.{Bytes}
use Rattle.field.specs.Listed.{move_size, rack_field, listed_moves, moves_of, units, all_units, ListedFit, none₃, more₃}
use Rattle.field.specs.Units.{record_length, misfits, pad_set, unclean}
use Rattle.order.specs.Floor.{some, is_pair, joined}
use Rattle.order.specs.Order.{position_count, edge_count, rack_count, unit_count, floor_of, starts_of, goals_of, order_of, wrong_length}
use Rattle.order.specs.Order.{wrong_positions, padding_set, bad_edge, precedes, ascending, wrong_edges, repeats, wrong_places, wrong_racks}
use Rattle.order.specs.Order.{counts, order_answer, WellFormed}
use Rattle.motion.specs.Arrangement.{occupied, vacant, rack_from, rack_at}
use Rattle.motion.specs.Move.{on_floor, fault_by, move_fault, misnamed, listed_fault, goes_to, after, after_move, after_listed}
use Rattle.motion.specs.Replay.{replay_from, replay_listed, listed, trace}
use Rattle.motion.specs.Judgement.{misplaced, judged}
use Rattle.plan.specs.Plan.{spare_bits, plan_bits, plan_bytes, plan_record, named, move_count, plan_listed, plan_moves, plan_units}
use Rattle.plan.specs.Plan.{wrong_plan_length, plan_padding_set, plan_answer}
use Rattle.plan.proofs.PlanRecord.{Written, written}
use Rattle.plan_check.proofs.Limits.{EmptyPlan, full_floor_lem, no_racks}
use Rattle.plan_check.specs.Solutions.{SolutionOf, AcceptedPlan}
use Rattle.motion.specs.StepOf.{moved}
use Rattle.motion.specs.StepSolutions.{moves_between}
use Rattle.plan_check.proofs.Replayed.{ReplayedPlan, plan_replayed}
use Rattle.plan_check.proofs.SolutionsLaws.{plan_solutions}
use Rattle.plan_check.proofs.Stopped.{StoppedPlan, plan_stopped}

-- n = 4, edges 0-1, 0-2, 1-2, 1-3, 2-3, rack 1 from 0 to 3, rack 2 from 3 to 0
abbrev pub case_book : List ℕ
case_book = 0x08 ∷ 0x0A ∷ 0x08 ∷ 0x00 ∷ 0x10 ∷ 0x02 ∷ 0x04 ∷ 0x20 ∷ 0x43 ∷ 0x08 ∷ 0x30 ∷ 0x03 ∷ 0x0C ∷ 0x00 ∷ []

-- 0>1, 3>2, 2>0, 1>3
abbrev pub case_plan : List ℕ
case_plan = 0x00 ∷ 0x00 ∷ 0x10 ∷ 0x00 ∷ 0x10 ∷ 0xC2 ∷ 0x08 ∷ 0x00 ∷ 0x43 ∷ []

-- the same with the racks that they move: 1, 2, 2, 1
abbrev pub case_named : List ℕ
case_named = 0x00 ∷ 0x00 ∷ 0x11 ∷ 0x00 ∷ 0x10 ∷ 0x03 ∷ 0x08 ∷ 0x10 ∷ 0x80 ∷ 0x04 ∷ 0x10 ∷ 0xC0 ∷ []

abbrev pub case_moves : List (ℕ × ℕ)
case_moves = (0, 1) ∷ (3, 2) ∷ (2, 0) ∷ (1, 3) ∷ []

unfoldable pub plan_open : List ℕ → List ℕ → Answer
unfolding plan_answer wrong_plan_length plan_padding_set plan_units move_size named move_count plan_listed listed_moves
    rack_field judged misplaced
    replay_listed replay_from listed_fault misnamed move_fault fault_by on_floor joined some is_pair occupied vacant
    rack_at rack_from after_listed
    after_move after goes_to order_answer wrong_length misfits record_length unit_count wrong_positions padding_set
    pad_set unclean pad wrong_edges
    bad_edge precedes ascending wrong_racks wrong_places repeats order_of floor_of starts_of goals_of counts
    position_count edge_count rack_count
    field number bits_of bits pairs positions
plan_open o p = plan_answer o p

-- "The plan above is accepted."
pub case_1 : plan_answer case_book case_plan ≡ accepted (4 ∷ [])
unfolding plan_open
case_1 = refl

-- the same plan with the racks named
pub case_1_named : plan_answer case_book case_named ≡ accepted (4 ∷ [])
unfolding plan_open
case_1_named = refl

-- "Empty plan for the order above: 33, rack 1."
pub case_7 : plan_answer case_book (0x00 ∷ 0x00 ∷ 0x00 ∷ []) ≡ refused 33 1
unfolding plan_open
case_7 = refl

-- one byte too many
meets_30 : plan_answer case_book (0x00 ∷ 0x00 ∷ 0x00 ∷ 0x00 ∷ []) ≡ refused 30 0
unfolding plan_open
meets_30 = refl

-- one move, and the last bit of its pad is set
meets_31 : plan_answer case_book (0x00 ∷ 0x00 ∷ 0x04 ∷ 0x00 ∷ 0x11 ∷ []) ≡ refused 31 0
unfolding plan_open
meets_31 = refl

-- in edition two the pad of one move has six bits
meets_31_named : plan_answer case_book (0x00 ∷ 0x00 ∷ 0x05 ∷ 0x00 ∷ 0x10 ∷ 0x20 ∷ []) ≡ refused 31 0
unfolding plan_open
meets_31_named = refl

-- spare bits 10 and 11 are measured as edition one
meets_31_spare : plan_answer case_book (0x00 ∷ 0x00 ∷ 0x06 ∷ 0x00 ∷ 0x10 ∷ []) ≡ refused 31 0
unfolding plan_open
meets_31_spare = refl

meets_30_spare : plan_answer case_book (0x00 ∷ 0x00 ∷ 0x07 ∷ 0x00 ∷ 0x10 ∷ 0x00 ∷ []) ≡ refused 30 0
unfolding plan_open
meets_30_spare = refl

-- 0>1 and 3>0, which no edge joins
meets_32 : plan_answer case_book (0x00 ∷ 0x00 ∷ 0x08 ∷ 0x00 ∷ 0x10 ∷ 0xC0 ∷ []) ≡ refused 32 2
unfolding plan_open
meets_32 = refl

-- 0>4, and there is no position 4
meets_32_outside : plan_answer case_book (0x00 ∷ 0x00 ∷ 0x04 ∷ 0x00 ∷ 0x40 ∷ []) ≡ refused 32 1
unfolding plan_open
meets_32_outside = refl

-- 0>0: no edge joins a position to itself
meets_32_itself : plan_answer case_book (0x00 ∷ 0x00 ∷ 0x04 ∷ 0x00 ∷ 0x00 ∷ []) ≡ refused 32 1
unfolding plan_open
meets_32_itself = refl

-- 0>1 and 0>2, which no rack can make
meets_34 : plan_answer case_book (0x00 ∷ 0x00 ∷ 0x08 ∷ 0x00 ∷ 0x10 ∷ 0x02 ∷ []) ≡ refused 34 2
unfolding plan_open
meets_34 = refl

-- 0>1 and again 0>1: no rack can make it, and rack 1 is in its way
meets_34_both : plan_answer case_book (0x00 ∷ 0x00 ∷ 0x08 ∷ 0x00 ∷ 0x10 ∷ 0x01 ∷ []) ≡ refused 34 2
unfolding plan_open
meets_34_both = refl

-- 0>1, 1>3 into rack 2, and 0>3, which no edge joins: the first bad move decides
meets_35_first : plan_answer case_book (0x00 ∷ 0x00 ∷ 0x0C ∷ 0x00 ∷ 0x10 ∷ 0x43 ∷ 0x00 ∷ 0x30 ∷ []) ≡ refused 35 2
unfolding plan_open
meets_35_first = refl

-- 0>1, and the move names rack 2, where rack 1 stands
meets_36 : plan_answer case_book (0x00 ∷ 0x00 ∷ 0x05 ∷ 0x00 ∷ 0x10 ∷ 0x40 ∷ []) ≡ refused 36 1
unfolding plan_open
meets_36 = refl

-- the same with rack 64, of which there is none
meets_36_above : plan_answer case_book (0x00 ∷ 0x00 ∷ 0x05 ∷ 0x00 ∷ 0x1F ∷ 0xC0 ∷ []) ≡ refused 36 1
unfolding plan_open
meets_36_above = refl

-- 0>1 of rack 1, and 1>3 into rack 2, which names rack 2: 35 comes first
meets_35_before_36 : plan_answer case_book (0x00 ∷ 0x00 ∷ 0x09 ∷ 0x00 ∷ 0x10 ∷ 0x01 ∷ 0x0C ∷ 0x10 ∷ []) ≡ refused 35 2
unfolding plan_open
meets_35_before_36 = refl

pub case_misnamed : StoppedPlan case_book (0x00 ∷ 0x00 ∷ 0x05 ∷ 0x00 ∷ 0x10 ∷ 0x40 ∷ []) 36 1
case_misnamed = (plan_stopped case_book _ 36 1 (lit≤ tt) (λ e. omega arith)).0 meets_36

pub case_stopped : StoppedPlan case_book (0x00 ∷ 0x00 ∷ 0x0C ∷ 0x00 ∷ 0x10 ∷ 0x43 ∷ 0x00 ∷ 0x30 ∷ []) 35 2
case_stopped = (plan_stopped case_book _ 35 2 (lit≤ tt) (λ e. omega arith)).0 meets_35_first

-- rack 1 goes to its goal, 0>2, 3>1, 2>3: rack 2 is left at 1
meets_33 : plan_answer case_book (0x00 ∷ 0x00 ∷ 0x0C ∷ 0x00 ∷ 0x20 ∷ 0xC1 ∷ 0x08 ∷ 0x30 ∷ []) ≡ refused 33 2
unfolding plan_open
meets_33 = refl

-- a plan of no bytes, for an order of no bytes: the lowest number
passes_10_up : plan_answer [] [] ≡ refused 10 0
unfolding plan_answer order_answer wrong_length misfits
passes_10_up = refl

pub case_well_formed : WellFormed case_book
unfolding plan_open
case_well_formed = refl

-- the four moves' arrangements are a solution, and the case book's bytes are its record
pub case_replayed : ReplayedPlan case_book case_plan (4 ∷ [])
case_replayed = ((plan_replayed case_book).0 case_plan (4 ∷ [])).0 case_1

pub case_solution : SolutionOf case_book 4 ((0 ∷ 3 ∷ []) ∷ (1 ∷ 3 ∷ []) ∷ (1 ∷ 2 ∷ []) ∷ (1 ∷ 0 ∷ []) ∷ (3 ∷ 0 ∷ []) ∷ [])
unfolding move_count plan_moves moves_of plan_listed listed_moves rack_field named move_size starts_of edge_count
    rack_count field number bits_of bits
    pairs positions trace after_move after goes_to
case_solution = case_replayed.solution

-- in either edition
pub case_accepted : (e : Bool) (p : List ℕ) → plan_record e (starts_of case_book) case_moves ≡ p → AcceptedPlan case_book p (4 ∷ [])
unfolding moves_between moved
case_accepted e p is =
    record {
      order_right = case_well_formed;
      moves = 4;
      few = lit< tt;
      arrangements = (0 ∷ 3 ∷ []) ∷ (1 ∷ 3 ∷ []) ∷ (1 ∷ 2 ∷ []) ∷ (1 ∷ 0 ∷ []) ∷ (3 ∷ 0 ∷ []) ∷ [];
      solution = case_solution;
      edition = e;
      is = sym is;
      counted = refl;
    }

-- all that a record is made of, open
unfoldable pub record_open : Bool → List ℕ
unfolding plan_record plan_bytes plan_bits spare_bits listed all_units units rack_at rack_from after_move after goes_to
    to_bytes bytes padded pad
    number bits position_bits starts_of edge_count rack_count field bits_of positions
record_open e = plan_record e (starts_of case_book) case_moves

pub case_written : plan_record false (starts_of case_book) case_moves ≡ case_plan
unfolding record_open
case_written = refl

pub case_written-named : plan_record true (starts_of case_book) case_moves ≡ case_named
unfolding record_open
case_written-named = refl

case_fits : ListedFit true ((0, 1, 1) ∷ (3, 2, 2) ∷ (2, 0, 2) ∷ (1, 3, 1) ∷ [])
case_fits =
    more₃ (lit< tt) (lit< tt) (lit≤ tt, lit≤ tt)
    (more₃ (lit< tt) (lit< tt) (lit≤ tt, lit≤ tt)
    (more₃ (lit< tt) (lit< tt) (lit≤ tt, lit≤ tt) (more₃ (lit< tt) (lit< tt) (lit≤ tt, lit≤ tt) none₃)))

pub case_read : Written true ((0, 1, 1) ∷ (3, 2, 2) ∷ (2, 0, 2) ∷ (1, 3, 1) ∷ [])
case_read = written true _ (lit< tt) case_fits

-- and by the theorem both are accepted
pub case_told : (p : List ℕ) → Bytes p → (e : Bool) → plan_record e (starts_of case_book) case_moves ≡ p
    → plan_answer case_book p ≡ accepted (4 ∷ [])
case_told p bytes e is = (plan_solutions case_book p (4 ∷ []) bytes).1 (case_accepted e p is)

pub case_told-named : plan_answer case_book case_named ≡ accepted (4 ∷ [])
case_told-named =
    case_told case_named (let b = case_read.are_bytes in unfold record_open in b) true case_written-named

-- n = 1, one rack from 0 to 0
abbrev full_floor : List ℕ
full_floor = 0x02 ∷ 0x00 ∷ 0x04 ∷ 0x00 ∷ 0x00 ∷ []

full_well_formed : WellFormed full_floor
unfolding plan_open
full_well_formed = refl

full_accepted : plan_answer full_floor (0x00 ∷ 0x00 ∷ 0x00 ∷ []) ≡ accepted (0 ∷ [])
unfolding plan_open
full_accepted = refl

pub full_empty : EmptyPlan full_floor (0x00 ∷ 0x00 ∷ 0x00 ∷ []) (0 ∷ [])
unfolding rack_count floor_of position_count field number bits_of bits
full_empty = (full_floor_lem full_floor (0x00 ∷ 0x00 ∷ 0x00 ∷ []) (0 ∷ []) full_well_formed refl).0 full_accepted

-- n = 1, no rack
abbrev bare_floor : List ℕ
bare_floor = 0x02 ∷ 0x00 ∷ 0x00 ∷ []

bare_well_formed : WellFormed bare_floor
unfolding plan_open
bare_well_formed = refl

bare_accepted : plan_answer bare_floor (0x00 ∷ 0x00 ∷ 0x00 ∷ []) ≡ accepted (0 ∷ [])
unfolding plan_open
bare_accepted = refl

pub bare-empty : EmptyPlan bare_floor (0x00 ∷ 0x00 ∷ 0x00 ∷ []) (0 ∷ [])
unfolding rack_count floor_of position_count field number bits_of bits
bare-empty = (no_racks bare_floor (0x00 ∷ 0x00 ∷ 0x00 ∷ []) (0 ∷ []) bare_well_formed refl).0 bare_accepted
