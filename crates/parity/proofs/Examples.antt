-- Orders with one vacancy: what the theorems suppose holds of something, and the known puzzle is impossible.
--
--     answer_is            the answer for an order that passes 10 to 14, 29 and 21
--     Puzzle, puzzle_sound a 4 by 4 floor with fifteen racks, with any goals that 14 passes
--     puzzle               "the known puzzle": each rack at its place, but racks 14 and 15 exchanged
--     chess, chess_two     the colours of a chessboard are two, with each edge joining both
--     puzzle_impossible    the puzzle is answered `impossible`
--     puzzle_hopeless      so no moves whatever solve it
--     puzzle-home          with each rack at its place it is `not judged`
--     small_judged         29 before 21 and 21; `not judged` on a floor with an odd cycle; on a ring of four `impossible` in each of its
--                          two cases, and `not judged`
--     two_colours_met      what `two_colours` asks of a floor can be met
-- Assumes nothing.
use Prim.Native.Nat.{ℕ, ◌+◌, ◌-◌, ◌/◌, ◌%◌}
use mathlib.Core.Path.{◌≡◌, refl, sym, ap, subst, ◌∙◌}
use mathlib.Core.Bool.{Bool, false}
use mathlib.Core.List.{List, [], ◌∷◌}
use mathlib.Core.Logic.{inl, ⊎_elim}
use native.Mathlib.Decide.{ℕ_discrete}
use native.Mathlib.Omega.{arith}
use borrow.Author.Tests.{eq-eqb}
use lib.ListN.{length, get_or}
use lib.Dec.{eqb}
use Rattle.answers.specs.Answer.{accepted, refused}
use Rattle.answers.proofs.AnswerLaws.{pass_up_accepted, holds-yes, holds-true}
use Rattle.field.specs.Bits.{bits_of, bits, number, field, pairs, positions, pad}
use Rattle.field.specs.Units.{record_length, misfits, pad_set, unclean}
use Rattle.order.specs.Floor.{Floor, some, is_pair, joined}
use Rattle.order.specs.Order.{Order, position_count, edge_count, rack_count, unit_count, floor_of, starts_of}
use Rattle.order.specs.Order.{goals_of, order_of, order_record}
use Rattle.order.specs.Order.{wrong_length, wrong_positions, padding_set, bad_edge, precedes, ascending, wrong_edges, repeats, wrong_places}
use Rattle.order.specs.Order.{wrong_racks, counts, order_answer, WellFormed}
use Rattle.order.proofs.Written.{SoundOrder, record_read, record_sound}
use Rattle.motion.specs.Arrangement.{stands, occupied, vacant, rack_from, rack_at}
use Rattle.motion.specs.Replay.{ended, replay_moves, replay_from}
use Rattle.tables.proofs.AcceptedLaws.{well_placed}
use Rattle.sets.specs.Sets.{bit}
use Rattle.sets.specs.First.{first_from}
use Rattle.graph.specs.Connected.{Connected, BiConnected}
use Rattle.graph.specs.Rows.{Edge, Rows}
use Rattle.graph.proofs.Examples.{rows_tested}
use Rattle.floor.specs.FloorAnswer.{Joins, passes?, bi_connected?}
use Rattle.graph.proofs.WayDecision.{alike?, not?, implies?, every?, decide_bi_connected}
use Rattle.floor.specs.Sides.{count_of}
use Rattle.floor.specs.CaseBookOrders.{mirrored, three_racks, path_of_four}
use Rattle.floor.proofs.ExamplesLaws.{two_racks, path_of_three, turned_edge}
use Rattle.models.specs.Grid.{model_floor, grid, grid_edges, edges_on, to_right, to_below, rows_of, columns_of, unknown_model}
use Rattle.models.proofs.GridLaws.{model_bi_connected, model_size, model_edges}
use Rattle.parity.specs.Colours.{TwoColours}
use Rattle.parity.specs.Permutation.{vacancy, goal_of, values_from, change, inversions}
use Rattle.parity.specs.Impossible.{Impossible}
use Rattle.parity.specs.ColourDecision.{decide_two_colours}
use Rattle.parity.specs.OneVacancy.{impossible?, judgement, vacancy_answer}
use Rattle.parity.specs.Theorems.{NoWay}
use Rattle.parity.proofs.Theorems.{hopeless, planned, judged}

pub answer_is : (o : List ℕ) → WellFormed o → position_count o - rack_count o ≡ 1 → BiConnected (floor_of o).positions (Joins (floor_of o))
    → vacancy_answer o ≡ accepted (judgement (impossible? (floor_of o) (starts_of o) (goals_of o)) ∷ [])
unfolding vacancy_answer
answer_is o w one whole =
    pass_up_accepted (order_answer o) _ (counts o) w
    ∙ rw (eq-eqb (position_count o - rack_count o) 1 one, holds-yes (bi_connected? (floor_of o)) whole) refl

-- the numbers 0 to 12, each at its place
abbrev placed : List ℕ → List ℕ
placed l = 0 ∷ 1 ∷ 2 ∷ 3 ∷ 4 ∷ 5 ∷ 6 ∷ 7 ∷ 8 ∷ 9 ∷ 10 ∷ 11 ∷ 12 ∷ l

-- model 3 is 4 by 4; the vacancy is in the last corner
abbrev pub Puzzle : List ℕ → Order
Puzzle goals = record { floor = model_floor 3; starts = placed (13 ∷ 14 ∷ []); goals = goals }

known : unknown_model 3 ≡ false
unfolding unknown_model
known = refl

module _ (goals : List ℕ) (each : length goals ≡ 15) (right : wrong_places (model_floor 3).positions goals ≡ false) where
  pub puzzle_sound : SoundOrder (Puzzle goals)
  puzzle_sound =
      let size = model_size 3 known in
      record {
        some_position = size.some_position;
        few_positions = size.few_positions;
        few_edges = size.few_edges;
        edges_right = model_edges 3 known;
        a_goal_each = each;
        starts_right = unfold model_floor grid rows_of columns_of wrong_places some repeats in refl;
        goals_right = right;
      }

  abbrev o : List ℕ
  o = order_record (Puzzle goals)

  reads : order_of o ≡ Puzzle goals
  reads = record_read (Puzzle goals) puzzle_sound

  floor_is : floor_of o ≡ model_floor 3
  unfolding order_of
  floor_is = ap (λ (r : Order). r.floor) reads

  starts_are : starts_of o ≡ placed (13 ∷ 14 ∷ [])
  unfolding order_of
  starts_are = ap (λ (r : Order). r.starts) reads

  goals_are : goals_of o ≡ goals
  unfolding order_of
  goals_are = ap (λ (r : Order). r.goals) reads

  form : WellFormed o
  form = record_sound (Puzzle goals) puzzle_sound

  sixteen : position_count o ≡ 16
  unfolding floor_of model_floor grid rows_of columns_of
  sixteen = ap (λ (F : Floor). F.positions) floor_is

  fifteen : rack_count o ≡ 15
  fifteen = sym (well_placed o form).starts_length ∙ ap length starts_are

  pub puzzle_answer : vacancy_answer o
      ≡ accepted (judgement (impossible? (model_floor 3) (placed (13 ∷ 14 ∷ [])) goals) ∷ [])
  puzzle_answer =
      answer_is o form (let n = sixteen in let m = fifteen in omega arith)
      (subst (λ (F : Floor). BiConnected F.positions (Joins F)) (sym floor_is) (model_bi_connected 3 known))
      ∙ rw (floor_is, starts_are, goals_are) refl

-- row p / 4 and column p % 4
abbrev pub chess : ℕ → Bool
chess p = eqb ((p / 4 + p % 4) % 2) 0

pub chess_two : TwoColours (model_floor 3).positions (Joins (model_floor 3)) chess
unfolding decide_two_colours passes? alike? implies? every? not? model_floor grid grid_edges edges_on to_right to_below
    rows_of columns_of joined
    some is_pair
chess_two = holds-true (decide_two_colours (model_floor 3) chess) refl

abbrev exchanged : List ℕ
exchanged = placed (14 ∷ 13 ∷ [])

exchanged-right : wrong_places (model_floor 3).positions exchanged ≡ false
unfolding model_floor grid rows_of columns_of wrong_places some repeats
exchanged-right = refl

unfoldable pub puzzle : List ℕ
puzzle = order_record (Puzzle exchanged)

one_exchange : Impossible (model_floor 3) (placed (13 ∷ 14 ∷ [])) exchanged
unfolding model_floor grid rows_of columns_of change values_from goal_of vacancy first_from stands inversions count_of
    rack_at rack_from vacant
    occupied some
one_exchange = record { colour = chess; joins_both = chess_two; contrary = inl (refl, refl) }

pub puzzle_impossible : vacancy_answer puzzle ≡ accepted (1 ∷ [])
unfolding puzzle judgement
puzzle_impossible =
    puzzle_answer exchanged refl exchanged-right
    ∙ rw (holds-yes (impossible? (model_floor 3) (placed (13 ∷ 14 ∷ [])) exchanged) one_exchange) refl

pub puzzle_hopeless : NoWay puzzle
puzzle_hopeless = hopeless puzzle puzzle_impossible

abbrev home : List ℕ
home = placed (13 ∷ 14 ∷ [])

home-right : wrong_places (model_floor 3).positions home ≡ false
unfolding model_floor grid rows_of columns_of wrong_places some repeats
home-right = refl

pub puzzle-home : vacancy_answer (order_record (Puzzle home)) ≡ accepted (0 ∷ [])
puzzle-home =
    let o = order_record (Puzzle home) in
    let x = judgement (impossible? (model_floor 3) home home) in
    let answer : vacancy_answer o ≡ accepted (x ∷ []) = puzzle_answer home refl home-right in
    let here : replay_moves (floor_of o) (starts_of o) [] ≡ ended (goals_of o) =
    unfold replay_moves replay_from in ap ended (starts_are home refl home-right ∙ sym (goals_are home refl home-right)) in
    ⊎_elim
    (λ e. answer ∙ ap (λ (y : ℕ). accepted (y ∷ [])) e)
    (λ e. absurd (planned o [] here (answer ∙ ap (λ (y : ℕ). accepted (y ∷ [])) e)))
    (judged o x answer).either

-- n = 1, no racks: one vacancy, and a floor that is not bi-connected
abbrev alone : List ℕ
alone = 0x02 ∷ 0x00 ∷ 0x00 ∷ []

-- n = 4, edges 0-1, 0-3, 1-2, 2-3, racks from 0, 1, 2 to 1, 0, 3: an even change, and the vacancy goes to the other colour
abbrev pub two_and_one : List ℕ
two_and_one = 0x08 ∷ 0x08 ∷ 0x0C ∷ 0x00 ∷ 0x10 ∷ 0x03 ∷ 0x04 ∷ 0x20 ∷ 0x83 ∷ 0x00 ∷ 0x10 ∷ 0x81 ∷ 0x00 ∷ 0x30 ∷ []

-- the same ring, racks from 0, 1, 2 to 1, 2, 3: turned by one place
abbrev pub turned_on : List ℕ
turned_on = 0x08 ∷ 0x08 ∷ 0x0C ∷ 0x00 ∷ 0x10 ∷ 0x03 ∷ 0x04 ∷ 0x20 ∷ 0x83 ∷ 0x00 ∷ 0x10 ∷ 0x81 ∷ 0x08 ∷ 0x30 ∷ []

pub small_judged :
    (vacancy_answer turned_edge ≡ refused 13 0)
    × (vacancy_answer two_racks ≡ refused 29 0)
    × (vacancy_answer path_of_four ≡ refused 29 0)
    × (vacancy_answer path_of_three ≡ refused 21 0)
    × (vacancy_answer alone ≡ refused 21 0)
    × (vacancy_answer three_racks ≡ accepted (0 ∷ []))
    × (vacancy_answer mirrored ≡ accepted (1 ∷ []))
    × (vacancy_answer two_and_one ≡ accepted (1 ∷ []))
    × (vacancy_answer turned_on ≡ accepted (0 ∷ []))
unfolding vacancy_answer judgement impossible? bi_connected? joined some is_pair order_answer wrong_length misfits record_length unit_count
    wrong_positions padding_set pad_set unclean pad wrong_edges bad_edge precedes ascending wrong_racks wrong_places
    repeats order_of floor_of
    starts_of goals_of counts position_count edge_count rack_count field number bits_of bits pairs positions change
    values_from goal_of vacancy
    first_from stands inversions count_of rack_at rack_from vacant occupied
small_judged = (refl, refl, refl, refl, refl, refl, refl, refl, refl)

-- the ring of four, which is no model and is judged too
abbrev ring_of_four : List ℕ
ring_of_four = 10 ∷ 5 ∷ 10 ∷ 5 ∷ []

pub two_colours_met : Rows 4 ring_of_four × Connected 4 (Edge ring_of_four)
unfolding bit decide_bi_connected ℕ_discrete
two_colours_met =
    let joined? : (a b : ℕ) → Dec (Edge ring_of_four a b) = λ a b. ℕ_discrete (bit (get_or ring_of_four a 0) b) 1 in
    (rows_tested 4 ring_of_four tt, (holds-true (decide_bi_connected 4 (Edge ring_of_four) joined?) refl).connected)
