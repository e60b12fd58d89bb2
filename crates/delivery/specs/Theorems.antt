-- Demand 3: document 01, "Proof owed", 5: "one statement over three calls in turn, and not one for each call: the planner on the order;
-- the timetable maker on that order and the plan just written; the timetable checker on that order and the timetable just written. Each
-- record is handed on alone, from its buffer's first byte to the record's last, and nobody else writes order, plan or timetable meanwhile."
-- It speaks of what the three functions promise, whoever calls them.
--
--     timetable_alone T        the timetable at the front of the buffer T, alone
--     TimetableMade o p k T   of the plan p of k moves the making rule's timetable is made in the buffer T, and accepted with the
--                             maker's steps and k moves
--     Delivered o P a P'      the plan just written is accepted, and so is the timetable made of it
--     Delivers o P a P'       demand 3: every order that can be planned is delivered, given such a buffer
-- Assumes nothing.
use Rattle.std.specs.Prelude.{ℕ, ◌+◌, ◌*◌, ◌≤◌, ◌≡◌, true, List, [], ◌∷◌, length, take}
use Rattle.answers.specs.Answer.{Answer, accepted}
use Rattle.field.specs.Units.{record_length}
use Rattle.field.specs.Writing.{written}
use Rattle.order.specs.Order.{position_count, floor_of, starts_of, goals_of}
use Rattle.motion.specs.Replay.{ended, replay_moves}
use Rattle.plan.specs.Plan.{named, plan_moves, plan_answer}
use Rattle.timetable.specs.Timetable.{timetable_record, timetable_answer}
use Rattle.timetable.specs.RecordLength.{whole_timetable_length}
use Rattle.scheduling.specs.Maker.{made_of, maker_answer, buffer_after}
use Rattle.floor.specs.Plannable.{Plannable}
use Rattle.planner.specs.Planner.{PlanMade}

unfoldable pub timetable_alone : List ℕ → List ℕ
timetable_alone T = take (whole_timetable_length T) T

-- "From that plan, given a timetable buffer of at least 3 bytes more than three for each move, whatever it held before, the timetable maker
-- writes the timetable that document 01's making rule gives, and the timetable checker accepts it, with exactly the maker's count of steps
-- and the planner's count of moves."
pub record TimetableMade (o p : List ℕ) (k : ℕ) (T : List ℕ) : Type 0 where
  pub steps : ℕ
  pub made : maker_answer o p (length T) ≡ accepted (steps ∷ [])
  pub short : length (timetable_record (made_of o p)) ≤ 3 * k + 3
  pub stands : buffer_after o p T ≡ written T 0 (timetable_record (made_of o p))
  pub accepts : timetable_answer o (timetable_alone (buffer_after o p T)) ≡ accepted (steps ∷ k ∷ [])

-- "the planner writes a plan of at most 8 × n × n × n one-rack moves: replayed from the starts, every move is legal at its turn, and after
-- the last one every rack stands at its goal." Request (h): "The planner writes edition two", with 18 bits to a move. Handed
-- on alone the plan is the bytes of that length that the buffer begins with.
pub record Delivered (o P : List ℕ) (a : Answer) (P' : List ℕ) : Type 0 where
  pub moves : ℕ
  pub plan : List ℕ
  pub planned : a ≡ accepted (moves ∷ [])
  pub few : moves ≤ 8 * (position_count o * (position_count o * position_count o))
  pub long : length plan ≡ record_length (3 * moves)
  pub stands : P' ≡ written P 0 plan
  pub edition_two : named plan ≡ true
  pub replayed : replay_moves (floor_of o) (starts_of o) (plan_moves plan) ≡ ended (goals_of o)
  pub accepts : plan_answer o plan ≡ accepted (moves ∷ [])
  pub then : (T : List ℕ) → 3 * moves + 3 ≤ length T → TimetableMade o plan moves T

-- "For every well-formed order on a bi-connected floor of n positions, n from 4 to 64, that is not a single ring and has at least two
-- vacant positions, given a plan buffer of at least" 18 × n × n × n + 3 "bytes, whatever it held before". Request (h): "the plan buffer
-- named in demand 3 is this one". Request (d): "The never-fails result takes in these rings", n from 3 on: `Plannable` is the sum of the
-- two kinds. Request (j): it "covers floors of at most four neighbours to a position".
abbrev pub Delivers : List ℕ → List ℕ → Answer → List ℕ → Type 0
Delivers o P a P' =
    let n = position_count o in Plannable o → 18 * (n * (n * n)) + 3 ≤ length P → PlanMade o P a P' → Delivered o P a P'
