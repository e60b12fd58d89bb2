-- Plans that a move stops, from request (c): "34 no rack at the position left; 35 the position entered is occupied; each has the move
-- number as its place; tested after 32 for the same move, the first bad move deciding, and all three before 33." Request (h): "36 the rack
-- written is not the one there, with 35's place and order, but after 35 for the same move".
--
--     StoppedPlan o p f j   10 to 14, 30 and 31 pass, the moves before number j are legal each at its turn and name the racks that they
--                           move, if any, and f stands for what is wrong with number j
--     plan_stopped          a plan is refused with 32, 34, 35 or 36 at the place j exactly if it is stopped so
-- Assumes nothing.
use Prim.Native.Nat.{ℕ, ◌≤◌}
use mathlib.Core.Bool.{false}
use mathlib.Core.List.{List, [], ◌∷◌}
use mathlib.Core.Logic.{◌↔◌, ◌≢◌}
use mathlib.Core.Path.{◌≡◌, ◌∙◌}
use native.Mathlib.Omega.{arith}
use Rattle.answers.specs.Answer.{refused}
use Rattle.answers.proofs.AnswerLaws.{refuse-past, pass_up-past, pass_up_accepted}
use Rattle.order.specs.Order.{floor_of, starts_of, goals_of, counts, order_answer, WellFormed}
use Rattle.order.proofs.OrderLaws.{well_formed, order_past}
use Rattle.motion.specs.Move.{listed_fault, after_listed}
use Rattle.motion.specs.Replay.{replay_listed}
use Rattle.motion.proofs.ListedLaws.{legal_listed, listed_fault_none, BadListed, listed_fault_bad, replay_listed_stopped}
use Rattle.motion.proofs.Lawful.{Stops, stops_some}
use Rattle.motion.proofs.JudgementLaws.{judged_refused}
use Rattle.plan.specs.Plan.{move_count, plan_listed, wrong_plan_length, plan_padding_set, plan_answer}

module _ (o p : List ℕ) (f j : ℕ) where
  -- `stops` has the moves before number j, what they make of the starts, and number j itself
  pub record StoppedPlan : Type 0 where
    pub order_right : WellFormed o
    pub length_right : wrong_plan_length p ≡ false
    pub padding_clear : plan_padding_set p ≡ false
    pub stops : Stops (listed_fault (floor_of o)) (legal_listed (floor_of o)) after_listed 1 (starts_of o) (plan_listed p) f j
    pub reason : BadListed (floor_of o) stops.there stops.bad f

  stopped_to : 32 ≤ f → 33 ≢ f → plan_answer o p ≡ refused f j → StoppedPlan
  unfolding plan_answer
  stopped_to l d e =
      let F = floor_of o in
      let x = replay_listed F (starts_of o) (plan_listed p) in
      let below = pass_up-past (order_answer o) _ f j (order_past o f j (omega arith)) e in
      let t₀ = refuse-past (wrong_plan_length p) 30 0 _ f j (λ z. omega arith) below.1 in
      let t₁ = refuse-past (plan_padding_set p) 31 0 _ f j (λ z. omega arith) t₀.1 in
      let s = (replay_listed_stopped F (starts_of o) (plan_listed p) f j).0
      ((judged_refused 33 (goals_of o) (move_count p ∷ []) f j d x).0 t₁.1) in
      record {
        order_right = well_formed o below.0.0 below.0.1;
        length_right = t₀.0;
        padding_clear = t₁.0;
        stops = s;
        reason = (listed_fault_bad F s.there s.bad f
            (stops_some (listed_fault F) (legal_listed F) after_listed (listed_fault_none F) s)).0
            s.fault_is;
      }

  stopped_from : 33 ≢ f → StoppedPlan → plan_answer o p ≡ refused f j
  unfolding plan_answer
  stopped_from d t =
      let x = replay_listed (floor_of o) (starts_of o) (plan_listed p) in
      pass_up_accepted (order_answer o) _ (counts o) t.order_right
      ∙ rw (t.length_right, t.padding_clear)
      ((judged_refused 33 (goals_of o) (move_count p ∷ []) f j d x).1
      ((replay_listed_stopped (floor_of o) (starts_of o) (plan_listed p) f j).1 t.stops))

  pub plan_stopped : 32 ≤ f → 33 ≢ f → (plan_answer o p ≡ refused f j) ↔ StoppedPlan
  plan_stopped l d = (stopped_to l d, stopped_from d)
