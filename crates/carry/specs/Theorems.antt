-- What is proved of the dearest carry, from request (m). F is a floor, n its number of positions.
--
--     PlanFor F a b ms      the moves ms are a plan for one rack alone from a to b: replayed, they end with it at b
--     SomePlan F a b k      one of k moves is
--     LeastMoves F a b k    one of k moves is, and none of fewer
--     one_rack F a b         the order of one rack from a to b on F
--     Before ms ls          the moves ms enter a lower position than the moves ls at the first move where they differ
--     DearestCarry F        what the start, the goal and the plan of the dearest carry are
-- Assumes nothing.
use Rattle.std.specs.Prelude.{ℕ, ◌≤◌, ◌<◌, ◌≡◌, List, [], ◌∷◌, ◌⊎◌, length}
use Rattle.answers.specs.Answer.{accepted}
use Rattle.order.specs.Floor.{Floor}
use Rattle.order.specs.Order.{Order, order_record, order_of}
use Rattle.motion.specs.Replay.{ended, replay_moves}
use Rattle.plan.specs.Plan.{plan_answer}
use Rattle.farthest.specs.Balls.{Earlier}
use Rattle.carry.specs.Carry.{distance, longest, dearest_start, dearest_goal, dearest_moves, carry_record}

abbrev pub PlanFor : Floor → ℕ → ℕ → List (ℕ × ℕ) → Type 0
PlanFor F a b ms = replay_moves F (a ∷ []) ms ≡ ended (b ∷ [])

pub record SomePlan (F : Floor) (a b k : ℕ) : Type 0 where
  pub moves : List (ℕ × ℕ)
  pub counted : length moves ≡ k
  pub leads : PlanFor F a b moves

pub record LeastMoves (F : Floor) (a b k : ℕ) : Type 0 where
  pub some : SomePlan F a b k
  pub no_fewer : (ms : List (ℕ × ℕ)) → PlanFor F a b ms → k ≤ length ms

abbrev pub one_rack : Floor → ℕ → ℕ → Order
one_rack F a b = record { floor = F; starts = a ∷ []; goals = b ∷ [] }

pub data Before : List (ℕ × ℕ) → List (ℕ × ℕ) → Type 0 where
  lower : {m l : ℕ × ℕ} {ms ls : List (ℕ × ℕ)} → m.1 < l.1 → Before (m ∷ ms) (l ∷ ls)
  later : {m : ℕ × ℕ} {ms ls : List (ℕ × ℕ)} → Before ms ls → Before (m ∷ ms) (m ∷ ls)

pub record DearestCarry (F : Floor) : Type 0 where
  pub start_there : dearest_start F < F.positions
  pub goal_there : dearest_goal F < F.positions
  -- distances are the lengths of shortest plans
  pub distances : (a b : ℕ) → a < F.positions → b < F.positions → LeastMoves F a b (distance F a b)
  -- the plan just written, for the order of one rack on the same floor, which reads back as what it is
  pub order_read : order_of (order_record (one_rack F (dearest_start F) (dearest_goal F))) ≡ one_rack F (dearest_start F) (dearest_goal F)
  pub plan_accepted : plan_answer (order_record (one_rack F (dearest_start F) (dearest_goal F))) (carry_record F) ≡
      accepted (longest F ∷ [])
  -- no plan for it is shorter, as a list of moves or as a record
  pub is_plan : PlanFor F (dearest_start F) (dearest_goal F) (dearest_moves F)
  pub counted : length (dearest_moves F) ≡ longest F
  -- so a buffer that 28 passes has room for it
  pub few : longest F < F.positions
  pub no_shorter : (ms : List (ℕ × ℕ)) → PlanFor F (dearest_start F) (dearest_goal F) ms → longest F ≤ length ms
  pub none_accepted : (p : List ℕ) (k : ℕ) → plan_answer (order_record (one_rack F (dearest_start F) (dearest_goal F)))
      p ≡ accepted (k ∷ [])
      → longest F ≤ k
  -- no pair has a longer shortest plan, and each earlier pair has a shorter one
  pub no_dearer : (a b : ℕ) → a < F.positions → b < F.positions → (k : ℕ) × (k ≤ longest F) × SomePlan F a b k
  pub earlier_cheaper : (a b : ℕ) → a < F.positions → b < F.positions → Earlier a b (dearest_start F) (dearest_goal F)
      → (k : ℕ) × (k < longest F) × SomePlan F a b k
  -- of the plans that are as short, none comes before it: it comes before each other
  pub none_before : (ms : List (ℕ × ℕ)) → PlanFor F (dearest_start F) (dearest_goal F) ms → length ms ≡ longest F
      → Before ms (dearest_moves F) → ⊥
  pub before_others : (ms : List (ℕ × ℕ)) → PlanFor F (dearest_start F) (dearest_goal F) ms → length ms ≡ longest F
      → (ms ≡ dearest_moves F) ⊎ Before (dearest_moves F) ms
