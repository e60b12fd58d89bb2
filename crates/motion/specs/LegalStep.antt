-- The legal step and its trains, beside the sentences of document 01, "Legal moves and steps". The field's terms: a train is a chain of
-- agents, its leader the leading agent.
--
--     longest_train       how many moves a train may have
--     Train A ms k m     from the move m to its leader, both counted, the train has k moves
--     LegalStep F A ms   the step ms is legal on the arrangement A of the floor F
-- Assumes nothing.
use Rattle.std.specs.Prelude.{ℕ, suc, ◌≤◌, ◌≡◌, T}
use mathlib.Core.List.{List, Memᴰ}
use Rattle.order.specs.Floor.{Floor}
use Rattle.motion.specs.Arrangement.{Arrangement, vacant}
use Rattle.motion.specs.StepTests.{Ascends, EnteredOnce, OnFloor}

-- "The new power rail feeds eight racks in a train. A legal step has no chain of more than eight moves from any mover to its leader."
abbrev pub longest_train : ℕ
longest_train = 8

pub data Train (A : Arrangement) (ms : List (ℕ × ℕ)) : ℕ → ℕ × ℕ → Type 0 where
  -- "the chain has to end at a move into a position vacant before the step"
  leader : {m : ℕ × ℕ} → Memᴰ m ms → T (vacant A m.1) → Train A ms 1 m
  -- "a move into a position left in the same step follows that move"
  follows : {k : ℕ} {m m' : ℕ × ℕ} → Memᴰ m ms → m.1 ≡ m'.0 → Train A ms k m' → Train A ms (suc k) m

pub record LegalStep (F : Floor) (A : Arrangement) (ms : List (ℕ × ℕ)) : Type 0 where
  -- "its moves ascend strictly by position left;
  pub ascending : Ascends ms
  -- both positions of each are below n and joined by an edge;
  pub joins : (m : ℕ × ℕ) → Memᴰ m ms → OnFloor F m
  -- each position left holds a rack;
  pub held : (m : ℕ × ℕ) → Memᴰ m ms → Memᴰ m.0 A
  -- no position is entered twice;
  pub once : EnteredOnce ms
  -- and each move belongs to a train with a leader", of at most eight moves. How many moves the step has does not count: it may have many
  -- trains side by side.
  pub trains : (m : ℕ × ℕ) → Memᴰ m ms → (k : ℕ) × (k ≤ longest_train) × Train A ms k m
