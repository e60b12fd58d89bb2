-- Balls round the positions of a floor: what a number of moves reaches from each. Over the rows g or the edges E of a floor of n positions;
-- l has a set for each position.
--
--     Earlier a b c d      the pair a, b has the lower start, or the same start and the lower goal, than the pair c, d
--     Reached n E k a b    a walk of at most k moves leads from a to b
--     Alone n l            the ball of each position is the position alone
--     Grows g l a b        b is in the ball of a or of a neighbour of a
--     Grown n g l m        the balls m are the balls l, one move larger
--     Missed n l a b       a, b is the lowest pair of which the ball of the one misses the other; a is n where there is none
--     Dearest n E a b k    a, b is the lowest pair of those whose shortest walk has the most moves, and these are k
-- Assumes nothing.
use Rattle.std.specs.Prelude.{ℕ, suc, ◌≤◌, ◌<◌, ◌≡◌, List, ◌↔◌, ◌⊎◌, get_or, length}
use Rattle.sets.specs.Sets.{Has}
use Rattle.graph.specs.Walk.{Walk}
use Rattle.graph.specs.Connected.{Below}
use Rattle.graph.specs.Rows.{Edge}

abbrev pub Earlier : ℕ → ℕ → ℕ → ℕ → Type 0
Earlier a b c d = (a < c) ⊎ ((a ≡ c) × (b < d))

-- a walk of so many moves has one position more
pub record Reached (n : ℕ) (E : ℕ → ℕ → Type 0) (k a b : ℕ) : Type 0 where
  pub moves : ℕ
  pub few : moves ≤ k
  pub walk : Walk E (Below n) a b (suc moves)

pub record Alone (n : ℕ) (l : List ℕ) : Type 0 where
  pub long : length l ≡ 64
  pub is : (a b : ℕ) → a < n → Has (get_or l a 0) b ↔ (b ≡ a)

pub record Next (g l : List ℕ) (a b : ℕ) : Type 0 where
  pub at : ℕ
  pub edge : Edge g a at
  pub there : Has (get_or l at 0) b

abbrev pub Grows : List ℕ → List ℕ → ℕ → ℕ → Type 0
Grows g l a b = Has (get_or l a 0) b ⊎ Next g l a b

pub record Grown (n : ℕ) (g l m : List ℕ) : Type 0 where
  pub long : length m ≡ 64
  pub is : (a b : ℕ) → a < n → Has (get_or m a 0) b ↔ Grows g l a b

pub record Missed (n : ℕ) (l : List ℕ) (a b : ℕ) : Type 0 where
  pub most : a ≤ n
  pub below : a < n → b < n
  pub full : (u v : ℕ) → u < n → v < n → Earlier u v a b → Has (get_or l u 0) v
  pub missing : a < n → Has (get_or l a 0) b → ⊥

pub record Dearest (n : ℕ) (E : ℕ → ℕ → Type 0) (a b k : ℕ) : Type 0 where
  pub start_below : a < n
  pub goal_below : b < n
  pub near : (u v : ℕ) → u < n → v < n → Reached n E k u v
  pub far : (j : ℕ) → Walk E (Below n) a b j → k < j
  pub earlier : (u v : ℕ) → u < n → v < n → Earlier u v a b → (j : ℕ) × (j < k) × Walk E (Below n) u v (suc j)
