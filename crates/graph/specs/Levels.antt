-- The state of a breadth-first search that goes backwards from its targets, level by level. A level is a set: level i has the positions
-- from which a shortest walk to a target has i + 1 positions. Over an edge relation E, a set P of free positions and a set T of targets; l
-- are the levels.
--
--     Near E P T v k             a walk of k positions leads from v to a target
--     Within x k                 the number x is not 0 and is at most k
--     Seen l k v                 v is on one of the levels before level k
--     Touches E s v              an edge joins v to a position of the set s
--     Levels E P T d l           the first d levels are right
--     Met G l d                  the last of d levels has a position of G
--     Spread E P T G l d x       the levels were made until one has a position of G, the last of d; or, with d = 0, until there were no
--                                more, and x is what was never reached
--     OrZero R d                 R of the number d, which is not 0; where there is none, R of 0
--     Descent E l d a            a is on the last of d levels, and each level but the first has an edge down from each of its positions
--     Traced E l d a f           the positions f go down d levels from a to the first, each time to the lowest one joined on the next level
-- Assumes nothing.
use Rattle.std.specs.Prelude.{ℕ, ◌+◌, ◌-◌, ◌≤◌, ◌<◌, ◌≡◌, List, Option, Some, None, get_or}
use Rattle.sets.specs.Sets.{Has}
use Rattle.graph.specs.Walk.{Walk}

pub record Near (E : ℕ → ℕ → Type 0) (P T : ℕ → Type 0) (v k : ℕ) : Type 0 where
  pub target : ℕ
  pub is : T target
  pub walk : Walk E P v target k

pub record Within (x k : ℕ) : Type 0 where
  pub some : 0 < x
  pub most : x ≤ k

pub record Seen (l : List ℕ) (k v : ℕ) : Type 0 where
  pub level : ℕ
  pub before : level < k
  pub on : Has (get_or l level 0) v

pub record Touches (E : ℕ → ℕ → Type 0) (s v : ℕ) : Type 0 where
  pub at : ℕ
  pub there : Has s at
  pub edge : E v at

pub record Levels (E : ℕ → ℕ → Type 0) (P T : ℕ → Type 0) (d : ℕ) (l : List ℕ) : Type 0 where
  pub near : (i v : ℕ) → i < d → Has (get_or l i 0) v → Near E P T v (i + 1)
  pub full : (v t k : ℕ) → Walk E P v t k → T t → k ≤ d → Seen l k v
  pub apart : (i j v : ℕ) → i < d → j < d → Has (get_or l i 0) v → Has (get_or l j 0) v → i ≡ j
  pub down : (i v : ℕ) → i + 1 < d → Has (get_or l (i + 1) 0) v → Touches E (get_or l i 0) v

pub record Met (G : ℕ → Type 0) (l : List ℕ) (d : ℕ) : Type 0 where
  pub at : ℕ
  pub goal : G at
  pub last : Has (get_or l (d - 1) 0) at

pub record Spread (E : ℕ → ℕ → Type 0) (P T G : ℕ → Type 0) (l : List ℕ) (d x : ℕ) : Type 0 where
  pub small : d ≤ 64
  pub levels : Levels E P T d l
  pub met : 0 < d → Met G l d
  pub none : d ≡ 0 → (v t k : ℕ) → Walk E P v t k → T t → G v → ⊥
  pub within : (v : ℕ) → Has x v → P v
  pub gone : d ≡ 0 → (v t k : ℕ) → Walk E P v t k → T t → Has x v → ⊥
  pub near : d ≡ 0 → (v : ℕ) → P v → (Has x v → ⊥) → (k : ℕ) × Near E P T v k

abbrev pub OrZero : (ℕ → Type 0) → Option ℕ → Type 0
OrZero R None = R 0
OrZero R (Some d) = (0 < d) × R d

pub record Descent (E : ℕ → ℕ → Type 0) (l : List ℕ) (d a : ℕ) : Type 0 where
  pub some : 0 < d
  pub few : d ≤ 64
  pub small : a < 64
  pub on : Has (get_or l (d - 1) 0) a
  pub down : (i v : ℕ) → i + 1 < d → Has (get_or l (i + 1) 0) v → Touches E (get_or l i 0) v

pub record Traced (E : ℕ → ℕ → Type 0) (l : List ℕ) (d a : ℕ) (f : List ℕ) : Type 0 where
  pub first : get_or f 0 0 ≡ a
  pub joined : (i : ℕ) → i + 1 < d → E (get_or f i 0) (get_or f (i + 1) 0)
  pub level : (i : ℕ) → i < d → Has (get_or l (d - 1 - i) 0) (get_or f i 0)
  pub lowest : (i w : ℕ) → i + 1 < d → E (get_or f i 0) w → Has (get_or l (d - 1 - (i + 1)) 0) w → get_or f (i + 1) 0 ≤ w
