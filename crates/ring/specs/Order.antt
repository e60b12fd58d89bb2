-- The order of racks round a circle. p and g say for each of the racks 1 to m at which place it stands.
--
--     InTurn i j k        read round from place i, place j comes before place k
--     ahead n i j         how many places on from place i place j is
--     Rack m r            r is one of the racks 1 to m
--     Places n m p        each rack has one of n places, no two racks the same
--     SameOrder m p g     the racks stand in the same order round the circle by p and by g
--     distance n p r      how many places on from rack 1 rack r is
--     InFront n p r q     read round from rack 1, rack r comes before rack q
--     Keeps n m p g r     racks behind rack r by p are behind it by g
-- Assumes nothing.
use Rattle.std.specs.Prelude.{ℕ, ◌+◌, ◌-◌, ◌≤◌, ◌<◌, ◌≡◌, cond, ◌⊎◌, leb}

-- i, j and k ascend, or they do when the reading begins at another of them
abbrev pub InTurn : ℕ → ℕ → ℕ → Type 0
InTurn i j k = ((i < j) × (j < k)) ⊎ (((j < k) × (k < i)) ⊎ ((k < i) × (i < j)))

abbrev pub ahead : ℕ → ℕ → ℕ → ℕ
ahead n i j = cond (leb i j) (j - i) (j + n - i)

pub record Rack (m r : ℕ) : Type 0 where
  pub some : 0 < r
  pub most : r ≤ m

pub record Places (n m : ℕ) (p : ℕ → ℕ) : Type 0 where
  pub below : (r : ℕ) → Rack m r → p r < n
  pub apart : (r q : ℕ) → Rack m r → Rack m q → p r ≡ p q → r ≡ q

-- Request (d): "the racks stand in the same order round it at start and goal": read round from any rack, of any two others the same comes
-- first. Where the reading begins does not matter, in which sense it goes does.
abbrev pub SameOrder : ℕ → (ℕ → ℕ) → (ℕ → ℕ) → Type 0
SameOrder m p g =
    (r q s : ℕ) → Rack m r → Rack m q → Rack m s → InTurn (p r) (p q) (p s) → InTurn (g r) (g q) (g s)

abbrev pub distance : ℕ → (ℕ → ℕ) → ℕ → ℕ
distance n p r = ahead n (p 1) (p r)

abbrev pub InFront : ℕ → (ℕ → ℕ) → ℕ → ℕ → Type 0
InFront n p r q = distance n p r < distance n p q

abbrev pub Keeps : ℕ → ℕ → (ℕ → ℕ) → (ℕ → ℕ) → ℕ → Type 0
Keeps n m p g r = (q : ℕ) → Rack m q → InFront n p r q → InFront n g r q
