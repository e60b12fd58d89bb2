-- Racks driven on round a circle: each by as many places as it needs. at are the circle's positions, h is a table of racks, and d says for
-- each rack how many places it needs to go on.
--
--     Circled n at          some floor has the circle
--     Ready n at d h i      the rack at place i needs to go on, and the next place is vacant
--     Found n at d h r      the answer r is a place that is ready; or none is
--     Paced n at d h        no rack that needs to go on is in the way of one behind it: it goes on as far, or its place is far enough
--     Driveable n m at d h  the racks 1 to m, with a vacancy among them, so paced
--     Driven n at d h k     in k each rack stands as many places on from its place in h as it needs
--     TripRound n at c s t s' t'    a trip on every floor that has the circle
--     TripOnRing n at c s t s' t'   a trip on every ring that has it
-- Assumes nothing.
use Rattle.std.specs.Prelude.{ℕ, ◌+◌, ◌≤◌, ◌<◌, ◌≡◌, List, ◌≢◌, Option, MatchOption}
use Rattle.graph.specs.Rows.{Edge, Rows}
use Rattle.ring.specs.Circle.{Circle, next}
use Rattle.ring.specs.Order.{ahead}
use Rattle.ring.specs.Standing.{OnCircle}
use Rattle.moving.specs.Journey.{Trip}
use Rattle.moving.specs.declared.State.{State}
use Rattle.circling.specs.Lands.{Lands}

abbrev pub Circled : ℕ → (ℕ → ℕ) → Type 0
Circled n at = (g : List ℕ) × Circle n (Edge g) at × Rows n g

pub record Ready (n : ℕ) (at d h : ℕ → ℕ) (i : ℕ) : Type 0 where
  pub needs : 0 < d (h (at i))
  pub vacant : h (at (next n i)) ≡ 0

abbrev pub Found : ℕ → (ℕ → ℕ) → (ℕ → ℕ) → (ℕ → ℕ) → Option ℕ → Type 0
Found n at d h r = MatchOption r ((j : ℕ) → j < n → Ready n at d h j → ⊥) (λ i. (i < n) × Ready n at d h i)

pub record Paced (n : ℕ) (at d h : ℕ → ℕ) : Type 0 where
  pub idle : d 0 ≡ 0
  pub behind : (i j : ℕ) → i < n → j < n → i ≢ j → h (at i) ≢ 0 → h (at j) ≢ 0 → d (h (at i)) < d (h (at j)) + ahead n i j

pub record Driveable (n m : ℕ) (at d h : ℕ → ℕ) : Type 0 where
  pub three : 3 ≤ n
  pub few : n ≤ 64
  pub on : OnCircle n m at h
  pub less : m < n
  pub vacancy : (z : ℕ) × (z < n) × (h (at z) ≡ 0)
  pub paced : Paced n at d h

pub record Driven (n : ℕ) (at d h k : ℕ → ℕ) : Type 0 where
  pub from : (j : ℕ) → j < n → k (at j) ≢ 0 → (i : ℕ) × (i < n) × (h (at i) ≡ k (at j)) × Lands n (i + d (k (at j))) j

abbrev pub TripRound : ℕ → (ℕ → ℕ) → ℕ → State → List ℕ → State → List ℕ → Type 0
TripRound n at c s t s' t' = (g : List ℕ) → Circle n (Edge g) at → Trip g c s t s' t'

-- the other way round the edges are the same
abbrev pub TripOnRing : ℕ → (ℕ → ℕ) → ℕ → State → List ℕ → State → List ℕ → Type 0
TripOnRing n at c s t s' t' = (g : List ℕ) → Rows n g → Circle n (Edge g) at → Trip g c s t s' t'
