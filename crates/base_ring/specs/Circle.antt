-- The base ring, as settling it needs it, and the states of the floor while it is settled. c is the ring as the code has it: its positions
-- in their order round it, how many the floor has, and a position beside its place 0. h is a table of racks, T the goal's, and k the table
-- afterwards.
--
--     place c i            the position at place i of the ring
--     On c p               p is on the ring
--     BaseRing E c         c is a ring of the floor with the edges E that leaves out a position, and `beside` is one beside place 0 that is
--                          not on it
--     OnRing c r h         rack r stands on the ring
--     TwoOnRing c a b h    a and b are two racks, and both stand on it
--     RestHeld c h         every position off the ring holds a rack, so that the vacancies are on the ring
--     Open c h             just the places 0 and 1 are vacant
--     Aside c r h k        rack r stands beside the ring, and nothing else off the ring moved
--     Ready c r h k        rack r stands at place 1, place 0 and the last place are vacant, and nothing off the ring moved
--     swapped a b r        a for b, b for a, any other rack for itself
--     Exchanged a b h k    the racks a and b have changed places, and no other moved
--     RestSettled c T h    off the ring each position holds what it has in the goal, which has the places 0 and 1 vacant
--     Ringing c T i h      the same, with the places 0 and 1 vacant, and those from 2 up to i as the goal has them
-- Assumes nothing.
use Rattle.std.specs.Prelude.{ℕ, ◌+◌, ◌-◌, ◌≤◌, ◌<◌, ◌≡◌, cond, ◌≢◌, eqb}
use Rattle.breakdown.specs.Breakdown.{Among}
use Rattle.graph.specs.Rows.{row}
use Rattle.moving.specs.Went.{Same}
use Rattle.moving.specs.Table.{Table}
use Rattle.base_ring.specs.declared.Circle.{Circle}

abbrev pub place : Circle → ℕ → ℕ
place c = row c.at

abbrev pub On : Circle → ℕ → Type 0
On c p = Among (place c) c.size p

pub record BaseRing (E : ℕ → ℕ → Type 0) (c : Circle) : Type 0 where
  pub three : 3 ≤ c.size
  pub less : c.size < c.positions
  pub below : (i : ℕ) → i < c.size → place c i < c.positions
  pub distinct : (i j : ℕ) → i < j → j < c.size → place c i ≢ place c j
  pub joined : (i : ℕ) → i + 1 < c.size → E (place c i) (place c (i + 1))
  pub closed : E (place c (c.size - 1)) (place c 0)
  pub beside : E (place c 0) c.beside
  pub off : (i : ℕ) → i < c.size → place c i ≢ c.beside

pub record OnRing (c : Circle) (r : ℕ) (h : ℕ → ℕ) : Type 0 where
  pub rack : r ≢ 0
  pub at : ℕ
  pub on : On c at
  pub there : h at ≡ r

pub record TwoOnRing (c : Circle) (a b : ℕ) (h : ℕ → ℕ) : Type 0 where
  pub differ : a ≢ b
  pub first : OnRing c a h
  pub second : OnRing c b h

abbrev pub RestHeld : Circle → (ℕ → ℕ) → Type 0
RestHeld c h = (p : ℕ) → p < c.positions → (On c p → ⊥) → h p ≢ 0

pub record Open (c : Circle) (h : ℕ → ℕ) : Type 0 where
  pub table : Table c.positions h
  pub zero : h (place c 0) ≡ 0
  pub one : h (place c 1) ≡ 0

pub record Aside (c : Circle) (r : ℕ) (h k : ℕ → ℕ) : Type 0 where
  pub there : k c.beside ≡ r
  pub outside : (p : ℕ) → (On c p → ⊥) → p ≢ c.beside → k p ≡ h p

pub record Ready (c : Circle) (r : ℕ) (h k : ℕ → ℕ) : Type 0 where
  pub zero : k (place c 0) ≡ 0
  pub last : k (place c (c.size - 1)) ≡ 0
  pub there : k (place c 1) ≡ r
  pub outside : (p : ℕ) → (On c p → ⊥) → k p ≡ h p

abbrev pub swapped : ℕ → ℕ → ℕ → ℕ
swapped a b r = cond (eqb r a) b (cond (eqb r b) a r)

abbrev pub Exchanged : ℕ → ℕ → (ℕ → ℕ) → (ℕ → ℕ) → Type 0
Exchanged a b h k = Same k (λ p. swapped a b (h p))

pub record RestSettled (c : Circle) (T h : ℕ → ℕ) : Type 0 where
  pub table : Table c.positions h
  pub goal : Open c T
  pub outside : (p : ℕ) → (On c p → ⊥) → h p ≡ T p

pub record Ringing (c : Circle) (T : ℕ → ℕ) (i : ℕ) (h : ℕ → ℕ) : Type 0 where
  pub opened : Open c h
  pub goal : Open c T
  pub settled : (j : ℕ) → 2 ≤ j → j < i → h (place c j) ≡ T (place c j)
  pub outside : (p : ℕ) → (On c p → ⊥) → h p ≡ T p
