-- What clearing a position and bringing a rack ask for, and what they do. s, l and t are the state, the log and the plan's bytes before,
-- s', l' and t' afterwards; h and k are tables.
--
--     VacantBelow n h v      the set v has the vacant positions below n, and no others
--     Inside n v             the set v has positions below n alone
--     Vacancy P h            a position of P is vacant
--     Cleared P p h k        p is vacant, and nothing outside P moved
--     RoomToClear E P p s l t         there is room for as many moves as p is away from the nearest vacancy
--     Clears P g p s l t s' l' t'     p is cleared by the nearest vacancy: in just as many moves as it is away from it
--     Outcome P g p s l t r l' t'     the answer r is that p is so cleared, with the number of moves; or that there is no way, and nothing
--                            changed
--     Bringable P a b h      a and b are positions of P, a rack stands at a, and a position of P is vacant
--     RoomToBring P s l t    there is room for c × c moves, where P has at most c + 1 positions
--     Brings E P h a ds b k  a rack goes from a to b along edges, and the table h becomes k; ds are the moves of the clearings, one for
--                            each position gone, the last of them first
--     sum ds                 the numbers ds in all
--     bring_moves ds          so many moves that takes: the sum of the clearings, and one for each position gone
--     BroughtBy P g a b s l t s' l' t'    the rack at a is brought to b: by a shortest way, in just so many moves
--     Brought P a b h k      the rack that stood at a stands at b, a position of P is vacant, and nothing outside P moved
-- Assumes nothing.
use Rattle.std.specs.Prelude.{ℕ, suc, ◌+◌, ◌*◌, ◌<◌, ◌≡◌, Some, None, List, [], ◌∷◌, ◌↔◌, ◌≢◌, length}
use Rattle.sets.specs.Sets.{Has}
use Rattle.graph.specs.Walk.{Walk}
use Rattle.graph.specs.Connected.{Except}
use Rattle.graph.specs.Rows.{row, Edge}
use Rattle.moving.specs.Went.{Move}
use Rattle.moving.specs.Journey.{Fits, Journey, JourneyIn}
use Rattle.shunting.specs.Distance.{NoWay, Distance, AtMost}
use Rattle.moving.specs.declared.State.{State}
use Rattle.shunting.specs.declared.Clearing.{Clearing}

abbrev pub VacantBelow : ℕ → (ℕ → ℕ) → ℕ → Type 0
VacantBelow n h v = (p : ℕ) → Has v p ↔ ((p < n) × (h p ≡ 0))

abbrev pub Inside : ℕ → ℕ → Type 0
Inside n v = (p : ℕ) → Has v p → p < n

pub record Vacancy (P : ℕ → Type 0) (h : ℕ → ℕ) : Type 0 where
  pub at : ℕ
  pub there : P at
  pub vacant : h at ≡ 0

pub record Cleared (P : ℕ → Type 0) (p : ℕ) (h k : ℕ → ℕ) : Type 0 where
  pub vacant : k p ≡ 0
  pub outside : (q : ℕ) → (P q → ⊥) → k q ≡ h q

abbrev pub RoomToClear : (ℕ → ℕ → Type 0) → (ℕ → Type 0) → ℕ → State → List ℕ → List ℕ → Type 0
RoomToClear E P p s l t = (d : ℕ) → Distance E P (row s.racks) p d → Fits s l t d

-- "When a position is cleared [..] it shall take as many moves as the shortest way from a vacancy"
pub record Clears (P : ℕ → Type 0) (g : List ℕ) (p : ℕ) (s : State) (l t : List ℕ) (s' : State) (l' t' : List ℕ) : Type 0 where
  pub moves : ℕ
  pub distance : Distance (Edge g) P (row s.racks) p moves
  pub journey : JourneyIn P g moves s l t s' l' t'
  pub exactly : length journey.journey.trip.moves ≡ moves
  pub cleared : Cleared P p (row s.racks) (row s'.racks)

-- "and that number is reported. [..] If no vacancy has a way, the answer says so and nothing moves; it says so only then."
pub data Outcome (P : ℕ → Type 0) (g : List ℕ) (p : ℕ) (s : State) (l t : List ℕ) : Clearing → List ℕ → List ℕ → Type 0 where
  by_nearest : {s' : State} {l' t' : List ℕ} (x : Clears P g p s l t s' l' t')
      → Outcome P g p s l t (record { state = s'; moves = Some x.moves }) l' t'
  no_way : NoWay (Edge g) P (row s.racks) p → Outcome P g p s l t (record { state = s; moves = None }) l t

pub record Bringable (P : ℕ → Type 0) (a b : ℕ) (h : ℕ → ℕ) : Type 0 where
  pub leaves : P a
  pub enters : P b
  pub held : h a ≢ 0
  pub vacancy : Vacancy P h

pub record RoomToBring (P : ℕ → Type 0) (s : State) (l t : List ℕ) : Type 0 where
  pub most : ℕ
  pub few : AtMost (suc most) P
  pub fits : Fits s l t (most * most)

-- before each position gone it is cleared, with the rack's own place and all positions outside P held; then the rack moves there
pub data Brings (E : ℕ → ℕ → Type 0) (P : ℕ → Type 0) (h : ℕ → ℕ) (a : ℕ) : List ℕ → ℕ → (ℕ → ℕ) → Type 0 where
  begun : Brings E P h a [] a h
  gone : {ds : List ℕ} {b c d : ℕ} {i j k : ℕ → ℕ} → Brings E P h a ds b i → Distance E (Except P b) i c d
      → Cleared (Except P b) c i j → Move E j b c k → Brings E P h a (d ∷ ds) c k

unfoldable pub sum : List ℕ → ℕ
sum [] = 0
sum (d ∷ ds) = d + sum ds

abbrev pub bring_moves : List ℕ → ℕ
bring_moves ds = sum ds + length ds

pub record BroughtBy (P : ℕ → Type 0) (g : List ℕ) (a b : ℕ) (s : State) (l t : List ℕ) (s' : State) (l' t' : List ℕ) : Type 0 where
  pub clearings : List ℕ
  pub brings : Brings (Edge g) P (row s.racks) a clearings b (row s'.racks)
  pub way : Walk (Edge g) P a b (suc (length clearings))
  pub shortest : (k : ℕ) → Walk (Edge g) P a b k → length clearings < k
  pub journey : Journey g (bring_moves clearings) s l t s' l' t'
  pub exactly : length journey.trip.moves ≡ bring_moves clearings

pub record Brought (P : ℕ → Type 0) (a b : ℕ) (h k : ℕ → ℕ) : Type 0 where
  pub there : k b ≡ h a
  pub vacancy : Vacancy P k
  pub outside : (q : ℕ) → (P q → ⊥) → k q ≡ h q
