-- A cycle turned by one place: what that asks for, the moves that it takes, and what it does to the table.
--
--     Round at size g         the rows g have an edge from each of these to the next, and from the last to the first
--     VacantPlace at size h i     place i of the cycle is vacant
--     Turnable at size h      some place of the cycle is vacant
--     vacant_place at size h   the lowest place of the cycle that is vacant
--     round_from at z size i   the position i places after place z of the cycle; at i = size that is place z again
--     is_rack r, is_real m r    r is a rack, not 0; it is a real one, up to m
--     pass_move keep a b h     what stands at a, if it is a rack that `keep` takes, moves to b: the move with that rack
--     pass_moves keep at h c   so does what stands at the places c, c - 1, .., 1 of `at`, one after another, each to the next place
--     turn_by keep at size h   and so round a cycle, from the vacancy at its lowest place: first what stands before it, last what stands
--                             behind it
--     turn_moves at size h     the moves of a turn by one place
--     turn_written at size s   those of them that move a real rack of the state s, each with that rack
--     TurnJourney at size s l t s' l' t'    a journey of just these moves, on every floor that has the cycle
--     Turned at size h k      every content of the cycle, vacancies too, stands one place on; nothing else moved
--     TurnShown at size s s'  the three things shown of a turn: legal moves, one place on, no other rack
-- Assumes nothing.
use Rattle.std.specs.Prelude.{ℕ, zero, suc, ◌+◌, ◌-◌, ◌%◌, ◌<◌, ◌≡◌, Bool, cond, ◌&&◌, List, [], ◌∷◌, ◌++◌, ◌≢◌, ltb, leb}
use Rattle.field.specs.Listed.{moves_of}
use Rattle.graph.specs.Rows.{row, Edge}
use Rattle.breakdown.specs.Part.{place_of}
use Rattle.moving.specs.Went.{Went}
use Rattle.moving.specs.Journey.{Along, JourneyBy}
use Rattle.moving.specs.declared.State.{State}

pub record Round (at : ℕ → ℕ) (size : ℕ) (g : List ℕ) : Type 0 where
  pub joined : Along at size g
  pub closed : Edge g (at (size - 1)) (at 0)

pub record VacantPlace (at : ℕ → ℕ) (size : ℕ) (h : ℕ → ℕ) (i : ℕ) : Type 0 where
  pub before : i < size
  pub vacant : h (at i) ≡ 0

abbrev pub Turnable : (ℕ → ℕ) → ℕ → (ℕ → ℕ) → Type 0
Turnable at size h = (i : ℕ) × VacantPlace at size h i

-- Request (f): "one rack after another from a vacancy". Of several vacancies it is the one at the lowest place.
abbrev pub vacant_place : (ℕ → ℕ) → ℕ → (ℕ → ℕ) → ℕ
vacant_place at size h = place_of (λ i. h (at i)) 0 size 0

abbrev pub round_from : (ℕ → ℕ) → ℕ → ℕ → ℕ → ℕ
round_from at z size i = at ((z + i) % size)

abbrev pub is_rack : ℕ → Bool
is_rack r = ltb 0 r

abbrev pub is_real : ℕ → ℕ → Bool
is_real m r = is_rack r && leb r m

-- A vacant place is passed over.
abbrev pub pass_move : (ℕ → Bool) → ℕ → ℕ → (ℕ → ℕ) → List (ℕ × ℕ × ℕ)
pass_move keep a b h = cond (keep (h a)) ((a, b, h a) ∷ []) []

unfoldable pub pass_moves : (ℕ → Bool) → (ℕ → ℕ) → (ℕ → ℕ) → ℕ → List (ℕ × ℕ × ℕ)
pass_moves keep at h zero = []
pass_moves keep at h (suc c) = pass_move keep (at (suc c)) (at (suc c + 1)) h ++ pass_moves keep at h c

abbrev pub turn_by : (ℕ → Bool) → (ℕ → ℕ) → ℕ → (ℕ → ℕ) → List (ℕ × ℕ × ℕ)
turn_by keep at size h = pass_moves keep (round_from at (vacant_place at size h) size) h (size - 1)

abbrev pub turn_moves : (ℕ → ℕ) → ℕ → (ℕ → ℕ) → List (ℕ × ℕ)
turn_moves at size h = moves_of (turn_by is_rack at size h)

-- Document 01: "Vacancies beyond two are filled with stand-in racks whose moves are dropped."
abbrev pub turn_written : (ℕ → ℕ) → ℕ → State → List (ℕ × ℕ × ℕ)
turn_written at size s = turn_by (is_real s.real) at size (row s.racks)

-- Request (f): "Every order's plan stays the same, byte for byte": which moves are made, logged and written hangs on nothing else.
abbrev pub TurnJourney : (ℕ → ℕ) → ℕ → State → List ℕ → List ℕ → State → List ℕ → List ℕ → Type 0
TurnJourney at size s l t s' l' t' =
    (g : List ℕ) → Round at size g → JourneyBy (turn_moves at size (row s.racks)) (turn_written at size s) g size s l t s' l' t'

pub record Turned (at : ℕ → ℕ) (size : ℕ) (h k : ℕ → ℕ) : Type 0 where
  pub on : (i : ℕ) → i + 1 < size → k (at (i + 1)) ≡ h (at i)
  pub closed : k (at 0) ≡ h (at (size - 1))
  pub others : (p : ℕ) → ((i : ℕ) → i < size → at i ≢ p) → k p ≡ h p

-- Request (f): "Shown of each turn: its moves are legal," each at its turn, "every rack on the cycle goes one place on," stand-ins too,
-- "and no other rack moves."
pub record TurnShown (at : ℕ → ℕ) (size : ℕ) (s s' : State) : Type 0 where
  pub legal : (g : List ℕ) → Round at size g
      → Went (Edge g) s.real (row s.racks) (turn_moves at size (row s.racks)) (turn_written at size s) (row s'.racks)
  pub turned : Turned at size (row s.racks) (row s'.racks)
