-- How many places each rack needs to go on. Racks are given numbers that go on past the circle's end: rack 1 one that lands at its place,
-- and each other rack as many more as it is places on from rack 1. Between the numbers at the start and at the goal lies what it needs.
--
--     reach n b p r          the number of rack r, where rack 1 has b and p are the places
--     Numbered n b p r x     x is that number, less than a lap above b
--     Bases n b c            two numbers for rack 1: small ones, the second not far above the first
--     Aimed n b j c          c is such a number that lands at place j
--     Needs n m b p c g l    l has what each rack needs to go on from the places p, where rack 1 has b, to the places g, where it has c;
--                            0 where it needs to go back
--     RoundAlike n m at h k  the racks stand in the same order round the circle in h and in k
--     round_moves n           how many moves a plan on a ring takes at most
-- Assumes nothing.
use Rattle.std.specs.Prelude.{ℕ, ◌+◌, ◌-◌, ◌*◌, ◌≤◌, ◌<◌, ◌≡◌, List, length}
use Rattle.ring.specs.Order.{Rack, distance, SameOrder}
use Rattle.graph.specs.Rows.{row}
use Rattle.ring.specs.Standing.{StandAt}
use Rattle.circling.specs.Lands.{Lands, total}

abbrev pub reach : ℕ → ℕ → (ℕ → ℕ) → ℕ → ℕ
reach n b p r = b + distance n p r

pub record Numbered (n b : ℕ) (p : ℕ → ℕ) (r x : ℕ) : Type 0 where
  pub is : x ≡ reach n b p r
  pub lap : x < b + n

pub record Bases (n b c : ℕ) : Type 0 where
  pub first : b ≤ 320
  pub second : c ≤ 320
  pub near : c ≤ b + 3 * n

pub record Aimed (n b j c : ℕ) : Type 0 where
  pub lands : Lands n c j
  pub there : Bases n b c
  pub back : Bases n c b

pub record Needs (n m b : ℕ) (p : ℕ → ℕ) (c : ℕ) (g : ℕ → ℕ) (l : List ℕ) : Type 0 where
  pub long : length l ≡ 64
  pub none : row l 0 ≡ 0
  pub each : (r : ℕ) → Rack m r → row l r ≡ reach n c g r - reach n b p r
  pub few : total l ≤ 4 * n * m

abbrev pub RoundAlike : ℕ → ℕ → (ℕ → ℕ) → (ℕ → ℕ) → (ℕ → ℕ) → Type 0
RoundAlike n m at h k = (p g : ℕ → ℕ) → StandAt n m at h p → StandAt n m at k g → SameOrder m p g

abbrev pub round_moves : ℕ → ℕ
round_moves n = 8 * (n * n)
