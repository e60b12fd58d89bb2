-- The breakdown of a floor: document 01, "Breakdown and planning". In the field's terms an open ear decomposition: the base ring is the
-- initial cycle, a handle an ear. The positions stand in one row, at 0, at 1, ..: first those of the ring in their order round it, then the
-- inner positions of handle 0, of handle 1, and so on, each handle's in their order along it.
--
--     Among at m p                     p is one of the first m positions of the row: of what came before place m
--     Between at i e p                 p is at one of the places from i up to e
--     Handle E at s e u v              the places from s up to e are the inside of a handle with the ends u and v
--     Breakdown n E r c at start left right
--                                      a base ring of r positions and c handles; handle i has its inside from place start i up to
--                                      start (i + 1), and its ends are left i, beside the first inner position, and right i,
--                                      beside the last
-- Assumes nothing.
use Rattle.std.specs.Prelude.{ℕ, ◌+◌, ◌-◌, ◌≤◌, ◌<◌, ◌≡◌, ◌≢◌}

pub record Among (at : ℕ → ℕ) (m p : ℕ) : Type 0 where
  pub place : ℕ
  pub before : place < m
  pub is : at place ≡ p

pub record Between (at : ℕ → ℕ) (i e p : ℕ) : Type 0 where
  pub place : ℕ
  pub from : i ≤ place
  pub before : place < e
  pub is : at place ≡ p

-- "A handle is a path whose two different ends lie in what came before and whose inner positions, at least one, are new." That they are
-- new, and different from one another, is `distinct` below: what came before stands in the row before place s.
pub record Handle (E : ℕ → ℕ → Type 0) (at : ℕ → ℕ) (s e u v : ℕ) : Type 0 where
  pub inner : s < e
  pub first : E u (at s)
  pub joined : (j : ℕ) → s ≤ j → j + 1 < e → E (at j) (at (j + 1))
  pub last : E (at (e - 1)) v
  pub ends : u ≢ v
  pub left : Among at s u
  pub right : Among at s v

-- "The floor is taken apart into a base ring that leaves out at least one position, and handles. [..] Every position is in the ring or
-- inside exactly one handle; unused edges may remain."
pub record Breakdown (n : ℕ) (E : ℕ → ℕ → Type 0) (r c : ℕ) (at start left right : ℕ → ℕ) : Type 0 where
  pub ring_three : 3 ≤ r
  pub ring_less : r < n
  pub ring_joined : (i : ℕ) → i + 1 < r → E (at i) (at (i + 1))
  pub ring_closed : E (at (r - 1)) (at 0)
  pub begins : start 0 ≡ r
  pub handle : (i : ℕ) → i < c → Handle E at (start i) (start (i + 1)) (left i) (right i)
  pub stops : start c ≡ n
  pub below : (i : ℕ) → i < n → at i < n
  pub distinct : (i j : ℕ) → i < j → j < n → at i ≢ at j
  pub every : (p : ℕ) → p < n → Among at n p
