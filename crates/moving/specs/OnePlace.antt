-- What the functions that move racks by single places ask for, and what they do to the table, position by position.
--
--     Enterable a b h         the position b is vacant; what stands at a, if anything does, can move there
--     Movable a b h           the same, and a rack stands at a
--     Passed a b h k          what stood at a, if anything did, stands at b, and a is vacant; nothing else moved
--     Simple at size          at 0, .., at (size - 1) are different positions: a way or a cycle
--     Shiftable at size h     of the way just the last position is vacant
--     Shifted at size h k     the contents of the way stand one place on, at its end what stood before it, and its first position is
--                             vacant; nothing else moved
-- Assumes nothing.
use Rattle.std.specs.Prelude.{ℕ, ◌+◌, ◌-◌, ◌≤◌, ◌<◌, ◌≡◌, ◌≢◌}

pub record Enterable (a b : ℕ) (h : ℕ → ℕ) : Type 0 where
  pub leaves : a < 64
  pub enters : b < 64
  pub vacant : h b ≡ 0

pub record Movable (a b : ℕ) (h : ℕ → ℕ) : Type 0 where
  pub leaves : a < 64
  pub enters : b < 64
  pub held : h a ≢ 0
  pub vacant : h b ≡ 0

pub record Passed (a b : ℕ) (h k : ℕ → ℕ) : Type 0 where
  pub left : k a ≡ 0
  pub entered : k b ≡ h a
  pub others : (p : ℕ) → p ≢ a → p ≢ b → k p ≡ h p

pub record Simple (at : ℕ → ℕ) (size : ℕ) : Type 0 where
  pub short : size ≤ 64
  pub below : (i : ℕ) → i < size → at i < 64
  pub distinct : (i j : ℕ) → i < j → j < size → at i ≢ at j

pub record Shiftable (at : ℕ → ℕ) (size : ℕ) (h : ℕ → ℕ) : Type 0 where
  pub some : 0 < size
  pub end : h (at (size - 1)) ≡ 0
  pub held : (i : ℕ) → i + 1 < size → h (at i) ≢ 0

pub record Shifted (at : ℕ → ℕ) (size : ℕ) (h k : ℕ → ℕ) : Type 0 where
  pub on : (i : ℕ) → i + 1 < size → k (at (i + 1)) ≡ h (at i)
  pub first : k (at 0) ≡ 0
  pub others : (p : ℕ) → ((i : ℕ) → i < size → at i ≢ p) → k p ≡ h p
