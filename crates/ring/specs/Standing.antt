-- Racks on a circle, as a table of the rack at each position has them.
--
--     OnCircle n m at h       round the circle's n places stand just the racks 1 to m, each at one place
--     Standing n at h         there stand racks below 64, no two of them the same: all that finding their places needs
--     StandAt n m at h p      rack r stands at place p r
-- Assumes nothing.
use Rattle.std.specs.Prelude.{ℕ, ◌≤◌, ◌<◌, ◌≡◌, ◌≢◌}
use Rattle.ring.specs.Order.{Rack, Places}

pub record OnCircle (n m : ℕ) (at h : ℕ → ℕ) : Type 0 where
  pub rack : (i : ℕ) → i < n → h (at i) ≢ 0 → Rack m (h (at i))
  pub one : (i j : ℕ) → i < n → j < n → h (at i) ≢ 0 → h (at i) ≡ h (at j) → i ≡ j
  pub every : (r : ℕ) → Rack m r → (i : ℕ) × (i < n) × (h (at i) ≡ r)

pub record Standing (n : ℕ) (at h : ℕ → ℕ) : Type 0 where
  pub some : 0 < n
  pub few : n ≤ 64
  pub below : (i : ℕ) → i < n → at i < 64
  pub small : (i : ℕ) → i < n → h (at i) < 64
  pub one : (i j : ℕ) → i < n → j < n → h (at i) ≢ 0 → h (at i) ≡ h (at j) → i ≡ j

pub record StandAt (n m : ℕ) (at h p : ℕ → ℕ) : Type 0 where
  pub places : Places n m p
  pub there : (r : ℕ) → Rack m r → h (at (p r)) ≡ r
