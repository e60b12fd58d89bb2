-- A table of racks with just two vacancies: n positions, and the racks 1 to n - 2, stand-ins among them, each at one position.
--
--     Table n h           the table h is one: two of the n positions are vacant, first and second, and no others
--     StandsAt n r h p    rack r stands at position p of a floor of n
--     Stands n r h        rack r stands on the floor
-- Assumes nothing.
use Rattle.std.specs.Prelude.{ℕ, ◌+◌, ◌≤◌, ◌<◌, ◌≡◌, ◌≢◌, ◌⊎◌}

pub record Table (n : ℕ) (h : ℕ → ℕ) : Type 0 where
  pub one : (p q : ℕ) → h p ≢ 0 → h p ≡ h q → p ≡ q
  pub inside : (p : ℕ) → h p ≢ 0 → p < n
  pub most : (p : ℕ) → h p + 2 ≤ n
  pub every : (r : ℕ) → 0 < r → r + 2 ≤ n → (p : ℕ) × (h p ≡ r)
  pub first : ℕ
  pub second : ℕ
  pub differ : first ≢ second
  pub first_inside : first < n
  pub second_inside : second < n
  pub first_vacant : h first ≡ 0
  pub second_vacant : h second ≡ 0
  pub only : (p : ℕ) → p < n → h p ≡ 0 → (p ≡ first) ⊎ (p ≡ second)

pub record StandsAt (n r : ℕ) (h : ℕ → ℕ) (p : ℕ) : Type 0 where
  pub inside : p < n
  pub there : h p ≡ r

abbrev pub Stands : ℕ → ℕ → (ℕ → ℕ) → Type 0
Stands n r h = (p : ℕ) × StandsAt n r h p
