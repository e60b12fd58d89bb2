-- Racks on a floor, and vacancies beyond two filled with stand-ins: document 01, "Breakdown and planning": "Vacancies beyond two are filled
-- with stand-in racks whose moves are dropped."
--
--     Placed n m h       the racks 1 to m stand each at one of n positions, and nothing else stands anywhere
--     Filled m h k       the table k is h with stand-ins, racks above m, at some of its vacancies
--     fill_from r c h     the table h with the racks r + 1, .., r + c at its vacancies, the lowest position first
--     with_stand_ins n m h    the table h of n positions and m racks with stand-ins at all vacancies but the last two
-- Assumes nothing.
use Rattle.std.specs.Prelude.{ℕ, zero, suc, ◌-◌, ◌≤◌, ◌<◌, List, [], ◌∷◌, ◌≡◌, ◌≢◌, ◌⊎◌}

pub record Placed (n m : ℕ) (h : ℕ → ℕ) : Type 0 where
  pub one : (p q : ℕ) → h p ≢ 0 → h p ≡ h q → p ≡ q
  pub inside : (p : ℕ) → h p ≢ 0 → p < n
  pub most : (p : ℕ) → h p ≤ m
  pub every : (r : ℕ) → 0 < r → r ≤ m → (p : ℕ) × (h p ≡ r)

pub record Filled (m : ℕ) (h k : ℕ → ℕ) : Type 0 where
  pub kept : (p : ℕ) → h p ≢ 0 → k p ≡ h p
  pub added : (p : ℕ) → h p ≡ 0 → (k p ≡ 0) ⊎ (m < k p)

unfoldable pub fill_from : ℕ → ℕ → List ℕ → List ℕ
fill_from r zero h = h
fill_from r (suc c) [] = []
fill_from r (suc c) (zero ∷ h) = suc r ∷ fill_from (suc r) c h
fill_from r (suc c) (suc x ∷ h) = suc x ∷ fill_from r (suc c) h

abbrev pub with_stand_ins : ℕ → ℕ → List ℕ → List ℕ
with_stand_ins n m h = fill_from m (n - 2 - m) h
