-- Parts of a row of positions as sets, and the place at which a position stands in the row.
--
--     Places at m         the first m places of the row, at most 64, hold positions below 64
--     Part at i e v       the set v has the positions at the places from i up to e, and no others
--     place_from at x i k  the first of the places i, .., i + k - 1 of the row `at` that has x; where none has it, i + k
--     place_of at s e x    the place of x, of the places from s up to e
-- Assumes nothing.
use Rattle.std.specs.Prelude.{ℕ, zero, suc, ◌+◌, ◌-◌, ◌≤◌, ◌<◌, cond, ◌↔◌, eqb}
use Rattle.sets.specs.Sets.{Has}
use Rattle.breakdown.specs.Breakdown.{Between}

pub record Places (at : ℕ → ℕ) (m : ℕ) : Type 0 where
  pub most : m ≤ 64
  pub below : (i : ℕ) → i < m → at i < 64

abbrev pub Part : (ℕ → ℕ) → ℕ → ℕ → ℕ → Type 0
Part at i e v = (p : ℕ) → Has v p ↔ Between at i e p

unfoldable pub place_from : (ℕ → ℕ) → ℕ → ℕ → ℕ → ℕ
place_from at x i zero = i
place_from at x i (suc k) = cond (eqb (at i) x) i (place_from at x (i + 1) k)

abbrev pub place_of : (ℕ → ℕ) → ℕ → ℕ → ℕ → ℕ
place_of at s e x = place_from at x s (e - 1 - s)
