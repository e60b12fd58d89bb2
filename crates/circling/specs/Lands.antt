-- Places round a circle of n, and numbers that go on past its end.
--
--     Lands n x j         x places on from place 0 is place j, laps of n left out
--     mirror n j          the place that a circle read the other way has for place j: place 0 stays
--     total l             the sum of a row of numbers
-- Assumes nothing.
use Rattle.std.specs.Prelude.{ℕ, ◌+◌, ◌-◌, ◌*◌, ◌≡◌, cond, List, [], ◌∷◌, eqb}

pub record Lands (n x j : ℕ) : Type 0 where
  pub laps : ℕ
  pub is : x ≡ j + n * laps

abbrev pub mirror : ℕ → ℕ → ℕ
mirror n j = cond (eqb j 0) 0 (n - j)

unfoldable pub total : List ℕ → ℕ
total [] = 0
total (x ∷ l) = x + total l
