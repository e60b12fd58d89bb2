-- The moves of rack 1 along a way, as a plan of edition two lists them.
--
--     taken at i k    the k moves along the positions at from place i on
-- Assumes nothing.
use Rattle.std.specs.Prelude.{ℕ, zero, suc, ◌+◌, List, [], ◌∷◌, get_or}

unfoldable pub taken : List ℕ → ℕ → ℕ → List (ℕ × ℕ × ℕ)
taken at i zero = []
taken at i (suc k) = (get_or at i 0, get_or at (i + 1) 0, 1) ∷ taken at (i + 1) k
