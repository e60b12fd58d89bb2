-- Laws of what specs/Choice.antt defines.
--
--     Upto a rest x y             it begins before a, or begins at a and goes on to none of `rest`
-- Assumes nothing.
use Prim.Native.Nat.{ℕ, ◌<◌}
use mathlib.Core.Path.{◌≡◌}
use mathlib.Core.Logic.{◌⊎◌}
use Rattle.sets.specs.Sets.{Has}

abbrev pub Upto : ℕ → ℕ → ℕ → ℕ → Type 0
Upto a rest x y = (x < a) ⊎ ((x ≡ a) × (Has rest y → ⊥))
