-- Laws of what specs/Chains.antt defines.
--
--     unvisited t v        how many moves the marks v do not show as visited
-- Assumes nothing.
use Prim.Native.Nat.{ℕ, ◌+◌}
use mathlib.Core.Bool.{not, cond, ◌&&◌}
use mathlib.Core.List.{List, [], ◌∷◌}
use lib.Dec.{eqb}

unfoldable pub unvisited : List ℕ → List ℕ → ℕ
unvisited [] v = 0
unvisited (x ∷ t) [] = 0
unvisited (x ∷ t) (y ∷ v) = cond (not (eqb x 0) && eqb y 0) 1 0 + unvisited t v
