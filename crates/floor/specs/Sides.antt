-- The edges of a position, and its neighbours: request (j), "Four sides only".
--
--     count_of t l          how many elements of the list l pass the test t
--     has_end p e           the edge e has the position p at one of its ends
--     edges_at F p          how many edges of the floor F the position p has
--     neighbours_at F p     how many positions of the floor F are joined to p
--     FourSided F          no position of the floor F has five or more edges
--     four_sided? F         that is so or not
-- On a floor that 13 passes a position has as many edges as neighbours (proofs/SidesLaws, `sides_same`).
-- Assumes nothing.
use Rattle.std.specs.Prelude.{ℕ, ◌+◌, ◌≤◌, ◌<◌, Bool, cond, ◌||◌, List, [], ◌∷◌, eqb}
use Rattle.std.proofs.Math.Decide.{dec_le}
use Rattle.order.specs.Floor.{Floor, joined}
use Rattle.sets.specs.Sum.{sum_below}
use Rattle.graph.proofs.WayDecision.{every?}

unfoldable pub count_of : {X : Type 0} → (X → Bool) → List X → ℕ
count_of t [] = 0
count_of t (x ∷ l) = cond (t x) 1 0 + count_of t l

abbrev pub has_end : ℕ → ℕ × ℕ → Bool
has_end p e = eqb e.0 p || eqb e.1 p

abbrev pub edges_at : Floor → ℕ → ℕ
edges_at F p = count_of (has_end p) F.edges

abbrev pub neighbours_at : Floor → ℕ → ℕ
neighbours_at F p = sum_below (λ q. cond (joined F p q) 1 0) F.positions

-- "a position has five or more edges" does not hold of any
abbrev pub FourSided : Floor → Type 0
FourSided F = (p : ℕ) → p < F.positions → edges_at F p ≤ 4

unfoldable pub four_sided? : (F : Floor) → Dec (FourSided F)
unfolding dec_le every?
four_sided? F = every? F.positions (λ p. dec_le (edges_at F p) 4)
