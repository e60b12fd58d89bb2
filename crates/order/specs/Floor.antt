-- The floor, from document 01, "The floor": "A floor has n positions, numbered from 0, and edges between pairs of them."
-- In the field's terms a floor is an undirected graph, a position a vertex.
--
--     Floor           n positions, numbered from 0, and edges, each a pair of positions
--     some test l     some element of l passes the test
--     is_pair p q      the two pairs are the same pair
--     joined F a b    an edge of F joins a and b, whichever of the two the edge names first
-- Assumes nothing.
use Rattle.std.specs.Prelude.{ℕ, Bool, false, ◌&&◌, ◌||◌, List, [], ◌∷◌, eqb}

pub record Floor : Type 0 where
  pub positions : ℕ
  pub edges : List (ℕ × ℕ)

unfoldable pub some : {X : Type 0} → (X → Bool) → List X → Bool
some test [] = false
some test (x ∷ l) = test x || some test l

unfoldable pub is_pair : ℕ × ℕ → ℕ × ℕ → Bool
is_pair p q = eqb p.0 q.0 && eqb p.1 q.1

-- "an edge joins them": a rack may travel along an edge in both directions
unfoldable pub joined : Floor → ℕ → ℕ → Bool
joined F a b = some (is_pair (a, b)) F.edges || some (is_pair (b, a)) F.edges
