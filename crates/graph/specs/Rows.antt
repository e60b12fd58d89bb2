-- A floor as the code has it: for each position the set of those that edges join to it.
--
--     row l          a list as a function of the place: rows by position, a table of racks, a way, a circle
--     Edge g a b     the rows g have an edge from a to b
--     Rows n g       g are the rows of a floor of n: what a floor's rows owe to the functions that take it
-- Assumes nothing.
use Rattle.std.specs.Prelude.{ℕ, ◌≤◌, ◌<◌, List, ◌≢◌, get_or}
use Rattle.sets.specs.Sets.{Has}
use Rattle.graph.specs.Walk.{Symmetric}

abbrev pub row : List ℕ → ℕ → ℕ
row l i = get_or l i 0

abbrev pub Edge : List ℕ → ℕ → ℕ → Type 0
Edge g a b = Has (row g a) b

-- Document 01, "The floor": "edges between pairs of them", of two different positions, each joined both ways.
pub record Rows (n : ℕ) (g : List ℕ) : Type 0 where
  pub small : n ≤ 64
  pub inside : (a b : ℕ) → Edge g a b → (a < n) × (b < n)
  pub symmetric : Symmetric (Edge g)
  pub other : (a b : ℕ) → Edge g a b → a ≢ b
