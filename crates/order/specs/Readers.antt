-- The answers of the order reader's lower readers: the head reader judges 10 to 12, the edge reader 13 above it.
--
--     head_answer s     10 to 12, else accepted
--     edges_answer s    what the head reader refused, else 13, else accepted
--     NextEdge s j n last r    r is the place that the edge j + 1 of s gives so, if it gives one
--     FilledRows s a g         the rows g are those of the order s where the answer a accepts it
--     FilledTables s a g h₀ h₁    so are the rows g and the racks at their starts h₀ and goals h₁
--     RacksJudged s n e m r h₀ h₁    r says whether the starts and the goals of the tail s are right; where they are, the tables have
-- their racks
--     next_place n last a b    the place of the edge a, b in the order of edges, or 0 where 13 applies to it behind an edge at the place
-- `last`
-- Assumes nothing.
use Rattle.std.specs.Prelude.{ℕ, ◌+◌, ◌*◌, ◌<◌, ◌≡◌, Bool, true, not, cond, ◌||◌, List, Option, leb}
use Rattle.answers.specs.Answer.{Answer, accepted, refuse, pass_up}
use Rattle.answers.specs.Found.{found}
use Rattle.field.specs.Bits.{field, positions}
use Rattle.order.specs.Order.{wrong_length, wrong_positions, padding_set, wrong_edges, wrong_places, floor_of, counts}
use Rattle.order.specs.Tables.{rows_of, racks_at, decoded_rows, decoded_starts, decoded_goals}

unfoldable pub head_answer : List ℕ → Answer
head_answer s = refuse (wrong_length s) 10 0 (refuse (wrong_positions s) 11 0 (refuse (padding_set s) 12 0 (accepted (counts s))))

unfoldable pub edges_answer : List ℕ → Answer
edges_answer s = pass_up (head_answer s) (refuse (wrong_edges (floor_of s)) 13 0 (accepted (counts s)))

-- the positions are below 64, so an edge's place is one number, and that of every edge that is lower first is above 0
unfoldable pub next_place : ℕ → ℕ → ℕ → ℕ → ℕ
next_place n last a b = cond (leb b a || leb n b || leb (a * 64 + b) last) 0 (a * 64 + b)

pub record NextEdge (s : List ℕ) (j n last : ℕ) (r : Option ℕ) : Type 0 where
  pub is : r ≡ found (next_place n last (field s (12 * j) 6) (field s (12 * j + 6) 6))
  pub below : next_place n last (field s (12 * j) 6) (field s (12 * j + 6) 6) < 4096

pub record FilledRows (s : List ℕ) (a : Answer) (g : List ℕ) : Type 0 where
  pub rows_are : (v : List ℕ) → a ≡ accepted v → g ≡ rows_of (floor_of s)

pub record FilledTables (s : List ℕ) (a : Answer) (g h₀ h₁ : List ℕ) : Type 0 where
  pub rows_are : (v : List ℕ) → a ≡ accepted v → g ≡ decoded_rows s
  pub starts_are : (v : List ℕ) → a ≡ accepted v → h₀ ≡ decoded_starts s
  pub goals_are : (v : List ℕ) → a ≡ accepted v → h₁ ≡ decoded_goals s

pub record RacksJudged (s : List ℕ) (n e m : ℕ) (r : Bool) (h₀ h₁ : List ℕ) : Type 0 where
  pub judged : r ≡ not (wrong_places n (positions s (6 * (2 * e)) m) || wrong_places n (positions s (6 * (2 * e + m)) m))
  pub starts_are : r ≡ true → h₀ ≡ racks_at (positions s (6 * (2 * e)) m)
  pub goals_are : r ≡ true → h₁ ≡ racks_at (positions s (6 * (2 * e + m)) m)
