-- Every set of edges has its ascending list: the floor of a relation on n positions.
--
--     IsRelation n E          E joins positions below n, in both directions, and none to itself
--     is_edge n E i            it is lower first, below n and joined by E
--     edges_listed test i k    the pairs at the places i to i + k - 1 of the order of edges that pass the test
--     floor_from n E           the floor of n positions whose edges are the pairs that E joins
-- Assumes nothing.
use Rattle.std.specs.Prelude.{ℕ, zero, suc, ◌/◌, ◌%◌, ◌<◌, ◌≡◌, Bool, true, false, cond, ◌&&◌, List, [], ◌∷◌, ltb}
use Rattle.order.specs.Floor.{Floor}

pub record IsRelation (n : ℕ) (E : ℕ → ℕ → Bool) : Type 0 where
  pub both_ways : (a b : ℕ) → E a b ≡ E b a
  pub not_itself : (a : ℕ) → E a a ≡ false
  pub inside : (a b : ℕ) → E a b ≡ true → a < n

unfoldable pub edges_listed : (ℕ → Bool) → ℕ → ℕ → List (ℕ × ℕ)
edges_listed test i zero = []
edges_listed test i (suc k) = cond (test i) ((i / 64, i % 64) ∷ edges_listed test (suc i) k) (edges_listed test (suc i) k)

-- the pair at place i is an edge of E, lower first
unfoldable pub is_edge : ℕ → (ℕ → ℕ → Bool) → ℕ → Bool
is_edge n E i = ltb (i / 64) (i % 64) && ltb (i % 64) n && E (i / 64) (i % 64)

unfoldable pub floor_from : ℕ → (ℕ → ℕ → Bool) → Floor
floor_from n E = record { positions = n; edges = edges_listed (is_edge n E) 0 4096 }
