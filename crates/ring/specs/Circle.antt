-- The circle of a ring floor: document 01, "The floor": "A ring is a bi-connected floor with exactly n edges." Its positions lie round one
-- cycle, which is read from position 0 on, towards the lower of its two neighbours. E says which positions edges join, e decides it.
--
--     next n i            the place after place i, of n places: after the last comes the first
--     Circle n E at       the n positions are at 0, at 1, .., each at one place; an edge joins each to the next, and the last to the first
--     onward n e a b      the lowest position that an edge joins to b, and that is not a
--     follow n e a b k    k positions in a row: b, and then always on, never straight back; a is the one before b
--     round_of n e         the n positions of a ring in their order round it
--     edge_in g a b        the test whether the rows g have an edge from a to b
--     place_on l p         the place of the position p in the row l, places counted from 0
-- Assumes nothing.
use Rattle.std.specs.Prelude.{ℕ, zero, suc, ◌+◌, ◌-◌, ◌<◌, Bool, not, cond, ◌&&◌, List, [], ◌∷◌, ◌≢◌, eqb, get_or}
use Rattle.sets.specs.Sets.{bit}
use Rattle.sets.specs.First.{first_from}

abbrev pub next : ℕ → ℕ → ℕ
next n i = cond (eqb (i + 1) n) 0 (i + 1)

pub record Circle (n : ℕ) (E : ℕ → ℕ → Type 0) (at : ℕ → ℕ) : Type 0 where
  pub inside : (i : ℕ) → i < n → at i < n
  pub distinct : (i j : ℕ) → i < j → j < n → at i ≢ at j
  pub joined : (i : ℕ) → i + 1 < n → E (at i) (at (i + 1))
  pub closed : E (at (n - 1)) (at 0)

unfoldable pub onward : ℕ → (ℕ → ℕ → Bool) → ℕ → ℕ → ℕ
onward n e a b = first_from (λ c. e b c && not (eqb c a)) 0 n

unfoldable pub follow : ℕ → (ℕ → ℕ → Bool) → ℕ → ℕ → ℕ → List ℕ
follow n e a b zero = []
follow n e a b (suc k) = b ∷ follow n e b (onward n e a b) k

-- no position is n, so that from 0 the way goes to the lowest position that an edge joins to it
unfoldable pub round_of : ℕ → (ℕ → ℕ → Bool) → List ℕ
round_of n e = follow n e n 0 n

unfoldable pub edge_in : List ℕ → ℕ → ℕ → Bool
edge_in g a b = eqb (bit (get_or g a 0) b) 1

unfoldable pub place_on : List ℕ → ℕ → ℕ
place_on [] p = 0
place_on (q ∷ l) p = cond (eqb q p) 0 (suc (place_on l p))
