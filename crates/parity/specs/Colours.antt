-- Two colours. Request (n): "a bi-connected floor whose positions fall into two colours, each edge joining both". In the field's terms the
-- floor is a bipartite graph.
--
--     TwoColours n E c     by c each of the n positions has one of two colours, and each edge joins both
--     Coloured n E         some c does so: the positions fall into two colours
-- Assumes nothing.
use Rattle.std.specs.Prelude.{ℕ, ◌<◌, Bool, ◌≢◌}

abbrev pub TwoColours : ℕ → (ℕ → ℕ → Type 0) → (ℕ → Bool) → Type 0
TwoColours n E c = (a b : ℕ) → a < n → b < n → E a b → c a ≢ c b

pub record Coloured (n : ℕ) (E : ℕ → ℕ → Type 0) : Type 0 where
  pub colour : ℕ → Bool
  pub joins_both : TwoColours n E colour
