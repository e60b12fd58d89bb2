-- What `impossible` means. Request (n): "For a bi-connected floor whose positions fall into two colours, each edge joining both, take the
-- change from start to goal as a permutation with the vacancy included. Answer `impossible` exactly when the permutation is odd and the
-- vacancy keeps its colour, or it is even and the colour changes."
--
--     Contrary n S G c        by the colours c: odd and the vacancy keeps its colour, or even and the colour changes
--     Impossible F S G        the positions of the floor F fall into two colours, by which the change from S to G is contrary
-- Assumes nothing.
use Rattle.std.specs.Prelude.{ℕ, ◌≡◌, Bool, ◌≢◌, ◌⊎◌}
use Rattle.order.specs.Floor.{Floor}
use Rattle.motion.specs.Arrangement.{Arrangement}
use Rattle.floor.specs.FloorAnswer.{Joins}
use Rattle.parity.specs.Colours.{TwoColours}
use Rattle.parity.specs.Permutation.{vacancy, change, Odd, Even}

abbrev pub Contrary : ℕ → Arrangement → Arrangement → (ℕ → Bool) → Type 0
Contrary n S G c =
    (Odd (change n S G) × (c (vacancy n S) ≡ c (vacancy n G)))
    ⊎ (Even (change n S G) × (c (vacancy n S) ≢ c (vacancy n G)))

pub record Impossible (F : Floor) (S G : Arrangement) : Type 0 where
  pub colour : ℕ → Bool
  pub joins_both : TwoColours F.positions (Joins F) colour
  pub contrary : Contrary F.positions S G colour
