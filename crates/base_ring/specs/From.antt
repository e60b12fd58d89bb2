-- The base ring of a breakdown from one of its positions on, in the order round it.
--
--     round at size z k        k positions of the ring, round it from its place z on
--     ring_from order size x    the ring's positions round it from x on, in a row of 64, and zeros behind them
--     circle_of n b             the base ring of the breakdown b from the left end of its first handle on, and beside that the handle's
--                              first inner position
-- Assumes nothing.
use Rattle.std.specs.Prelude.{ℕ, zero, suc, ◌+◌, ◌-◌, ◌%◌, List, [], ◌∷◌, ◌++◌, replicate}
use Rattle.breakdown.specs.Part.{place_of}
use Rattle.breakdown.specs.declared.Breakdown.{Breakdown}
use Rattle.graph.specs.Rows.{row}
use Rattle.base_ring.specs.declared.Circle.{Circle}

unfoldable pub round : (ℕ → ℕ) → ℕ → ℕ → ℕ → List ℕ
round at size z zero = []
round at size z (suc k) = at (z % size) ∷ round at size (z + 1) k

abbrev pub ring_from : List ℕ → ℕ → ℕ → List ℕ
ring_from order size x = round (row order) size (place_of (row order) 0 size x) size ++ replicate (64 - size) 0

abbrev pub circle_of : ℕ → Breakdown → Circle
circle_of n b =
    record {
      at = ring_from b.order b.ring (row b.left 0);
      positions = n;
      size = b.ring;
      beside = row b.order b.ring;
    }
