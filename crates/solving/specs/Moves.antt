-- How many moves a plan takes at most, on a floor of n positions with a base ring of r: docs/DECISIONS.md says how they come about.
--
--     shift_moves n        the goal is shifted: a position is cleared, and then another with that one held
--     settle_moves n r     the handles are settled, and then the ring
--     solve_moves n        all: the goal's shift is taken back too
-- Assumes nothing.
use Rattle.std.specs.Prelude.{ℕ, ◌+◌, ◌-◌, ◌*◌}
use Rattle.lane.specs.Moves.{place_moves}
use Rattle.base_ring.specs.Moves.{ring_moves}

abbrev pub shift_moves : ℕ → ℕ
shift_moves n = (n - 1) + (n - 2)

abbrev pub settle_moves : ℕ → ℕ → ℕ
settle_moves n r = (n - r) * place_moves n + ring_moves r

abbrev pub solve_moves : ℕ → ℕ
solve_moves n = 4 * (n * (n * n))
