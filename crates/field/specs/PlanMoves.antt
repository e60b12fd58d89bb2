-- The moves of a plan, as `field::Moves` holds them.
--
--     all_moves m    the two positions of each
-- Assumes nothing.
use Rattle.std.specs.Prelude.{ℕ, List}
use Rattle.field.specs.Listed.{moves_at}
use Rattle.field.specs.declared.Moves.{Moves}

abbrev pub all_moves : Moves → List (ℕ × ℕ)
all_moves m = moves_at m.named m.tail.now 0 m.count
