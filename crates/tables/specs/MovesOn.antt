-- A plan's moves on tables: judged alike, made alike, and so replayed and judged alike.
--
--     replay_on g h l   replay of the listed moves l from the table h by the matrix g
-- Assumes nothing.
use Rattle.std.specs.Prelude.{ℕ, List}
use Rattle.motion.specs.Replay.{Replayed, replay_from}
use Rattle.tables.specs.Tables.{listed_fault_on, listed_on}

unfoldable pub replay_on : List ℕ → List ℕ → List (ℕ × ℕ × ℕ) → Replayed
replay_on g h l = replay_from (listed_fault_on g) listed_on 1 h l
