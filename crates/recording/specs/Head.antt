-- The head that a plan and a timetable begin with: document 01, "Records": a count in 22 bits, two spare bits.
--
--     head_bytes k x     the count k and the spare bits x as bytes
-- Assumes nothing.
use Rattle.std.specs.Prelude.{ℕ, ◌+◌, ◌*◌, ◌/◌, ◌%◌, List, [], ◌∷◌}

unfoldable pub head_bytes : ℕ → ℕ → List ℕ
head_bytes k x = (k / 16384) ∷ (k / 64 % 256) ∷ (k % 64 * 4 + x) ∷ []
