-- A plan's moves listed from a table of racks.
--
--     tabled h ms    the moves ms, each with the rack that the table h has where it leaves, at its turn
--     Held h ms      each of the moves leaves a position where the table has a rack, numbered up to 64
-- Assumes nothing.
use Rattle.std.specs.Prelude.{ℕ, ◌≤◌, List, [], ◌∷◌, get_or}
use Rattle.tables.specs.Tables.{moved_on}

unfoldable pub tabled : List ℕ → List (ℕ × ℕ) → List (ℕ × ℕ × ℕ)
tabled h [] = []
tabled h (m ∷ ms) = (m.0, m.1, get_or h m.0 0) ∷ tabled (moved_on h m) ms

pub data Held : List ℕ → List (ℕ × ℕ) → Type 0 where
  held_none : {h : List ℕ} → Held h []
  held_more : {h : List ℕ} {m : ℕ × ℕ} {ms : List (ℕ × ℕ)} → 1 ≤ get_or h m.0 0 → get_or h m.0 0 ≤ 64 → Held (moved_on h m) ms
      → Held h (m ∷ ms)
