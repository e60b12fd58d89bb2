-- What the tests see of a breakdown: four rows of 64 bytes at the front of a lent buffer, as crates/breakdown has them. And of the part
-- that the step reader gives back: one byte at a time.
--
--     up_to k row                       the row with its first k bytes, and zeros behind them
--     Copied row at k old new           the first k bytes of `row` were copied into a buffer from byte `at` on
--     LaidOut order start left right old new   the four rows stand at the bytes 0, 64, 128 and 192; every other byte is as it was
--     Shown n E old new answer          the answer has the ring size in its low 8 bits and the handle count above; the rows of that
--                                       breakdown were laid out, each with zeros behind what the breakdown has of it
--     Breaks o old                      where a breakdown is shown: a well-formed order on a bi-connected floor that is
--                                       no ring, and room for it
--     Inspected o old new answer        a breakdown is shown there, and nowhere else; else the answer is 0, and no byte changes
--     shown_byte part i                 the byte at i of the part; 256, which is no byte, from its end on
-- Assumes nothing.
use Rattle.std.specs.Prelude.{ℕ, ◌+◌, ◌*◌, ◌≤◌, ◌<◌, cond, ◌≡◌, List, ◌↔◌, ltb, length, get_or}
use Rattle.order.specs.Order.{floor_of, WellFormed}
use Rattle.graph.specs.Connected.{BiConnected, Ring}
use Rattle.breakdown.specs.Breakdown.{Breakdown}
use Rattle.floor.specs.FloorAnswer.{Joins}

abbrev pub up_to : ℕ → (ℕ → ℕ) → ℕ → ℕ
up_to k row i = cond (ltb i k) (row i) 0

pub record Copied (row : ℕ → ℕ) (at k : ℕ) (old new : List ℕ) : Type 0 where
  pub inside : (i : ℕ) → i < k → get_or new (at + i) 0 ≡ row i
  pub before : (i : ℕ) → i < at → get_or new i 0 ≡ get_or old i 0
  pub after : (i : ℕ) → at + k ≤ i → get_or new i 0 ≡ get_or old i 0
  pub same_length : length new ≡ length old

pub record LaidOut (order start left right : ℕ → ℕ) (old new : List ℕ) : Type 0 where
  pub order_bytes : (i : ℕ) → i < 64 → get_or new i 0 ≡ order i
  pub start_bytes : (i : ℕ) → i < 64 → get_or new (64 + i) 0 ≡ start i
  pub left_bytes : (i : ℕ) → i < 64 → get_or new (128 + i) 0 ≡ left i
  pub right_bytes : (i : ℕ) → i < 64 → get_or new (192 + i) 0 ≡ right i
  pub kept : (i : ℕ) → 256 ≤ i → get_or new i 0 ≡ get_or old i 0
  pub same_length : length new ≡ length old

pub record Shown (n : ℕ) (E : ℕ → ℕ → Type 0) (old new : List ℕ) (answer : ℕ) : Type 0 where
  pub ring : ℕ
  pub handles : ℕ
  pub order : ℕ → ℕ
  pub start : ℕ → ℕ
  pub left : ℕ → ℕ
  pub right : ℕ → ℕ
  pub counts : answer ≡ ring + handles * 256
  pub small : ring < 256
  pub breakdown : Breakdown n E ring handles order start left right
  pub rows : LaidOut (up_to n order) (up_to (handles + 1) start) (up_to handles left) (up_to handles right) old new

pub record Breaks (o old : List ℕ) : Type 0 where
  pub order_right : WellFormed o
  pub room : 256 ≤ length old
  pub bi_connected : BiConnected (floor_of o).positions (Joins (floor_of o))
  pub no_ring : Ring (floor_of o).positions (Joins (floor_of o)) (length (floor_of o).edges) → ⊥

pub record Inspected (o old new : List ℕ) (answer : ℕ) : Type 0 where
  pub shown : 0 < answer → Shown (floor_of o).positions (Joins (floor_of o)) old new answer
  pub none : answer ≡ 0 → new ≡ old
  pub exactly : (0 < answer) ↔ Breaks o old

unfoldable pub shown_byte : List ℕ → ℕ → ℕ
shown_byte part i = cond (ltb i (length part)) (get_or part i 0) 256
