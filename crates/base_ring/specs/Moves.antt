-- How many moves settling the base ring takes at most, where it has r positions. Clearing a position takes fewer moves than there are
-- positions that are not held, and bringing a rack through at most c + 1 positions at most c × c (crates/shunting). Off the ring all is
-- held.
--
--     aside_moves r          a rack beside the ring steps onto it, a rack is brought to place 0, and steps aside
--     next_moves r           a rack is brought to place 1, place 0 is cleared with place 1 held, and the last place with both held
--     exchange_moves r       both, six moves that exchange two racks, and all but the six taken back
--     open_moves r           place 0 is cleared, and then place 1 with place 0 held
--     ring_moves r           they are cleared, and then an exchange for each other place of the ring
-- Assumes nothing.
use Rattle.std.specs.Prelude.{ℕ, ◌+◌, ◌-◌, ◌*◌}

abbrev pub aside_moves : ℕ → ℕ
aside_moves r = 1 + ((r - 1) * (r - 1) + 1)

abbrev pub next_moves : ℕ → ℕ
next_moves r = (r - 1) * (r - 1) + ((r - 2) + (r - 3))

unfoldable pub exchange_moves : ℕ → ℕ
exchange_moves r = aside_moves r + next_moves r + 6 + (aside_moves r + next_moves r)

abbrev pub open_moves : ℕ → ℕ
open_moves r = (r - 1) + (r - 2)

abbrev pub ring_moves : ℕ → ℕ
ring_moves r = open_moves r + (r - 2) * exchange_moves r
