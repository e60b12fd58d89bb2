-- How many moves settling the handles takes at most, on a floor of n positions. Clearing a position takes fewer moves than there are
-- positions that are not held, and bringing a rack through at most c + 1 positions at most c × c (crates/shunting).
--
--     open_moves n       a position of the stage is cleared
--     end_moves n        the position beside the right end is cleared, and then the right end with that position held
--     carry_moves n      a rack goes along the handle, at most n - 3 places, each of them cleared with two positions held; it moves beside
--                       the end; and all but that move is taken back
--     fetch_moves n      both, so that the next rack is in the stage
--     home_moves n       the rack is brought to the left end, through at most n - 1 positions; the right end is cleared with the left end
--                       held; and the cycle is turned
--     place_moves n      the stage is opened, the next rack fetched and brought home
--     lane_moves x       that for each place of the handle x
-- Assumes nothing.
use Rattle.std.specs.Prelude.{ℕ, ◌+◌, ◌-◌, ◌*◌}
use Rattle.lane.specs.declared.Lane.{Lane}

abbrev pub open_moves : ℕ → ℕ
open_moves n = n - 1

abbrev pub end_moves : ℕ → ℕ
end_moves n = (n - 1) + (n - 2)

abbrev pub carry_moves : ℕ → ℕ
carry_moves n = 2 * ((n - 2) * (n - 3)) + 1

abbrev pub fetch_moves : ℕ → ℕ
fetch_moves n = end_moves n + carry_moves n

abbrev pub home_moves : ℕ → ℕ
home_moves n = (n - 2) * (n - 2) + ((n - 3) + n)

unfoldable pub place_moves : ℕ → ℕ
place_moves n = open_moves n + (fetch_moves n + home_moves n)

abbrev pub lane_moves : Lane → ℕ
lane_moves x = (x.end - x.start) * place_moves x.positions
