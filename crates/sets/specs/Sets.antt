-- A set of positions as the bits of one word.
--
--     bit s p     the digit of s that stands p places above its lowest: 0 or 1
--     Has s p     position p is in the set s
-- Assumes nothing.
use Rattle.std.specs.Prelude.{ℕ, ◌/◌, ◌%◌, ◌^◌, ◌≡◌}

unfoldable pub bit : ℕ → ℕ → ℕ
bit s p = s / 2 ^ p % 2

abbrev pub Has : ℕ → ℕ → Type 0
Has s p = bit s p ≡ 1
