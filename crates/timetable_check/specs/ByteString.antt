-- Byte strings, as every lent slice is one.
--
--     ByteString s      every byte of s is below 256, as a lent slice has it
-- Assumes nothing.
use Rattle.std.specs.Prelude.{ℕ, ◌<◌, List, get_or}

abbrev pub ByteString : List ℕ → Type 0
ByteString s = (i : ℕ) → get_or s i 0 < 256
