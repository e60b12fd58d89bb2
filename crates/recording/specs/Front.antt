-- A record at the front of a byte string, whatever stands behind it: the fields that are read from it, and its length, which the byte
-- string need not have.
--
--     whole_length n s                   n where s has n bytes, and 0 where s ends before
-- Assumes nothing.
use Rattle.std.specs.Prelude.{ℕ, cond, List, length, ltb}

unfoldable pub whole_length : ℕ → List ℕ → ℕ
whole_length n s = cond (ltb (length s) n) 0 n
