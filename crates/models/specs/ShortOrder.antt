-- The short order's record. Request (a): "A short order is model in 8 bits, m in 7, one zero bit, then starts, goals and pad as in an
-- order."
--
--     ShortOrder                          a model, and for each rack a start and a goal
--     short_bits o, short_record o          the record of o, as a list of bits and as a byte string
--     model_code s, short_racks s           the model and m of the byte string s
--     short_starts s, short_goals s, short_of s    the starts and the goals that s describes, and all of it
--     short_length m                       the length in bytes of a short order of m racks
--     wrong_short s                        50 applies to s
-- Assumes nothing.
use Rattle.std.specs.Prelude.{ℕ, ◌+◌, ◌*◌, ◌/◌, Bool, not, ◌||◌, List, ◌++◌, length, ltb, eqb}
use Rattle.field.specs.Bits.{bits, field, positions, position_bits, pad, to_bytes}

pub record ShortOrder : Type 0 where
  pub model : ℕ
  pub starts : List ℕ
  pub goals : List ℕ

unfoldable pub short_bits : ShortOrder → List ℕ
short_bits o =
    bits 8 o.model
    ++ bits 7 (length o.starts)
    ++ bits 1 0
    ++ position_bits o.starts
    ++ position_bits o.goals

unfoldable pub short_record : ShortOrder → List ℕ
short_record o = to_bytes (short_bits o)

unfoldable pub model_code : List ℕ → ℕ
model_code s = field s 0 8

unfoldable pub short_racks : List ℕ → ℕ
short_racks s = field s 8 7

unfoldable pub short_starts : List ℕ → List ℕ
short_starts s = positions s 16 (short_racks s)

unfoldable pub short_goals : List ℕ → List ℕ
short_goals s = positions s (16 + 6 * short_racks s) (short_racks s)

unfoldable pub short_of : List ℕ → ShortOrder
short_of s = record { model = model_code s; starts = short_starts s; goals = short_goals s }

-- two bytes, and 12 bits for each rack rounded up to bytes
unfoldable pub short_length : ℕ → ℕ
short_length m = 2 + (12 * m + 7) / 8

-- 50: "the short order's length or a spare or pad bit is wrong". As a number, a run of bits is 0 just where none of them is set.
unfoldable pub wrong_short : List ℕ → Bool
wrong_short s =
    ltb (length s) 2
    || not (eqb (length s) (short_length (short_racks s)))
    || not (eqb (field s 15 1) 0)
    || not (eqb (field s (16 + 12 * short_racks s) (pad (12 * short_racks s))) 0)
