-- Records of positions, the shape that an order and a plan share (document 01, "Records"): a head of three bytes that ends in two spare
-- bits, zero in an order, while a plan's tell its edition; positions of 6 bits, and the pad. The position is the unit: an edge and a move
-- are two each, and a move that names its rack is three.
--
--     record_length q     the length in bytes of a record of q positions
--     misfits s q        s is under 3 bytes, or its length is not that of a record of q positions
--     pad_set s q         a pad bit of s is set, where s has q positions
--     unclean s q        a spare or pad bit of s is set, where s has q positions
-- Assumes nothing.
use Rattle.std.specs.Prelude.{ℕ, ◌+◌, ◌*◌, ◌/◌, Bool, not, ◌||◌, List, length, ltb, eqb}
use Rattle.field.specs.Bits.{field, pad}

-- "The length is 3 bytes plus 12 × … bits rounded up to bytes." "A position is 6 bits."
unfoldable pub record_length : ℕ → ℕ
record_length q = 3 + (6 * q + 7) / 8

unfoldable pub misfits : List ℕ → ℕ → Bool
misfits s q = ltb (length s) 3 || not (eqb (length s) (record_length q))

-- as a number, a run of bits is 0 just where none of them is set
unfoldable pub pad_set : List ℕ → ℕ → Bool
pad_set s q = not (eqb (field s (24 + 6 * q) (pad (6 * q))) 0)

unfoldable pub unclean : List ℕ → ℕ → Bool
unclean s q = not (eqb (field s 22 2) 0) || pad_set s q
