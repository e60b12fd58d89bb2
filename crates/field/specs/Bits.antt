-- Bit fields of byte strings, from document 01, "Records": "Fields are packed most significant bit first. A position is 6 bits.
-- A move is 12 bits: the position left, then the position entered. A pad is zero bits up to the next byte."
-- A byte string is a list of numbers below 256, a bit a number below 2.
--
--     bits w x          the w bits of the number x, most significant first
--     number l          the number whose bits are l
--     bits_of s          the bits of the byte string s
--     field s i w       the field of w bits at bit i of s, bits counted from 0
--     PositionAt s i p  the position at bit i of s is p, which six bits keep below 64
--     PairAt s i a b    the pair of positions at bit i of s is a and b
--     TripleAt s i a b c    the three positions at bit i of s are a, b and c
--     positions s i k   the k positions at bit i of s, one after another
--     pairs s i k       the k pairs of positions at bit i of s: an edge or a move is such a pair
--     position_bits l    the positions l as bits
--     pair_bits l        the pairs l as bits
--     pad k             how many pad bits follow k bits
--     padded l          the bits l and their pad
--     bytes n l         the first n bytes of the bits l
--     to_bytes l         the byte string whose bits are l and their pad
-- Assumes nothing.
use Rattle.std.specs.Prelude.{ℕ, zero, suc, ◌+◌, ◌-◌, ◌*◌, ◌/◌, ◌%◌, ◌^◌, ◌<◌, ◌≡◌, List, [], ◌∷◌, ◌++◌, length, take, drop, replicate}

unfoldable pub bits : ℕ → ℕ → List ℕ
bits zero x = []
bits (suc w) x = (x / 2 ^ w % 2) ∷ bits w x

unfoldable pub number : List ℕ → ℕ
number [] = 0
number (b ∷ l) = b * 2 ^ length l + number l

unfoldable pub bits_of : List ℕ → List ℕ
bits_of [] = []
bits_of (b ∷ s) = bits 8 b ++ bits_of s

unfoldable pub field : List ℕ → ℕ → ℕ → ℕ
field s i w = number (take w (drop i (bits_of s)))

pub record PositionAt (s : List ℕ) (i p : ℕ) : Type 0 where
  pub is : p ≡ field s i 6
  pub below : p < 64

pub record PairAt (s : List ℕ) (i a b : ℕ) : Type 0 where
  pub first_is : a ≡ field s i 6
  pub second_is : b ≡ field s (i + 6) 6
  pub first_below : a < 64
  pub second_below : b < 64

pub record TripleAt (s : List ℕ) (i a b c : ℕ) : Type 0 where
  pub first_is : a ≡ field s i 6
  pub second_is : b ≡ field s (i + 6) 6
  pub third_is : c ≡ field s (i + 12) 6
  pub first_below : a < 64
  pub second_below : b < 64
  pub third_below : c < 64

unfoldable pub positions : List ℕ → ℕ → ℕ → List ℕ
positions s i zero = []
positions s i (suc k) = field s i 6 ∷ positions s (i + 6) k

unfoldable pub pairs : List ℕ → ℕ → ℕ → List (ℕ × ℕ)
pairs s i zero = []
pairs s i (suc k) = (field s i 6, field s (i + 6) 6) ∷ pairs s (i + 12) k

unfoldable pub position_bits : List ℕ → List ℕ
position_bits [] = []
position_bits (p ∷ l) = bits 6 p ++ position_bits l

unfoldable pub pair_bits : List (ℕ × ℕ) → List ℕ
pair_bits [] = []
pair_bits (p ∷ l) = bits 6 p.0 ++ bits 6 p.1 ++ pair_bits l

unfoldable pub pad : ℕ → ℕ
pad k = (8 - k % 8) % 8

unfoldable pub padded : List ℕ → List ℕ
padded l = l ++ replicate (pad (length l)) 0

-- n bytes of the bits l
unfoldable pub bytes : ℕ → List ℕ → List ℕ
bytes zero l = []
bytes (suc n) l = number (take 8 l) ∷ bytes n (drop 8 l)

unfoldable pub to_bytes : List ℕ → List ℕ
to_bytes l = bytes ((length l + 7) / 8) (padded l)
