-- The order record, from document 01, "Records" and "Returned numbers".
--
--     Order                    a floor, and for each rack a start and a goal
--     order_bits o              the record of o, as a list of bits
--     order_record o            the record of o, as a byte string
--     position_count s, edge_count s, rack_count s            n, e and m of the byte string s
--     floor_of s, starts_of s, goals_of s, order_of s          the floor, the starts and the goals that s describes, and all three
--     unit_count s              how many positions follow the counts
--     wrong_length s, wrong_positions s, padding_set s        10, 11 and 12 apply to s
--     bad_edge n e, precedes e f, ascending l, wrong_edges F what 13 says of an edge, of two, of all, and 13 itself
--     repeats l, wrong_places n l, wrong_racks o             what 14 says of starts or goals, and 14 itself
--     counts s                 n, e and m, the counts of an accepted order
--     CountsOf s n e m         n, e and m are those counts, which 8 and 7 bits keep below 256 and 128
--     order_answer s            the answer for s: the first condition that applies, else accepted
--     WellFormed s             none of 10 to 14 applies to s
-- Assumes nothing.
use Rattle.std.specs.Prelude.{ℕ, ◌+◌, ◌*◌, ◌<◌, ◌≡◌, Bool, true, false, not, ◌&&◌, ◌||◌, List, [], ◌∷◌, ◌++◌, length, leb, ltb, eqb}
use Rattle.answers.specs.Answer.{Answer, accepted, refuse}
use Rattle.field.specs.Bits.{bits, field, pairs, positions, pair_bits, position_bits, to_bytes}
use Rattle.field.specs.Units.{misfits, unclean}
use Rattle.order.specs.Floor.{Floor, some}

-- "An order gives each rack a start and a goal." Rack 1's come first.
pub record Order : Type 0 where
  pub floor : Floor
  pub starts : List ℕ
  pub goals : List ℕ

-- "n in 7 bits, edge count e in 8, m in 7, two spare zero bits; e edges …; m starts; m goals; pad."
unfoldable pub order_bits : Order → List ℕ
order_bits o =
    bits 7 o.floor.positions
    ++ bits 8 (length o.floor.edges)
    ++ bits 7 (length o.starts)
    ++ bits 2 0
    ++ pair_bits o.floor.edges
    ++ position_bits o.starts
    ++ position_bits o.goals

unfoldable pub order_record : Order → List ℕ
order_record o = to_bytes (order_bits o)

unfoldable pub position_count : List ℕ → ℕ
position_count s = field s 0 7

unfoldable pub edge_count : List ℕ → ℕ
edge_count s = field s 7 8

unfoldable pub rack_count : List ℕ → ℕ
rack_count s = field s 15 7

unfoldable pub floor_of : List ℕ → Floor
floor_of s = record { positions = position_count s; edges = pairs s 24 (edge_count s) }

unfoldable pub starts_of : List ℕ → List ℕ
starts_of s = positions s (24 + 12 * edge_count s) (rack_count s)

unfoldable pub goals_of : List ℕ → List ℕ
goals_of s = positions s (24 + 12 * edge_count s + 6 * rack_count s) (rack_count s)

unfoldable pub order_of : List ℕ → Order
order_of s = record { floor = floor_of s; starts = starts_of s; goals = goals_of s }

-- two of each edge, and a start and a goal of each rack
unfoldable pub unit_count : List ℕ → ℕ
unit_count s = 2 * (edge_count s + rack_count s)

-- 10: "order under 3 bytes, or its length is not the one its counts give". "The length is 3 bytes plus 12 × (e + m) bits rounded up to
-- bytes."
unfoldable pub wrong_length : List ℕ → Bool
wrong_length s = misfits s (unit_count s)

-- 11: "n is 0 or above 64"
unfoldable pub wrong_positions : List ℕ → Bool
wrong_positions s = eqb (position_count s) 0 || ltb 64 (position_count s)

-- 12: "a spare or pad bit of the order is set"
unfoldable pub padding_set : List ℕ → Bool
padding_set s = unclean s (unit_count s)

-- "has a position of n or more, is not lower first"
unfoldable pub bad_edge : ℕ → ℕ × ℕ → Bool
bad_edge n e = leb n e.0 || leb n e.1 || leb e.1 e.0

-- the order of edges: by the lower position, then by the higher
unfoldable pub precedes : ℕ × ℕ → ℕ × ℕ → Bool
precedes e f = ltb e.0 f.0 || eqb e.0 f.0 && ltb e.1 f.1

-- "strictly ascending"
unfoldable pub ascending : List (ℕ × ℕ) → Bool
ascending [] = true
ascending (e ∷ []) = true
ascending (e ∷ f ∷ l) = precedes e f && ascending (f ∷ l)

-- 13: "an edge has a position of n or more, is not lower first, or does not ascend"
unfoldable pub wrong_edges : Floor → Bool
wrong_edges F = some (bad_edge F.positions) F.edges || not (ascending F.edges)

-- a number of the list stands in it again
unfoldable pub repeats : List ℕ → Bool
repeats [] = false
repeats (x ∷ l) = some (eqb x) l || repeats l

unfoldable pub wrong_places : ℕ → List ℕ → Bool
wrong_places n l = some (leb n) l || repeats l

-- 14: "a start or goal is n or more, or two racks share a start or share a goal"
unfoldable pub wrong_racks : Order → Bool
wrong_racks o = wrong_places o.floor.positions o.starts || wrong_places o.floor.positions o.goals

unfoldable pub counts : List ℕ → List ℕ
counts s = position_count s ∷ edge_count s ∷ rack_count s ∷ []

pub record CountsOf (s : List ℕ) (n e m : ℕ) : Type 0 where
  pub positions_are : n ≡ position_count s
  pub edges_are : e ≡ edge_count s
  pub racks_are : m ≡ rack_count s
  pub edges_below : e < 256
  pub racks_below : m < 128

-- "The lowest number that applies is returned." The place is 0.
unfoldable pub order_answer : List ℕ → Answer
order_answer s =
    refuse (wrong_length s) 10 0
    (refuse (wrong_positions s) 11 0
    (refuse (padding_set s) 12 0
    (refuse (wrong_edges (floor_of s)) 13 0
    (refuse (wrong_racks (order_of s)) 14 0
    (accepted (counts s))))))

-- "An order is well formed if none of 10 to 14 applies to it"
abbrev pub WellFormed : List ℕ → Type 0
WellFormed s = order_answer s ≡ accepted (counts s)
