-- What an order gives the layers above in a form that costs a load to look up.
--
--     marked g l       the matrix g, 64 entries to a row, with 1 at both entries of each edge of l
--     placed h r l     the table h, an entry for each position, with the racks r, r + 1, .. at the positions of l
--     joining g a b    the rows g, a set of positions for each position, with b in the row of a besides
--     joined_rows g l   the rows g, with the two positions of each edge of l each in the row of the other
--     rows_of F         the rows of the floor F's edges
--     racks_at l        the table of the racks 1, 2, .. at the positions of l
--     unless_refused a l    the table l behind an acceptance, an empty one behind a refusal
--     decoded_rows s, decoded_starts s, decoded_goals s    the three tables that decoding the order s leaves
-- Assumes nothing.
use Rattle.std.specs.Prelude.{ℕ, ◌+◌, ◌*◌, ◌^◌, List, [], ◌∷◌, get_or, set, replicate}
use Rattle.std.specs.Int.Bits.{bit_or}
use Rattle.answers.specs.Answer.{Answer, accepted, refused}
use Rattle.order.specs.Floor.{Floor}
use Rattle.order.specs.Order.{floor_of, starts_of, goals_of, order_answer}

unfoldable pub marked : List ℕ → List (ℕ × ℕ) → List ℕ
marked g [] = g
marked g (e ∷ l) = marked (set (set g (e.0 * 64 + e.1) 1) (e.1 * 64 + e.0) 1) l

unfoldable pub placed : List ℕ → ℕ → List ℕ → List ℕ
placed h r [] = h
placed h r (p ∷ l) = placed (set h p r) (r + 1) l

abbrev pub joining : List ℕ → ℕ → ℕ → List ℕ
joining g a b = set g a (bit_or (get_or g a 0) (2 ^ b))

unfoldable pub joined_rows : List ℕ → List (ℕ × ℕ) → List ℕ
joined_rows g [] = g
joined_rows g (e ∷ l) = joined_rows (joining (joining g e.0 e.1) e.1 e.0) l

unfoldable pub rows_of : Floor → List ℕ
rows_of F = joined_rows (replicate 64 0) F.edges

unfoldable pub racks_at : List ℕ → List ℕ
racks_at l = placed (replicate 64 0) 1 l

abbrev pub unless_refused : Answer → List ℕ → List ℕ
unless_refused (accepted counts) l = l
unless_refused (refused number place) l = replicate 64 0

unfoldable pub decoded_rows : List ℕ → List ℕ
decoded_rows s = unless_refused (order_answer s) (rows_of (floor_of s))

unfoldable pub decoded_starts : List ℕ → List ℕ
decoded_starts s = unless_refused (order_answer s) (racks_at (starts_of s))

unfoldable pub decoded_goals : List ℕ → List ℕ
decoded_goals s = unless_refused (order_answer s) (racks_at (goals_of s))
