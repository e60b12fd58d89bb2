-- The floors that are sold by model. Request (a): "Five models are sold, as rows and columns: 1 is 2 by 3, 2 is 3 by 4, 3 is 4 by 4, 4 is 4
-- by 5, 5 is 8 by 8. Positions run row by row, with edges between side neighbours." In the field's terms a grid graph.
--
--     model_rows, model_columns     the table: the rows and the columns of model 1, of model 2, ..
--     rows_of k, columns_of k       the rows and the columns of model k
--     unknown_model k              the table has no model k
--     to_right c p, to_below n c p  the edge from position p to the one on its right, in a grid of n positions in rows of c, and to the one
--                                 below it
--     edges_on n c p k             those edges of the k positions p, p + 1, ..
--     grid_edges r c               all edges of a grid of r rows and c columns
--     grid r c, model_floor k      that grid as a floor, and the floor of model k
--     apart_by_one a b              the numbers a and b differ by one
--     side_by_side r c a b          the positions a and b of that grid are side neighbours
-- Assumes nothing.
use Rattle.std.specs.Prelude.{ℕ, zero, suc, ◌+◌, ◌-◌, ◌*◌, ◌/◌, ◌%◌, Bool, cond, ◌&&◌, ◌||◌, List, [], ◌∷◌, ◌++◌, length, get_or, ltb, eqb}
use Rattle.order.specs.Floor.{Floor}

-- "1 is 2 by 3, 2 is 3 by 4, 3 is 4 by 4, 4 is 4 by 5, 5 is 8 by 8"
abbrev pub model_rows : List ℕ
model_rows = 2 ∷ 3 ∷ 4 ∷ 4 ∷ 8 ∷ []

abbrev pub model_columns : List ℕ
model_columns = 3 ∷ 4 ∷ 4 ∷ 5 ∷ 8 ∷ []

-- models are counted from 1
unfoldable pub rows_of : ℕ → ℕ
rows_of k = get_or model_rows (k - 1) 0

unfoldable pub columns_of : ℕ → ℕ
columns_of k = get_or model_columns (k - 1) 0

unfoldable pub unknown_model : ℕ → Bool
unknown_model k = eqb k 0 || ltb (length model_rows) k

-- "Positions run row by row": p + 1 is to the right of p, unless p ends its row, and p + c is below p, unless p is in the last row
unfoldable pub to_right : ℕ → ℕ → List (ℕ × ℕ)
to_right c p = cond (ltb (p % c + 1) c) ((p, p + 1) ∷ []) []

unfoldable pub to_below : ℕ → ℕ → ℕ → List (ℕ × ℕ)
to_below n c p = cond (ltb (p + c) n) ((p, p + c) ∷ []) []

unfoldable pub edges_on : ℕ → ℕ → ℕ → ℕ → List (ℕ × ℕ)
edges_on n c p zero = []
edges_on n c p (suc k) = to_right c p ++ (to_below n c p ++ edges_on n c (p + 1) k)

unfoldable pub grid_edges : ℕ → ℕ → List (ℕ × ℕ)
grid_edges r c = edges_on (r * c) c 0 (r * c)

unfoldable pub grid : ℕ → ℕ → Floor
grid r c = record { positions = r * c; edges = grid_edges r c }

unfoldable pub model_floor : ℕ → Floor
model_floor k = grid (rows_of k) (columns_of k)

-- "edges between side neighbours", said of two positions in any order: row p / c and column p % c is where position p is
unfoldable pub apart_by_one : ℕ → ℕ → Bool
apart_by_one a b = eqb (a + 1) b || eqb (b + 1) a

unfoldable pub side_by_side : ℕ → ℕ → ℕ → ℕ → Bool
side_by_side r c a b =
    ltb a (r * c) && ltb b (r * c)
    && (eqb (a / c) (b / c) && apart_by_one (a % c) (b % c) || eqb (a % c) (b % c) && apart_by_one (a / c) (b / c))
